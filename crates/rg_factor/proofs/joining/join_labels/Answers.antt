use Rattle.std.proofs.Common.{◌≡◌, ap, subst, ◌∙◌, arith}
use Rattle.std.specs.List.{range_with_len}
use Rattle.rg_theory.specs.System.{states}
use Rattle.rg_product.specs.Squares.{broken_at}
use Rattle.rg_factor.specs.Joining.{AreJoinedBefore}
use Rattle.rg_factor.proofs.Joinings.{joined_none}
use Rattle.rg_factor.proofs.joining.join_labels.Goals as goal

pub loop-s-init : goal.loop-s-init
loop-s-init c = joined_none c.args.lts.now _ _ (c.in_ok-all_labels.ensures ∙ ap (range_with_len 0) c.labels.ensures.value) c.new.ensures.items

pub returns : goal.returns
returns c =
    let lts = c.args.lts.now in
    let value = c.states-s-end.ensures.value in
    let all = c.loop-s-test.false in
    let most = c.loop-s.auto.s-end in
    let end : c.loop-s.s ≡ states lts = omega arith in
    subst (λ s. AreJoinedBefore lts (broken_at s 0 0) c.loop-s.joining.leasts.items c.loop-s.joining.squares.items) end c.loop-s.invariant
