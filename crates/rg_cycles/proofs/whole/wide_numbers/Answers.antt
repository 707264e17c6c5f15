use Rattle.std.proofs.Common.{◌≡◌, ◌++◌, ◌∷◌, [], take, ap, subst, sym, ◌∙◌, rules, add-one}
use Rattle.std.specs.Prelude.{pos, FitsSigned}
use Rattle.std.specs.Int.{w64}
use Rattle.std.proofs.lemmas.Int.{to_z-of_z}
use Rattle.std.proofs.lemmas.List.Elements.{All-push}
use Rattle.std.proofs.Math.Seq.{take-suc}
use Rattle.rg_integers.specs.Range.{InRange}
use Rattle.rg_integers.specs.Sum.{number_at}
use Rattle.rg_integers.proofs.Casts.{back}
use Rattle.rg_integers.proofs.Short.{short_in_range}
use Rattle.rg_cycles.proofs.whole.wide_numbers.Goals as goal

pub loop-number-preserved : goal.loop-number-preserved
loop-number-preserved c =
    let x = number_at c.args.numbers.now c.loop-number.number-index in
    let fits : FitsSigned w64 x = search rules in
    let own = rw (to_z-of_z w64 x fits) at c.from.ensures in
    let b = back c.from.result (subst InRange (sym own) (short_in_range x fits)) in
    let next = sym (take-suc c.args.numbers.now c.loop-number.number-index (pos 0) c.loop-number-test.true) ∙ ap (λ m. take m c.args.numbers.now) (sym (add-one c.loop-number.number-index)) in
    record {
      same = rw (c.in_ok-push.ensures.items, b, own, c.loop-number.invariant.same) next;
      in_range = rw (c.in_ok-push.ensures.items, b, own) (All-push InRange c.loop-number.wide.items x c.loop-number.invariant.in_range (short_in_range x fits));
    }
