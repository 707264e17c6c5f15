use Rattle.std.proofs.Common.{◌≡◌, ◌-◌, ◌+◌, ◌∙◌, sym, ap, arith, refl}
use Rattle.std.specs.List.{list_any}
use Rattle.rg_net.specs.NetText.{blocks, candidate, place_prefix}
use Rattle.rg_netfile.proofs.Prefixes.{free_here, free_later}
use Rattle.rg_netfile.proofs.prefix.free_prefix.Goals as goal

pub loop-k-init : goal.loop-k-init
unfolding place_prefix
loop-k-init c = refl

pub returns-then-not-is_blocked : goal.returns-then-not-is_blocked
returns-then-not-is_blocked c =
    let names = c.args.lts.now.label_names in
    let free : list_any (blocks (candidate c.loop-k.k)) names ≡ _ =
    ap (λ p. list_any (blocks p) names) (sym (c.deref.ensures.value ∙ c.in_ok-prefix.ensures)) ∙ sym c.is_blocked.ensures
    ∙ c.if-not-is_blocked.true in
    c.in_ok-prefix.ensures ∙ sym (free_here names c.loop-k.k (256 - c.loop-k.k) (257 - c.loop-k.k) (omega arith) free) ∙ c.loop-k.invariant

pub loop-k-preserved : goal.loop-k-preserved
loop-k-preserved c =
    let names = c.args.lts.now.label_names in
    let blocked : list_any (blocks (candidate c.loop-k.k)) names ≡ _ =
    ap (λ p. list_any (blocks p) names) (sym (c.deref.ensures.value ∙ c.in_ok-prefix.ensures)) ∙ sym c.is_blocked.ensures
    ∙ c.if-not-is_blocked.false in
    sym (free_later names c.loop-k.k (257 - (c.loop-k.k + 1)) (257 - c.loop-k.k) (omega arith) blocked) ∙ c.loop-k.invariant
