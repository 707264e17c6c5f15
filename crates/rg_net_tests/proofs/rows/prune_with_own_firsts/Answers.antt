use Rattle.std.proofs.Common.{All, sym, subst}
use Rattle.std.proofs.lemmas.List.Elements.{All-map}
use Rattle.rg_net.specs.Shown.{shown_place}
use Rattle.rg_marks.specs.Tokens.{IsNarrow}
use Rattle.rg_net_tests.proofs.rows.prune_with_own_firsts.Goals as goal

pub prune_with_firsts-requires-clause-narrow : goal.prune_with_firsts-requires-clause-narrow
prune_with_firsts-requires-clause-narrow c =
    subst (All (IsNarrow c.args.lts.now)) (sym c.in-Ok.ensures)
    (All-map (IsNarrow c.args.lts.now) shown_place c.deref-2.result.now (subst (All (λ p. IsNarrow c.args.lts.now (shown_place p))) (sym c.deref-2.ensures.value) c.in_ok-places.ensures.narrow))
