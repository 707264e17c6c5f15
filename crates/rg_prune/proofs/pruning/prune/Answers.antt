use Rattle.std.proofs.Common.{All, sym, subst}
use Rattle.std.proofs.lemmas.List.Elements.{All-map}
use Rattle.rg_net.specs.Shown.{shown_place}
use Rattle.rg_marks.specs.Tokens.{IsNarrow}
use Rattle.rg_prune.proofs.pruning.prune.Goals as goal

pub drop_unneeded-requires-clause-narrow : goal.drop_unneeded-requires-clause-narrow
drop_unneeded-requires-clause-narrow c =
    subst (All (IsNarrow c.args.lts.now)) (sym c.in_ok-compact.ensures)
    (All-map (IsNarrow c.args.lts.now) shown_place c.deref-3.result.now
    (subst (All (λ p. IsNarrow c.args.lts.now (shown_place p))) (sym c.deref-3.ensures.value) c.requires.narrow))
