use Rattle.std.proofs.Common.{subst, sym}
use Rattle.rg_folds.specs.Fold.{ratio_of, shown_result}
use Rattle.rg_cycles.specs.View.{cycle_of}
use Rattle.rg_cycles.specs.Basis.{ShowsRelation}
use Rattle.rg_places.proofs.ShareSteps.{dependent_made, indices_within, free_made}
use Rattle.rg_places.specs.Steps.{value_by}
use Rattle.rg_places.proofs.effects.effect.Goals as goal

pub sum_of_shares-requires-clause-indices : goal.sum_of_shares-requires-clause-indices
sum_of_shares-requires-clause-indices c =
    let (lts, same, are) = c.requires.columns in
    indices_within lts (cycle_of c.args.basis.now) c.args.columns.now c.args.t c.in-Some.relation.now are
    (subst (λ n. ShowsRelation n (cycle_of c.args.basis.now) c.args.t c.in-Some.relation.now) (sym same) c.in-Some.ensures.exact.1)

pub returns-in-Some : goal.returns-in-Some
returns-in-Some c = λ lts same are. dependent_made lts (cycle_of c.args.basis.now) c.args.columns.now c.args.t c.in-Some.relation.now are
    (subst (λ n. ShowsRelation n (cycle_of c.args.basis.now) c.args.t c.in-Some.relation.now) (sym same) c.in-Some.ensures.exact.1) c.in-Some.ensures.exact.0
    (shown_result ratio_of c.sum_of_shares.result) c.sum_of_shares.ensures

pub returns-in-None : goal.returns-in-None
returns-in-None c = λ lts same are. free_made lts (cycle_of c.args.basis.now) (value_by c.args.columns.now) c.args.t (ratio_of c.args.value) c.in-None.ensures.exact c.requires.value
