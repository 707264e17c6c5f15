use Rattle.std.proofs.Common.{[], ◌∷◌}
use Rattle.rg_theory.proofs.Trees.{reachable_is_met, tree_arcs, way_of_initial, way_joins, way_leads, one_way}
use Rattle.rg_case_folds.proofs.spanning.ways_are_one.Goals as goal

pub returns-clause-met : goal.returns-clause-met
returns-clause-met c = reachable_is_met

pub returns-clause-arcs : goal.returns-clause-arcs
returns-clause-arcs c = λ lts tree a g has. tree_arcs lts (lts.initial ∷ []) tree a g has

pub returns-clause-begins : goal.returns-clause-begins
returns-clause-begins c = way_of_initial

pub returns-clause-joins : goal.returns-clause-joins
returns-clause-joins c = λ lts tree a g has. way_joins lts (λ s. []) (lts.initial ∷ []) tree a g has

pub returns-clause-leads : goal.returns-clause-leads
returns-clause-leads c = way_leads

pub returns-clause-one : goal.returns-clause-one
returns-clause-one c = one_way
