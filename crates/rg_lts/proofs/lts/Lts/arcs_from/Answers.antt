-- The arcs of a state are a run of the arcs in order.
use Rattle.std.proofs.Common.{◌≡◌, ◌↔◌, List, Contains, AllPairs, subst, sym}
use Rattle.rg_theory.specs.declared.Arc.{Arc}
use Rattle.rg_theory.specs.System.{IsArcBefore}
use Rattle.rg_lts.proofs.ArcRuns.{IsRun, run, part, run_order, run_members}
use Rattle.rg_lts.proofs.lts.Lts.arcs_from.Goals as goal
use Rattle.rg_lts.proofs.lts.Lts.arcs_from.Goals.{After-first_index-end}

state_run : (c : After-first_index-end) → IsRun c.arcs-arcs.result.now c.args.s c.first_index-start.result c.first_index-end.result
state_run c =
    let start = c.first_index-start in
    let end = c.first_index-end in
    run c.arcs-arcs.result.now c.args.s start.result end.result start.ensures.within start.ensures.before start.ensures.behind
    end.ensures.within end.ensures.before end.ensures.behind

pub slice_bounds-result-count : goal.slice_bounds-result-count
slice_bounds-result-count c = (state_run (goal.at.slice_bounds-result-count c).After-first_index-end).rises

pub slice_bounds-result-start : goal.slice_bounds-result-start
slice_bounds-result-start c = (state_run (goal.at.slice_bounds-result-start c).After-first_index-end).rises

pub returns-clause-members : goal.returns-clause-members
returns-clause-members c =
    subst (λ (arcs : List Arc). (a : Arc) → Contains (part c.arcs-arcs.result.now c.first_index-start.result c.first_index-end.result) a
    ↔ (Contains arcs a × (a.from ≡ c.args.s))) c.arcs-arcs.ensures.value
    (run_members c.arcs-arcs.result.now c.args.s c.first_index-start.result c.first_index-end.result (state_run (goal.at.returns-clause-members c).After-first_index-end))

pub returns-clause-order : goal.returns-clause-order
returns-clause-order c =
    run_order c.arcs-arcs.result.now c.first_index-start.result c.first_index-end.result c.first_index-end.ensures.within
    (subst (λ (arcs : List Arc). AllPairs IsArcBefore arcs) (sym c.arcs-arcs.ensures.value) c.arcs-arcs.ensures.well_formed.arc_order)
