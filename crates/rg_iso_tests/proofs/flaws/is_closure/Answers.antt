-- The arcs of the system make a graph.
use Rattle.std.proofs.Common.{◌≤◌, AllPairs, Contains, sym, subst}
use Rattle.std.proofs.lemmas.List.Elements.{All-contains}
use Rattle.rg_theory.specs.declared.Arc.{Arc}
use Rattle.rg_theory.specs.System.{IsArcInRange}
use Rattle.rg_checks.specs.declared.graph.Graph.{Graph}
use Rattle.rg_checks.proofs.Graphs.{by_states, is_graph}
use Rattle.rg_iso_tests.proofs.flaws.is_closure.Goals as goal

pub closure-requires : goal.closure-requires
closure-requires c =
    let lts = c.args.lts.now in
    let g : Graph = record { arcs = c.arcs.result; labels = c.args.among; states = c.states.result; initial = c.initial.result } in
    let formed = c.states.ensures.well_formed in
    is_graph lts g formed.in_range c.states.ensures.value
    (λ a has. All-contains (IsArcInRange lts) lts.arcs a formed.in_range.arcs (subst (λ xs. Contains xs a) c.arcs.ensures.value has))
    c.requires
    (subst (λ xs. AllPairs (λ (a b : Arc). a.from ≤ b.from) xs) (sym c.arcs.ensures.value) (by_states lts.arcs formed.arc_order)) c.initial.ensures.value
