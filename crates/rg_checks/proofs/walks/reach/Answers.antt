-- The arcs of the system make a graph, and what they reach are the states that can be reached.
use Rattle.std.proofs.Common.{rules, ◌≡◌, true, replicate, Contains, ap, sym, subst, ◌∙◌}
use Rattle.std.proofs.lemmas.Result.{IfOk-weaker}
use Rattle.std.proofs.lemmas.List.Elements.{All-contains}
use Rattle.rg_theory.specs.declared.Arc.{Arc}
use Rattle.rg_theory.specs.System.{states, labels, IsArcInRange}
use Rattle.rg_checks.specs.declared.graph.Graph.{Graph}
use Rattle.rg_checks.specs.Closure.{follows, IsClosure}
use Rattle.rg_checks.specs.Met.{AreSteps}
use Rattle.rg_checks.proofs.Graphs.{followed, closure_of}
use Rattle.rg_checks.proofs.Reaching.{steps_are}
use Rattle.rg_checks.proofs.walks.reach.Goals as goal

pub returns : goal.returns
returns c =
    let lts = c.args.lts.now in
    let g : Graph = record { arcs = c.arcs.result; labels = c.deref.result; states = c.states.result; initial = c.initial.result } in
    let fine = c.labels.ensures.well_formed.in_range in
    let all : g.labels.now ≡ replicate (labels lts) true =
    c.deref.ensures.value ∙ c.in_ok-labels.ensures.items_if_clones_equal (search rules) ∙ ap (λ n. replicate n true) c.labels.ensures.value in
    let any = λ (a : Arc) (has : Contains lts.arcs a). followed lts g fine c.states.ensures.value
    (λ b there. All-contains (IsArcInRange lts) lts.arcs b fine.arcs (subst (λ xs. Contains xs b) c.arcs.ensures.value there)) all a
    (subst (λ xs. Contains xs a) (sym c.arcs.ensures.value) has) in
    IfOk-weaker c.closure.result (λ v. IsClosure (follows g) g.states g.initial v.items) (λ v. AreSteps lts v.items)
    (λ v is. steps_are lts (follows g) any (λ a has. subst (λ xs. Contains xs a) c.arcs.ensures.value has.0) fine v.items
    (closure_of (follows g) g.states (states lts) g.initial lts.initial v.items c.states.ensures.value c.initial.ensures.value is))
    c.closure.ensures
