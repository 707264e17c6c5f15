-- Each arc that leaves the state is followed.
use Rattle.std.proofs.Common.{◌≡◌, ◌↔◌, ◌<◌, ℕ, List, length, ◌+◌, true, true≢false, Contains, get_or, sym, subst, ◌∙◌, arith}
use Rattle.std.proofs.lemmas.List.Elements.{All-contains, Contains-get_or}
use Rattle.rg_theory.specs.declared.Arc.{Arc}
use Rattle.rg_theory.specs.System.{arc}
use Rattle.rg_checks.specs.declared.graph.Walk.{Walk}
use Rattle.rg_checks.specs.Closure.{IsArcOf, follows, is_met}
use Rattle.rg_checks.proofs.Walking.{IsFollowing, goes_nowhere, follows_more}
use Rattle.rg_checks.proofs.graph.follow.Goals.{then-graph-arc+in_ok-meet, else-graph-arc}
use Rattle.rg_checks.proofs.graph.follow.Goals as goal

-- the arc with this index is one of the graph, and leaves the state
here : (arcs leaving : List Arc) (s i : ℕ) → ((a : Arc) → Contains leaving a ↔ (Contains arcs a × (a.from ≡ s))) → i < length leaving
    → Contains arcs (get_or leaving i (arc 0 0 0)) × ((get_or leaving i (arc 0 0 0)).from ≡ s)
here arcs leaving s i members lt = (members (get_or leaving i (arc 0 0 0))).0 (Contains-get_or leaving i (arc 0 0 0) lt)

pub leaving-arc-items-requires : goal.leaving-arc-items-requires
leaving-arc-items-requires c = c.requires.graph.order

pub bounds-graph-arc : goal.bounds-graph-arc
bounds-graph-arc c =
    let g = c.args.graph in
    let at = here g.arcs.now c.leaving-arc-items.result.now c.args.s c.loop-arc.arc-index c.leaving-arc-items.ensures c.loop-arc-test.true in
    let r = (All-contains (IsArcOf g) g.arcs.now _ c.requires.graph.in_range at.0).1 in
    omega (arith, r)

pub meet-requires-clause-met : goal.meet-requires-clause-met
meet-requires-clause-met c =
    let g = c.args.graph in
    let at = here g.arcs.now c.leaving-arc-items.result.now c.args.s c.loop-arc.arc-index c.leaving-arc-items.ensures c.loop-arc-test.true in
    subst (λ s. is_met g.initial c.loop-arc.walk.steps.items s ≡ true) (sym at.1) (c.loop-arc.invariant.goes_on.met c.args.s c.requires.met)

pub meet-requires-clause-follows : goal.meet-requires-clause-follows
meet-requires-clause-follows c =
    let at = here c.args.graph.arcs.now c.leaving-arc-items.result.now c.args.s c.loop-arc.arc-index c.leaving-arc-items.ensures c.loop-arc-test.true in
    (at.0, c.if-graph-arc.true)

pub loop-arc-preserved : goal.loop-arc-preserved
loop-arc-preserved c =
    let g = c.args.graph in
    let before = c.args.walk.now in
    let now = c.loop-arc.walk in
    let leaving = c.leaving-arc-items.result.now in
    let i = c.loop-arc.arc-index in
    elim c.if-graph-arc.branch [
      | then-graph-arc+in_ok-meet w ↦
          subst (λ (v : Walk). IsFollowing (follows g) g.states g.initial before.steps.items before.waiting.items v.steps.items v.waiting.items leaving (i + 1)) (sym w.walk-is)
          (follows_more (follows g) g.states g.initial before.steps.items before.waiting.items now.steps.items now.waiting.items leaving i (arc 0 0 0)
          w.meet.new.walk.steps.items w.meet.new.walk.waiting.items c.loop-arc.invariant c.loop-arc-test.true w.in_ok-meet.ensures.walk w.in_ok-meet.ensures.goes_on
          (λ has. w.in_ok-meet.ensures.meets))
      | else-graph-arc w ↦
          subst (λ (v : Walk). IsFollowing (follows g) g.states g.initial before.steps.items before.waiting.items v.steps.items v.waiting.items leaving (i + 1)) (sym w.walk-is)
          (follows_more (follows g) g.states g.initial before.steps.items before.waiting.items now.steps.items now.waiting.items leaving i (arc 0 0 0)
          now.steps.items now.waiting.items c.loop-arc.invariant c.loop-arc-test.true c.loop-arc.invariant.walk (goes_nowhere g.initial now.steps.items now.waiting.items)
          (λ has. absurd (true≢false (sym has.1 ∙ w.if-graph-arc.false))))
    ]

pub returns-clause-all : goal.returns-clause-all
returns-clause-all c = λ a has from.
    (let g = c.args.graph in
    let (k, lt, at) = (c.leaving-arc-items.ensures a).1 (has.0, from) in
    subst (λ (x : Arc). is_met g.initial c.loop-arc.walk.steps.items x.to ≡ true) at
    (c.loop-arc.invariant.done k a (omega (arith, lt, c.loop-arc-test.false)) (subst (follows g) (sym at) has)))
