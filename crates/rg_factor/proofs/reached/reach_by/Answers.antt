-- The arcs of the block make a graph, and what they reach are the states that the block reaches.
use Rattle.std.proofs.Common.{◌≡◌, ◌≤◌, ◌==◌, true, false, length, map, get_or, AllPairs, Contains, sym, ap, subst, ◌∙◌, arith}
use Rattle.std.proofs.lemmas.List.{length-map}
use Rattle.std.proofs.lemmas.List.Elements.{All-contains}
use Rattle.rg_theory.specs.declared.Arc.{Arc}
use Rattle.rg_theory.specs.System.{states, labels, IsArcInRange}
use Rattle.rg_product.specs.Factoring.{AreReachedBy}
use Rattle.rg_checks.specs.declared.graph.Graph.{Graph}
use Rattle.rg_checks.specs.Closure.{follows}
use Rattle.rg_checks.proofs.Graphs.{by_states, is_graph, closure_of}
use Rattle.rg_factor.specs.Blocks.{block_at}
use Rattle.rg_factor.specs.Reached.{all_met}
use Rattle.rg_factor.proofs.Reaching.{label_there, label_from, reached_are}
use Rattle.rg_factor.proofs.reached.reach_by.Goals as goal

pub closure-requires : goal.closure-requires
closure-requires c =
    let lts = c.args.lts.now in
    let g : Graph = record { arcs = c.arcs.result; labels = c.deref.result; states = c.states.result; initial = c.initial.result } in
    let formed = c.states.ensures.well_formed in
    let all : g.labels.now ≡ map (λ l. l == c.args.least) c.args.leasts.now = c.deref.ensures.value ∙ c.in_ok-labels.ensures in
    is_graph lts g formed.in_range c.states.ensures.value
    (λ a has. All-contains (IsArcInRange lts) lts.arcs a formed.in_range.arcs (subst (λ xs. Contains xs a) c.arcs.ensures.value has))
    (ap length all ∙ length-map c.args.leasts.now (λ l. l == c.args.least) ∙ c.requires)
    (subst (λ xs. AllPairs (λ (a b : Arc). a.from ≤ b.from) xs) (sym c.arcs.ensures.value) (by_states lts.arcs formed.arc_order)) c.initial.ensures.value

pub list_met-requires : goal.list_met-requires
list_met-requires c =
    let few = c.states.ensures.well_formed.few_states in
    let n = c.in_ok-steps.ensures.long in
    let m = c.states.ensures.value in
    let k = ap length c.deref-2.ensures.value in
    omega (arith, few, n, m, k)

pub returns : goal.returns
returns c =
    let lts = c.args.lts.now in
    let block = block_at c.args.leasts.now c.args.least in
    let steps = c.in_ok-steps.steps.items in
    let g : Graph = record { arcs = c.arcs.result; labels = c.deref.result; states = c.states.result; initial = c.initial.result } in
    let all : g.labels.now ≡ map (λ l. l == c.args.least) c.args.leasts.now = c.deref.ensures.value ∙ c.in_ok-labels.ensures in
    let any : (a : Arc) → Contains lts.arcs a → Contains block a.label → follows g a = λ a has inside. (
      subst (λ xs. Contains xs a) (sym c.arcs.ensures.value) has,
      subst (λ xs. get_or xs a.label false ≡ true) (sym all) (label_there c.args.leasts.now c.args.least a.label inside),
    ) in
    let only : (a : Arc) → follows g a → Contains lts.arcs a × Contains block a.label = λ a has. (
      subst (λ xs. Contains xs a) c.arcs.ensures.value has.0,
      label_from c.args.leasts.now c.args.least a.label (subst (λ xs. get_or xs a.label false ≡ true) all has.1),
    ) in
    let told : c.in_ok-list_met.field-0.items ≡ all_met lts.initial steps =
    c.in_ok-list_met.ensures ∙ ap (all_met c.initial-2.result) c.deref-2.ensures.value ∙ ap (λ i. all_met i steps) c.initial-2.ensures.value in
    subst (AreReachedBy lts block) (sym told)
    (reached_are lts block (follows g) any only c.states.ensures.well_formed.in_range.initial steps
    (closure_of (follows g) g.states (states lts) g.initial lts.initial steps c.states.ensures.value c.initial.ensures.value c.in_ok-steps.ensures))
