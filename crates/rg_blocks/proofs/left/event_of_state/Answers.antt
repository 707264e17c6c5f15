use Rattle.std.proofs.Common.{◌+◌, get_or, sym, ◌∙◌, arith}
use Rattle.rg_theory.specs.System.{arc}
use Rattle.rg_theory.specs.declared.Problem.TheVariants.{Event}
use Rattle.rg_blocks.specs.Left.{IsFirstFrom, NoneBetween}
use Rattle.rg_blocks.proofs.LeftLemmas.{none_found, none_further, some_found, no_arc_after, no_arc_before, label_within, leaving_arc, passed_more, between_both, first_behind, over_arc, all_labels, events_before}
use Rattle.rg_blocks.proofs.left.event_of_state.Goals as goal

pub event_between-found-requires-clause-labels : goal.event_between-found-requires-clause-labels
event_between-found-requires-clause-labels g c =
    let within = label_within c.args.lts.now c.args.s c.arcs_from-arc-items.result.now c.arcs_from-arc-items.ensures.members c.loop-arc.arc-index (arc 0 0 0)
    c.labels-labels.ensures.well_formed.in_range c.loop-arc-test.true in
    omega arith

pub event_between-found-requires-clause-no_arc : goal.event_between-found-requires-clause-no_arc
event_between-found-requires-clause-no_arc g c =
    no_arc_before c.args.lts.now c.args.s c.arcs_from-arc-items.result.now c.arcs_from-arc-items.ensures.members c.loop-arc.arc-index c.loop-arc.next (arc 0 0 0)
    c.arcs_from-arc-items.ensures.order c.loop-arc.invariant.passed c.loop-arc-test.true

pub returns-then-is_some-clause-some : goal.returns-then-is_some-clause-some
returns-then-is_some-clause-some g c =
    let lts = c.args.lts.now in
    let kept = g.K.Keeping.places c.args.kept.now in
    let bound = Event c.args.s c.args.first in
    let next = Event c.args.s c.loop-arc.next in
    some_found c.event_between-found.result (IsFirstFrom lts kept next) (IsFirstFrom lts kept bound)
    (λ problem first. first_behind lts kept bound next problem (events_before lts kept c.args.s c.args.first c.loop-arc.next c.loop-arc.invariant.from) c.loop-arc.invariant.none first)
    c.event_between-found.ensures.some

pub overflow_add-arc : goal.overflow_add-arc
overflow_add-arc g c =
    let within = label_within c.args.lts.now c.args.s c.arcs_from-arc-items.result.now c.arcs_from-arc-items.ensures.members c.loop-arc.arc-index (arc 0 0 0)
    c.labels-labels.ensures.well_formed.in_range c.loop-arc-test.true in
    let few = c.labels-labels.ensures.well_formed.few_labels in
    omega arith

pub loop-arc-preserved : goal.loop-arc-preserved
loop-arc-preserved g c =
    let lts = c.args.lts.now in
    let kept = g.K.Keeping.places c.args.kept.now in
    let leaving = c.arcs_from-arc-items.result.now in
    let members = c.arcs_from-arc-items.ensures.members in
    let i = c.loop-arc.arc-index in
    let label = (get_or leaving i (arc 0 0 0)).label in
    let max = c.max-next.ensures in
    record {
      from = (let from = c.loop-arc.invariant.from in omega arith);
      none = over_arc lts kept (Event c.args.s c.args.first) c.args.s c.loop-arc.next label c.max-next.result (get_or leaving i (arc 0 0 0)).to c.loop-arc.invariant.none
          (none_found c.event_between-found.result (NoneBetween lts kept (Event c.args.s c.loop-arc.next) (Event c.args.s label)) (sym c.is_some.ensures ∙ c.if-is_some.false) c.event_between-found.ensures.none)
          (leaving_arc lts c.args.s leaving members i (arc 0 0 0) c.loop-arc-test.true) (λ less. omega arith) (λ le. omega arith);
      passed = passed_more lts c.args.s leaving members i c.loop-arc.next c.max-next.result (arc 0 0 0) c.loop-arc.invariant.passed c.loop-arc-test.true (omega arith) (omega arith);
    }

pub event_between-requires-clause-no_arc : goal.event_between-requires-clause-no_arc
event_between-requires-clause-no_arc g c =
    no_arc_after c.args.lts.now c.args.s c.arcs_from-arc-items.result.now c.arcs_from-arc-items.ensures.members c.loop-arc.arc-index c.loop-arc.next _
    c.loop-arc.invariant.passed c.loop-arc-test.false

pub returns-clause-none : goal.returns-clause-none
returns-clause-none g c =
    let lts = c.args.lts.now in
    let kept = g.K.Keeping.places c.args.kept.now in
    let bound = Event c.args.s c.args.first in
    let next = Event c.args.s c.loop-arc.next in
    let end = Event c.args.s c.labels-labels.result in
    none_further c.event_between.result (NoneBetween lts kept next end) (NoneBetween lts kept bound (Event (c.args.s + 1) 0))
    (λ none. all_labels lts kept bound c.args.s c.labels-labels.result c.labels-labels.ensures.value (between_both lts kept bound next end c.loop-arc.invariant.none none))
    c.event_between.ensures.none
