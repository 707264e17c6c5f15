use Rattle.std.proofs.Common.{◌+◌, arith, refl, sym, subst}
use Rattle.rg_checks.specs.Lost.{AreLabelled}
use Rattle.rg_theory.specs.System.{arc}
use Rattle.rg_checks.proofs.Losing.{IsFirstSoFar, steps_lead, target_in_range, none_more_to, next_first, first_by, none_by}
use Rattle.rg_checks.proofs.lost.loss_by.Goals as goal
use Rattle.rg_checks.proofs.lost.loss_by.Goals.{After-arcs_with_label-steps, in-Some, in_default}

labelled : (c : After-arcs_with_label-steps) → AreLabelled c.args.lts.now c.args.s c.args.t c.arcs_with_label-steps.result.now
labelled c =
    let members = c.arcs_with_label-steps.ensures.members in
    record {
      members = λ a has. (members a).0 has;
      every = λ to has. (members (arc c.args.s c.args.t to)).1 (has, refl, refl);
      order = c.arcs_with_label-steps.ensures.order;
    }

pub loss_to-requires-clause-entered : goal.loss_to-requires-clause-entered
loss_to-requires-clause-entered c =
    target_in_range c.args.lts.now c.args.s c.args.t c.loop-arc.arc-index (arc 0 0 0) c.arcs_with_label-steps.result.now c.is_well_formed.ensures.in_range
    (labelled (goal.at.loss_to-requires-clause-entered c).After-arcs_with_label-steps) c.loop-arc-test.true

pub loss_to-requires-clause-step : goal.loss_to-requires-clause-step
loss_to-requires-clause-step c =
    steps_lead c.args.lts.now c.args.s c.args.t c.arcs_with_label-steps.result.now (labelled (goal.at.loss_to-requires-clause-step c).After-arcs_with_label-steps)
    c.loop-arc.arc-index (arc 0 0 0) c.loop-arc-test.true

pub loop-arc-preserved : goal.loop-arc-preserved
loop-arc-preserved c =
    let are = labelled (goal.at.loop-arc-preserved c).After-arcs_with_label-steps in
    let lts = c.args.lts.now in
    let steps = c.arcs_with_label-steps.result.now in
    let i = c.loop-arc.arc-index in
    elim c.match-loss_to.branch [
      | in-Some w ↦
          subst (IsFirstSoFar lts c.args.s c.args.t steps (i + 1)) (sym w.least-is)
          (next_first lts c.args.s c.args.t steps are i w.in-Some.u (arc 0 0 0) c.loop-arc.least w.earlier.result c.loop-arc-test.true c.loop-arc.invariant w.in-Some.ensures.least
          w.earlier.ensures.first w.earlier.ensures.second w.earlier.ensures.only)
      | in_default w ↦
          subst (IsFirstSoFar lts c.args.s c.args.t steps (i + 1)) (sym w.least-is)
          (none_more_to lts c.args.s c.args.t steps are i (arc 0 0 0) c.loop-arc.least c.loop-arc-test.true c.loop-arc.invariant w.in_default.ensures.none)
    ]

pub returns-clause-least : goal.returns-clause-least
returns-clause-least c =
    first_by c.args.lts.now c.args.s c.args.t c.arcs_with_label-steps.result.now (labelled (goal.at.returns-clause-least c).After-arcs_with_label-steps) c.loop-arc.arc-index
    c.loop-arc.least (let n = c.loop-arc-test.false in omega (arith, n)) c.loop-arc.invariant

pub returns-clause-none : goal.returns-clause-none
returns-clause-none c =
    none_by c.args.lts.now c.args.s c.args.t c.arcs_with_label-steps.result.now (labelled (goal.at.returns-clause-none c).After-arcs_with_label-steps) c.loop-arc.arc-index
    c.loop-arc.least (let n = c.loop-arc-test.false in omega (arith, n)) c.loop-arc.invariant
