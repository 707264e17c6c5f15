use Rattle.std.proofs.Common.{inl, ap, sym, subst}
use Rattle.rg_theory.specs.declared.Problem.{Problem}
use Rattle.rg_net.specs.Shown.{shown_place}
use Rattle.rg_places.specs.RegionPlaces.{PlaceSeparates}
use Rattle.rg_outcome.specs.Solving.{Solved.placed, ProblemComes}
use Rattle.rg_case_parts.specs.SettingViews.{shown_setting}
use Rattle.rg_separate.proofs.problem.solve_problem.Goals as goal

pub block_label-requires-clause-dead : goal.block_label-requires-clause-dead
block_label-requires-clause-dead c = c.is_dead.ensures.0 c.if-is_dead.true

pub returns-in_ok-block_label-in-Event-clause-tells : goal.returns-in_ok-block_label-in-Event-clause-tells
returns-in_ok-block_label-in-Event-clause-tells c = (
  c.in_ok-block_label-in-Event.ensures.region c.args.problems.setting.class,
  subst (λ (p : Problem). PlaceSeparates p c.in_ok-block_label-in-Event.field-0) (sym c.in-Event.is) (c.in_ok-block_label-in-Event.ensures.separates c.in-Event.field-0),
)

pub returns-in_ok-block_label-in-Event-clause-comes : goal.returns-in_ok-block_label-in-Event-clause-comes
returns-in_ok-block_label-in-Event-clause-comes c =
    let setting = c.args.problems.setting in
    subst (λ (p : Problem). ProblemComes (shown_setting setting) p (placed (shown_place c.in_ok-block_label-in-Event.field-0.place))) (sym c.in-Event.is)
    (inl (c.is_dead.ensures.0 c.if-is_dead.true, ap placed c.in_ok-block_label-in-Event.ensures.place))
