use Rattle.std.proofs.Common.{◌≡◌}
use Rattle.rg_separate.specs.Deciding.{AreTried, CasesCameTo}
use Rattle.rg_separate.proofs.problem.solve_live.Given as goal

abbrev pub invariant-loop-case : goal.invariant-loop-case
invariant-loop-case l = record {
  tried : AreTried l.problems.setting.lts.now l.problems.setting.class l.problem l.case l.tried;
  come : CasesCameTo l.problems.setting l.problem l.case l.tried;
  same : l.solver ≡ l.initial.solver;
}
