use Rattle.std.proofs.Common.{refl}
use Rattle.worked_runs.proofs.Alike.{alike}
use Rattle.worked_runs.proofs.tests.twice.two_ends.Goals as goal

pub returns : goal.returns
returns g c = record {
  alike = λ decided. alike c.answers_are_one.ensures _ _ c.run-first.result c.run-second.result refl c.run-first.ensures.files decided c.run-first.ensures.ends c.run-second.ensures.ends;
}
