use Rattle.std.proofs.Common.{vec_len}
use Rattle.rg_verify.specs.Sums.{IsTidy, HasSameVariables}
use Rattle.rg_verify.proofs.sums.Sums.clear.Given as goal

abbrev pub invariant-loop-variable : goal.invariant-loop-variable
invariant-loop-variable l = record { tidy : IsTidy l.self; variables : HasSameVariables l.initial.self l.self }

abbrev pub decreases-loop-variable : goal.decreases-loop-variable
decreases-loop-variable l = vec_len l.self.touched
