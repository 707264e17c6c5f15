use Rattle.rg_checks.proofs.Forks.{NoneAdjacent}
use Rattle.rg_checks.proofs.fork.least_fork.Given as goal

abbrev pub invariant-loop-i : goal.invariant-loop-i
invariant-loop-i l = NoneAdjacent l.arcs l.i
