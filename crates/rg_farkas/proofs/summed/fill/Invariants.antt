use Rattle.rg_farkas.proofs.Filling.{Filled}
use Rattle.rg_farkas.proofs.summed.fill.Given as goal

abbrev pub invariant-loop-i : goal.invariant-loop-i
invariant-loop-i l = Filled l.rows l.tree l.i l.sums l.multipliers l.bound
