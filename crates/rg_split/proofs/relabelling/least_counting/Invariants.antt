use Rattle.rg_split.specs.Leaves.{IsLeastBelow}
use Rattle.rg_split.proofs.relabelling.least_counting.Given as goal

abbrev pub invariant-loop-i : goal.invariant-loop-i
invariant-loop-i l = IsLeastBelow l.arcs l.sums l.i l.least
