use Rattle.rg_marks.proofs.Refining.{SameSoFar}
use Rattle.rg_marks.proofs.cells.are_same_within.Given as goal

abbrev pub invariant-loop-s : goal.invariant-loop-s
invariant-loop-s l = SameSoFar l.cells l.tokens l.s
