use Rattle.rg_marks.proofs.Refining.{NumberedSoFar}
use Rattle.rg_marks.proofs.cells.refine_cells.Given as goal

abbrev pub invariant-loop-s : goal.invariant-loop-s
invariant-loop-s l = NumberedSoFar l.cells l.tokens l.seen.keys l.firsts.items l.refined.items l.s
