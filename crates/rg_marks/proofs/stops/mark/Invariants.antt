use Rattle.rg_marks.specs.Stops.{rows_in}
use Rattle.rg_marks.proofs.Marking.{MarkedSoFar}
use Rattle.rg_marks.proofs.stops.mark.Given as goal

abbrev pub invariant-loop-s : goal.invariant-loop-s
invariant-loop-s l = MarkedSoFar l.lts l.events (rows_in l.initial.rows) (rows_in l.rows) l.s-index
