use Rattle.std.proofs.Common.{◌≡◌, replicate, false}
use Rattle.rg_theory.specs.System.{states}
use Rattle.rg_marks.specs.Stops.{rows_in}
use Rattle.rg_marks.proofs.stops.no_marks.Given as goal

abbrev pub invariant-loop : goal.invariant-loop
invariant-loop l = rows_in l.rows.items ≡ replicate l.counter (replicate (states l.lts) false)
