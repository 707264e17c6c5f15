use Rattle.std.proofs.Common.{length}
use Rattle.rg_revised.specs.Long.{TableCrossed}
use Rattle.rg_revised.proofs.crossing.cross_table.Given as goal

abbrev pub invariant-loop-t : goal.invariant-loop-t
invariant-loop-t l = TableCrossed (length l.pivot.numbers.now) l.pivot.numbers.now l.pivot.over l.pivot.p l.pivot.negative l.table l.crossed l.t
