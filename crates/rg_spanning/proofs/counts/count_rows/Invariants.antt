-- The rows are right as far as the arcs so far.
use Rattle.std.proofs.Common.{length}
use Rattle.rg_theory.specs.System.{labels}
use Rattle.rg_spanning.proofs.TreeTables.{IsCounting}
use Rattle.rg_spanning.proofs.counts.count_rows.Given as goal

abbrev pub invariant-loop-a : goal.invariant-loop-a
invariant-loop-a l = IsCounting (labels l.lts) l.lts.initial l.a-items (length l.growth.entries.items) l.counts l.a-index
