-- The first cells are copied.
use Rattle.std.proofs.Common.{◌≡◌}
use Rattle.rg_spanning.proofs.RowLaws.{copied}
use Rattle.rg_spanning.proofs.table.copy_cells.Given as goal

abbrev pub invariant-loop-i : goal.invariant-loop-i
invariant-loop-i l = l.cells ≡ copied l.initial.cells l.from l.to l.i
