use Rattle.std.proofs.Common.{◌≡◌, ◌+◌, map, take}
use Rattle.rg_linear.specs.System.{LinearSystem, with_rows}
use Rattle.rg_linear.specs.View.{linear_row}
use Rattle.rg_feasible.specs.Contents.{IsDictionary}
use Rattle.rg_feasible.proofs.dictionary.add_rows.Given as goal

abbrev pub invariant-loop-row : goal.invariant-loop-row
invariant-loop-row l = record {
  whole : (system : LinearSystem) → IsDictionary system l.fn.table → IsDictionary (with_rows system (take l.row-index (map linear_row l.rows))) l.table;
  members : l.table.members ≡ l.fn.table.members;
  columns : l.table.columns ≡ l.fn.table.columns;
  count : l.table.rows ≡ l.fn.table.rows + l.row-index;
  room : l.table.room + l.row-index ≡ l.fn.table.room;
}
