-- The rows of a descent.
use Rattle.std.specs.Prelude.{List, ◌++◌}
use Rattle.rg_linear.specs.declared.row.Row.{Row}
use Rattle.rg_revised.specs.declared.rows.Rows.{Rows}

-- all rows, those of the first list first
abbrev pub rows_of : Rows → List Row
rows_of r = r.own.now ++ r.shared.now ++ r.further.now
