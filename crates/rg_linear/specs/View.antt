-- The rows and systems that code keeps.
use Rattle.std.specs.Prelude.{◌≡◌, ℕ, ◌+◌, ◌^◌, ◌<◌, List, length, map}
use Rattle.rg_integers.specs.Range.{InRange}
use Rattle.rg_linear.specs.System.{LinearSystem, LinearRow, row_at, entry}
use Rattle.rg_linear.specs.Norm.{greatest_norm, kept_norm}
use Rattle.rg_linear.specs.declared.row.Row.{Row}

-- the row that code keeps
abbrev pub linear_row : Row → LinearRow
linear_row r = record { coeffs = r.coeffs.items; constant = r.constant }

-- the system of so many columns with these rows
abbrev pub linear_system : ℕ → List Row → LinearSystem
linear_system columns rows = record { columns = columns; rows = map linear_row rows }

-- fewer than 2^32 variables, one coefficient a column in each row, and every number in range
pub record IsWellFormed (system : LinearSystem) : Type 0 where
  pub few : system.columns + length system.rows < 2 ^ 32
  pub one_each : (i : ℕ) → i < length system.rows → length (row_at system i).coeffs ≡ system.columns
  pub coeffs : (i j : ℕ) → i < length system.rows → j < system.columns → InRange (entry system i j)
  pub constants : (i : ℕ) → i < length system.rows → InRange (row_at system i).constant

-- a system as the code keeps it, with the greatest norm of a row
pub record IsStored (system : LinearSystem) (norm : ℕ) : Type 0 where
  pub well_formed : IsWellFormed system
  pub norm_is : norm ≡ kept_norm (greatest_norm system.rows)
