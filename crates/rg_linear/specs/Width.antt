-- Systems on which no term of a descent is out of range.
use Rattle.std.specs.Prelude.{ℕ, ◌-◌, ◌^◌, ◌<◌, ◌≤◌, length, unsigned_abs}
use Rattle.rg_linear.specs.System.{LinearSystem, row_at, entry}

-- few columns, and small numbers
pub record IsNarrow (system : LinearSystem) : Type 0 where
  pub columns : system.columns ≤ 5
  pub entries : (i j : ℕ) → i < length system.rows → j < system.columns → unsigned_abs (entry system i j) < 2 ^ (2 ^ (6 - system.columns) - 1)
  pub constants : (i : ℕ) → i < length system.rows → unsigned_abs (row_at system i).constant < 2 ^ (2 ^ (6 - system.columns) - 1)
