-- What a branching asks of the system and its forms.
use Rattle.std.specs.Prelude.{◌≡◌, ◌≢◌, ℕ, ◌+◌, ◌^◌, ◌<◌, List, [], length, map, All, slice_index_or, pos, ◌*ℤ◌, ◌≤ℤ◌, ◌<ℤ◌}
use Rattle.rg_integers.specs.Range.{InRange}
use Rattle.rg_linear.specs.System.{LinearSystem, entry}
use Rattle.rg_linear.specs.Branching.{Form, form_at, SplitSide, side_row, AreBounded}
use Rattle.rg_linear.specs.View.{linear_row}
use Rattle.rg_branch.specs.declared.bounded.Bounded.{Bounded}
use Rattle.rg_branch.specs.declared.splits.Splits.{Splits}
use Rattle.rg_linear.specs.Room.{room}
use Rattle.rg_branch.specs.View.{forms_of}

-- one coefficient a column, a whole multiple of those of a row, which is counted after the first rows, as many as `before`;
-- the scale is positive, and the numbers are in range
pub record IsFormOf (system : LinearSystem) (before : ℕ) (b : Bounded) : Type 0 where
  pub one_each : length b.coeffs.items ≡ system.columns
  pub positive : pos 0 <ℤ b.scale
  pub scale_in_range : InRange b.scale
  pub coeffs_in_range : (j : ℕ) → j < system.columns → InRange (slice_index_or b.coeffs.items j (pos 0))
  pub ordered : b.low ≤ℤ b.high
  pub low_in_range : InRange (b.scale *ℤ b.low)
  pub high_in_range : InRange (b.scale *ℤ b.high)
  pub not_negative : pos 0 ≤ℤ b.times
  pub times_in_range : InRange b.times
  pub row_within : b.times ≢ pos 0 → before + b.row < length system.rows
  pub multiple : (j : ℕ) → j < system.columns → slice_index_or b.coeffs.items j (pos 0) ≡ b.times *ℤ entry system (before + b.row) j

-- the rows bound each form; columns, rows and all splits that the bounds allow are fewer than 2^32
pub record CanBranch (system : LinearSystem) (before : ℕ) (forms : List Bounded) : Type 0 where
  pub each : All (IsFormOf system before) forms
  pub bounded : AreBounded system (forms_of forms)
  pub few_forms : length forms < 2 ^ 32
  pub few : system.columns + length system.rows + room (forms_of forms) [] < 2 ^ 32

-- the split is on one of the forms, between its bounds
pub record IsSideOf (forms : List Form) (side : SplitSide) : Type 0 where
  pub form : side.form < length forms
  pub low : (form_at forms side.form).low ≤ℤ side.at
  pub high : side.at <ℤ (form_at forms side.form).high

-- the splits are such, and there are as few as the bounds allow
pub record AreSidesOf (forms : List Form) (above : List SplitSide) : Type 0 where
  pub each : All (IsSideOf forms) above
  pub few : length above + room forms above < 1 + room forms []

-- the rows are those of the splits
abbrev pub HasRowsOf : List Form → Splits → Type 0
HasRowsOf forms splits = map linear_row splits.rows.items ≡ map (side_row forms) splits.above.items
