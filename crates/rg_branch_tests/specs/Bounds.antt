-- Forms that single rows bound.
use Rattle.std.specs.Prelude.{◌≡◌, ℕ, ◌+◌, ◌^◌, ◌<◌, ◌≤◌, List, [], length, slice_index_or, ℤ, pos, neg_ℤ, ◌*ℤ◌, ◌≤ℤ◌, ◌<ℤ◌}
use Rattle.rg_integers.specs.Range.{InRange}
use Rattle.rg_linear.specs.System.{LinearSystem, row_at, entry, IsPoint, MeetsRows}
use Rattle.rg_linear.specs.Branching.{scaled_value}
use Rattle.rg_branch.specs.declared.bounded.Bounded.{Bounded}
use Rattle.rg_linear.specs.Room.{room}
use Rattle.rg_branch.specs.View.{form_of, forms_of}
use Rattle.rg_branch.specs.Asked.{IsFormOf}
use Rattle.rg_branch_tests.specs.declared.bounds.Top.{Top}

-- the numbers are the others, each times the factor
pub record AreTimes (numbers : List ℤ) (factor : ℤ) (others : List ℤ) : Type 0 where
  pub size : length numbers ≡ length others
  pub each : (j : ℕ) → j < length numbers → slice_index_or numbers j (pos 0) ≡ factor *ℤ slice_index_or others j (pos 0)

-- the form's own row, counted after the first rows, as many as `before`, bounds it from below, in numbers in range
pub record IsLow (system : LinearSystem) (before : ℕ) (b : Bounded) : Type 0 where
  pub row : before + b.row < length system.rows
  pub in_range : InRange (b.times *ℤ (row_at system (before + b.row)).constant)
  pub constant : (b.times *ℤ (row_at system (before + b.row)).constant) ≤ℤ neg_ℤ (b.scale *ℤ b.low)

-- the row with this number has the form's coefficients, each times -times, and bounds the form from above, in numbers in range
pub record IsTop (system : LinearSystem) (b : Bounded) (row : ℕ) (times : ℤ) : Type 0 where
  pub within : row < length system.rows
  pub positive : pos 0 <ℤ times
  pub entries : (j : ℕ) → j < system.columns → entry system row j ≡ neg_ℤ times *ℤ slice_index_or b.coeffs.items j (pos 0)
  pub in_range : InRange (times *ℤ (b.scale *ℤ b.high))
  pub constant : (row_at system row).constant ≤ℤ (times *ℤ (b.scale *ℤ b.high))

-- it is a form of the system, and lies between its bounds wherever the rows are met
pub record IsBoundedForm (system : LinearSystem) (before : ℕ) (b : Bounded) : Type 0 where
  pub form : IsFormOf system before b
  pub between : (scale : ℤ) (x : ℕ → ℤ) → IsPoint system scale x → MeetsRows system x
      → ((b.low *ℤ (b.scale *ℤ scale)) ≤ℤ scaled_value system (form_of b) x) × (scaled_value system (form_of b) x ≤ℤ (b.high *ℤ (b.scale *ℤ scale)))

-- single rows show that it is a form of the system and lies between its bounds
pub record IsByRows (system : LinearSystem) (before : ℕ) (b : Bounded) (top : Top) : Type 0 where
  pub form : IsFormOf system before b
  pub low : IsLow system before b
  pub high : IsTop system b (before + top.row) top.times

-- each form with its top
abbrev pub EachIsByRows : LinearSystem → ℕ → List Bounded → List Top → Type 0
EachIsByRows system before forms tops = (f : ℕ) (b : Bounded) (t : Top) → f < length forms
    → IsByRows system before (slice_index_or forms f b) (slice_index_or tops f t)

-- each form has a top, and single rows show its bounds; there are up to 1,000 forms; columns, rows and the splits that the bounds allow
-- are fewer than 2^32
pub record AreByRows (system : LinearSystem) (before : ℕ) (forms : List Bounded) (tops : List Top) : Type 0 where
  pub one_each : length tops ≡ length forms
  pub few_forms : length forms ≤ 1000
  pub each : EachIsByRows system before forms tops
  pub few : system.columns + length system.rows + room (forms_of forms) [] < 2 ^ 32
