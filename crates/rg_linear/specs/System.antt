-- Systems of rows over columns, and their rational points.
use Rattle.std.specs.Prelude.{◌≡◌, ℕ, ◌+◌, ◌<◌, List, ◌++◌, [], length, slice_index_or, ℤ, pos, ◌+ℤ◌, ◌*ℤ◌, ◌≤ℤ◌, ◌<ℤ◌}
use Rattle.rg_integers.specs.Sum.{sum_below}

-- the row says that coeffs . x + constant is at least 0
pub record LinearRow : Type 0 where
  pub coeffs : List ℤ
  pub constant : ℤ

-- a number of columns, and rows over them
pub record LinearSystem : Type 0 where
  pub columns : ℕ
  pub rows : List LinearRow

-- variables are columns and rows, numbered columns first
abbrev pub variables : LinearSystem → ℕ
variables system = system.columns + length system.rows

-- the variable of row i
abbrev pub row_variable : LinearSystem → ℕ → ℕ
row_variable system i = system.columns + i

abbrev pub row_at : LinearSystem → ℕ → LinearRow
row_at system i = slice_index_or system.rows i (record { coeffs = []; constant = pos 0 })

-- the coefficient of column j in row i
abbrev pub entry : LinearSystem → ℕ → ℕ → ℤ
entry system i j = slice_index_or (row_at system i).coeffs j (pos 0)

-- variable w has the rational value v w over scale: every row has the value that the columns give it
pub record IsPoint (system : LinearSystem) (scale : ℤ) (v : ℕ → ℤ) : Type 0 where
  pub positive : pos 0 <ℤ scale
  pub rows : (i : ℕ) → i < length system.rows → v (row_variable system i) ≡ sum_below system.columns (λ j. entry system i j *ℤ v j) +ℤ ((row_at system i).constant *ℤ scale)

-- every row is at least 0
abbrev pub MeetsRows : LinearSystem → (ℕ → ℤ) → Type 0
MeetsRows system v = (i : ℕ) → i < length system.rows → pos 0 ≤ℤ v (row_variable system i)

-- multipliers of the rows that show that no point meets them
pub record AreFarkasMultipliers (system : LinearSystem) (multiplier : ℕ → ℤ) : Type 0 where
  pub not_negative : (i : ℕ) → i < length system.rows → pos 0 ≤ℤ multiplier i
  pub cancels : (j : ℕ) → j < system.columns → sum_below (length system.rows) (λ i. multiplier i *ℤ entry system i j) ≡ pos 0
  pub contradicts : sum_below (length system.rows) (λ i. multiplier i *ℤ (row_at system i).constant) <ℤ pos 0

-- the system with these rows after its own
abbrev pub with_rows : LinearSystem → List LinearRow → LinearSystem
with_rows system rows = record { columns = system.columns; rows = system.rows ++ rows }
