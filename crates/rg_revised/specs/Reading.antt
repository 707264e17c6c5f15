-- The numbers of a row's relation, read off the table, and the choice of the variable that leaves.
use Rattle.std.specs.Prelude.{◌≡◌, ◌≢◌, ℕ, suc, ◌+◌, ◌*◌, ◌^◌, ◌<◌, ◌≤◌, ◌==◌, if◌then◌else◌, List, length, slice_index, Contains, ℤ, pos, ◌+ℤ◌, ◌*ℤ◌}
use Rattle.rg_integers.specs.Sum.{number_at, sum_below, sum_over}
use Rattle.rg_linear.specs.Norm.{row_norm}
use Rattle.rg_linear.specs.Table.{row_at}

-- a row so small that sums of it with numbers up to most fit 64 bits
abbrev pub IsSmallRow : ℕ → ℕ → List ℤ → ℤ → Type 0
IsSmallRow norm most coeffs constant = (1 ≤ most) × (row_norm coeffs constant ≤ norm) × ((norm + 1) * most < 2 ^ 63)

-- the multiple of a row is added
pub record IsAdded (by : ℤ) (row old new : List ℤ) : Type 0 where
  pub same_length : length new ≡ length old
  pub numbers : (s : ℕ) → s < length old → number_at new s ≡ number_at old s +ℤ (by *ℤ number_at row s)

-- the row of a column that is a member has d at its index, and 0 elsewhere
abbrev pub IsOwnRow : List ℕ → ℤ → ℕ → List ℤ → Type 0
IsOwnRow slots d t row = slice_index slots t ≡ t → (s : ℕ) → s < length row → number_at row s ≡ (if s == t then d else pos 0)

-- index s is the sum of the first n columns' numbers there, each times its coefficient
abbrev pub column_sum : ℕ → List ℤ → List ℤ → ℕ → ℕ → ℤ
column_sum width coeffs table n s = sum_below n (λ t. number_at coeffs t *ℤ number_at (row_at width table t) s)

-- the numbers of the relation: the sums of all columns, and after them the constant with its share
pub record IsRead (width : ℕ) (coeffs : List ℤ) (constant : ℤ) (table : List ℤ) (d : ℤ) (numbers : List ℤ) : Type 0 where
  pub same_length : length numbers ≡ width
  pub coefficients : (s : ℕ) → suc s < width → number_at numbers s ≡ column_sum width coeffs table (length coeffs) s
  pub constant_is : (s : ℕ) → suc s ≡ width → number_at numbers s ≡ column_sum width coeffs table (length coeffs) s +ℤ (d *ℤ constant)

-- the indices name every column whose number isn't 0, each once: a sum over columns that is 0 at the others is one over the indices
abbrev pub AreNamed : List ℤ → List ℕ → Type 0
AreNamed constants indices = (f : ℕ → ℤ) → ((t : ℕ) → t < length constants → number_at constants t ≡ pos 0 → f t ≡ pos 0) → sum_over f indices ≡ sum_below (length constants) f

-- the variable of slot p isn't that of a row of the stack, and the numbers name it
pub record IsVacant (columns : ℕ) (slots stack : List ℕ) (numbers : List ℤ) (p : ℕ) : Type 0 where
  pub within : p < length slots
  pub not_fixed : (s : ℕ) → Contains stack s → slice_index slots p ≢ columns + s
  pub named : number_at numbers p ≢ pos 0

-- the constant of a row's relation, from the constants of the columns'
abbrev pub constant_over : List ℤ → List ℤ → ℤ → ℤ → ℤ
constant_over coeffs constants constant d = sum_below (length coeffs) (λ t. number_at coeffs t *ℤ number_at constants t) +ℤ (d *ℤ constant)
