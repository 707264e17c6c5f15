-- A descent with numbers of 64 bits whose sums and products have 128 bits.
use Rattle.std.specs.Prelude.{◌≡◌, ◌≢◌, ℕ, suc, ◌-◌, ◌^◌, ◌<◌, ◌≤◌, Bool, if◌then◌else◌, List, length, ℤ, neg_ℤ, ◌-ℤ◌, ◌*ℤ◌, unsigned_abs}
use Rattle.rg_integers.specs.Range.{InRange}
use Rattle.rg_integers.specs.Sum.{number_at}
use Rattle.rg_linear.specs.Norm.{row_norm}
use Rattle.rg_linear.specs.Table.{row_at}
use Rattle.rg_revised.specs.Rows.{RowWithin}

-- a row so small that sums of it with numbers up to most are in range
abbrev pub IsSummable : ℕ → ℕ → List ℤ → ℤ → Type 0
IsSummable norm most coeffs constant = (row_norm coeffs constant ≤ norm) × (norm < 2 ^ 63) × (most < 2 ^ 63)

-- the numbers are the long ones after the first of these
pub record IsNarrowed (long : List ℤ) (first : ℤ) (numbers : List ℤ) : Type 0 where
  pub first_is : first ≡ number_at long 0
  pub numbers_are : (n : ℕ) → n < length numbers → number_at numbers n ≡ number_at long (suc n)
  pub first_small : unsigned_abs first ≤ 2 ^ 63 - 1
  pub small : RowWithin (2 ^ 63 - 1) numbers

-- the row after an exchange, times a number: by the signed row of the pivot over a denominator; the new member comes to the index p
pub record RowCrossed (pivot : List ℤ) (over : ℤ) (p : ℕ) (negative : Bool) (old crossed : List ℤ) : Type 0 where
  pub same_length : length crossed ≡ length old
  pub others : (n : ℕ) → n < length old → n ≢ p → number_at crossed n ≡ (number_at old n *ℤ number_at pivot p) -ℤ (number_at pivot n *ℤ number_at old p)
  pub index : number_at crossed p ≡ (if negative then neg_ℤ (over *ℤ number_at old p) else over *ℤ number_at old p)
  pub in_range : (n : ℕ) → n < length old → InRange (number_at crossed n)

-- so are the rows of the first columns
pub record TableCrossed (width : ℕ) (pivot : List ℤ) (over : ℤ) (p : ℕ) (negative : Bool) (old crossed : List ℤ) (columns : ℕ) : Type 0 where
  pub same_length : length crossed ≡ length old
  pub rows : (t : ℕ) → t < columns → RowCrossed pivot over p negative (row_at width old t) (row_at width crossed t)
