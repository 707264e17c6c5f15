-- Rows of numbers of a table with one denominator, and what an exchange makes of them.
use Rattle.std.specs.Prelude.{◌≡◌, ◌≢◌, ℕ, ◌<◌, ◌≤◌, Bool, if◌then◌else◌, List, length, ℤ, neg_ℤ, ◌-ℤ◌, ◌*ℤ◌, unsigned_abs}
use Rattle.rg_integers.specs.Sum.{number_at}
use Rattle.rg_linear.specs.Table.{row_at}

-- no number passes most
abbrev pub RowWithin : ℕ → List ℤ → Type 0
RowWithin most row = (n : ℕ) → n < length row → unsigned_abs (number_at row n) ≤ most

-- the row after an exchange: by the signed row of the pivot, divided by the denominator d; the new member comes to the index p
pub record RowRenewed (pivot old new : List ℤ) (p : ℕ) (negative : Bool) (d : ℤ) (most : ℕ) : Type 0 where
  pub same_length : length new ≡ length old
  pub others : (n : ℕ) → n < length old → n ≢ p → d *ℤ number_at new n ≡ (number_at old n *ℤ number_at pivot p) -ℤ (number_at pivot n *ℤ number_at old p)
  pub index : number_at new p ≡ (if negative then neg_ℤ (number_at old p) else number_at old p)
  pub within : RowWithin most new

-- no number of the rows of so many columns passes most
abbrev pub TableWithin : ℕ → ℕ → ℕ → List ℤ → Type 0
TableWithin width columns most table = (t : ℕ) → t < columns → RowWithin most (row_at width table t)

-- the rows of the first columns are renewed
pub record TableRenewed (width : ℕ) (pivot old new : List ℤ) (p : ℕ) (negative : Bool) (d : ℤ) (most columns : ℕ) : Type 0 where
  pub same_length : length new ≡ length old
  pub rows : (t : ℕ) → t < columns → RowRenewed pivot (row_at width old t) (row_at width new t) p negative d most
