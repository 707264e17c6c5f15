-- What a revised dictionary shows.
use Rattle.std.specs.Prelude.{◌≡◌, ℕ, ◌+◌, ◌*◌, ◌^◌, ◌<◌, ◌≤◌, Bool, List, length, Option, ℤ, pos, ◌≤ℤ◌}
use Rattle.rg_integers.specs.Range.{InRange}

-- the variable of each slot, and the relations of the columns over d
pub record BasisState : Type 0 where
  pub slots : List ℕ
  pub d : ℤ
  pub table : List ℤ

-- the table has a row for each column, with a number for each slot, and the constant
pub record HasShape (b : BasisState) : Type 0 where
  pub few : length b.slots < 2 ^ 32
  pub size : length b.table ≡ length b.slots * (length b.slots + 1)

-- a basis with the constants of its relations, the columns where they aren't 0, and the numbers of one row's relation over a denominator; no
-- row's norm passes norm, and no number of the table most; whether the descent is a long one
pub record TableauState : Type 0 where
  pub basis : BasisState
  pub constants : List ℤ
  pub named : List ℕ
  pub numbers : List ℤ
  pub over : ℤ
  pub norm : ℕ
  pub most : ℕ
  pub long : Bool

-- a constant for each column, room to name all columns, a number for each slot and the constant, and room for so many long numbers of one
-- row and of all, each with a denominator
pub record HasSizes (t : TableauState) (named_room : ℕ) (most : ℤ) (sum_count product_count : ℕ) : Type 0 where
  pub few : length t.basis.slots < 2 ^ 32
  pub constants : length t.constants ≡ length t.basis.slots
  pub named_fits : length t.basis.slots ≤ named_room
  pub numbers : length t.numbers ≡ length t.basis.slots + 1
  pub sums : sum_count ≡ length t.basis.slots + 2
  pub products : product_count ≡ length t.basis.slots * (length t.basis.slots + 1) + 1
  pub not_negative : pos 0 ≤ℤ most

-- a copy of the relations, with the bounds of their tableau
pub record SavedState : Type 0 where
  pub columns : ℕ
  pub basis : BasisState
  pub norm : ℕ
  pub most : ℕ
  pub long : Bool

-- the copy of a tableau's relations
abbrev pub saved_of : TableauState → SavedState
saved_of t = record { columns = length t.basis.slots; basis = t.basis; norm = t.norm; most = t.most; long = t.long }

-- the tableau; after a refutation the row that fails, counted among the rows, and the common factor of its numbers
pub record RevisedState : Type 0 where
  pub columns : ℕ
  pub tableau : TableauState
  pub failing : Option ℕ
  pub factor : ℤ

-- the stack has room for all columns
pub record IsStored (r : RevisedState) (stack_room : ℕ) : Type 0 where
  pub stack_fits : r.columns < stack_room
  pub factor_in_range : InRange r.factor
