-- What a dictionary holds, and of which system it is the dictionary.
use Rattle.std.specs.Prelude.{◌≡◌, ℕ, ◌+◌, ◌*◌, ◌^◌, ◌<◌, ◌≤◌, List, [], ◌∷◌, ◌++◌, length, slice_index, slice_range, Contains, ℤ}
use Rattle.std.specs.List.Sorted.{IsStrictlyIncreasing}
use Rattle.rg_integers.specs.Range.{InRange}
use Rattle.rg_integers.specs.Sum.{number_at}
use Rattle.rg_linear.specs.System.{LinearSystem}
use Rattle.rg_linear.specs.Dictionary.{IsFree}
use Rattle.rg_linear.specs.Table.{IsTable}

-- a set of variables in order, and a table with one row of numbers for each variable, which has room for more rows
pub record Contents : Type 0 where
  pub columns : ℕ
  pub rows : ℕ
  pub room : ℕ
  pub members : List ℕ
  pub table : List ℤ

-- a variable that is not a member
abbrev pub IsOutside : Contents → ℕ → Type 0
IsOutside d w = (w < d.columns + d.rows) × ¬ Contains d.members w

-- the row of a variable
abbrev pub row_of : Contents → ℕ → List ℤ
row_of d w = slice_range d.table (w * (d.columns + 2)) ((w + 1) * (d.columns + 2))

-- the members are a free set of the system, and the row of each variable outside it has the numbers of its relation
pub record IsDictionary (system : LinearSystem) (d : Contents) : Type 0 where
  pub columns : d.columns ≡ system.columns
  pub rows : d.rows ≡ length system.rows
  pub free : IsFree system d.members
  pub table : IsTable system d.members d.table

-- the system of so many columns without a row
abbrev pub columns_alone : ℕ → LinearSystem
columns_alone n = record { columns = n; rows = [] }

-- the system with one row more, which comes last
abbrev pub with_row : LinearSystem → List ℤ → ℤ → LinearSystem
with_row system coeffs constant = record { columns = system.columns; rows = system.rows ++ record { coeffs = coeffs; constant = constant } ∷ [] }

-- what a dictionary stores: the members rise below the variables, each variable has a row of numbers in range, and there is room for more rows
pub record IsStored (d : Contents) (capacity : ℕ) (pivot_row : List ℤ) : Type 0 where
  pub few : d.columns + d.rows + d.room < 2 ^ 32
  pub count : length d.members ≡ d.columns
  pub ordered : IsStrictlyIncreasing d.members
  pub within : (k : ℕ) → k < length d.members → slice_index d.members k < d.columns + d.rows
  pub size : length d.table ≡ (d.columns + d.rows) * (d.columns + 2)
  pub in_range : (n : ℕ) → n < length d.table → InRange (number_at d.table n)
  pub space : (d.columns + d.rows + d.room) * (d.columns + 2) ≤ capacity
  pub width : length pivot_row ≡ d.columns + 2

-- the same columns, rows and room
pub record SameShape (old new : Contents) : Type 0 where
  pub columns : new.columns ≡ old.columns
  pub rows : new.rows ≡ old.rows
  pub room : new.room ≡ old.room
