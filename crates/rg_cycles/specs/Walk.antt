-- The state of the walk over the rows.
use Rattle.std.specs.Prelude.{◌≢◌, ℕ, ◌+◌, ◌<◌, List, length, Contains, slice_index, pos, ℤ}
use Rattle.rg_integers.specs.Sum.{number_at}
use Rattle.rg_linear.specs.System.{LinearSystem}
use Rattle.rg_feasible.specs.Contents.{Contents, IsDictionary}

-- the member at this index is a label that the relation with these numbers names
pub record NamesLabel (labels : ℕ) (members : List ℕ) (numbers : List ℤ) (index : ℕ) : Type 0 where
  pub within : index < length members
  pub label : slice_index members index < labels
  pub named : number_at numbers (index + 2) ≢ pos 0

-- it is the dictionary of some system
abbrev pub IsWhole : Contents → Type 0
IsWhole d = (system : LinearSystem) × IsDictionary system d

-- the row variables from row i on are no members
abbrev pub RowsAhead : Contents → ℕ → Type 0
RowsAhead d i = (m : ℕ) → Contains d.members m → m < d.columns + i
