-- The relations of a free set as one flat list of numbers.
use Rattle.std.specs.Prelude.{◌≡◌, ℕ, ◌+◌, ◌*◌, ◌<◌, ◌==◌, nat_lt, if◌then◌else◌, List, [], ◌∷◌, length, map, slice_range, Contains, ℤ, pos}
use Rattle.rg_linear.specs.System.{LinearSystem, variables}
use Rattle.rg_linear.specs.Dictionary.{Relation, DictionaryRow}

-- d, the constant, and the coefficients of the members in order
abbrev pub numbers_of : List ℕ → Relation → List ℤ
numbers_of members k = k.d ∷ k.constant ∷ map k.coefficient members

-- the number at the index of a member, 0 if it is no member
abbrev pub number_beside : List ℕ → List ℤ → ℕ → ℤ
number_beside [] numbers w = pos 0
number_beside (m ∷ members) [] w = pos 0
number_beside (m ∷ members) (z ∷ numbers) w = if m == w then z else number_beside members numbers w

-- the numbers are those of the relation of variable w
pub record ShowsRow (system : LinearSystem) (members : List ℕ) (w : ℕ) (numbers : List ℤ) : Type 0 where
  pub k : Relation
  pub row : DictionaryRow system members w k
  pub shown : numbers ≡ numbers_of members k

-- how many numbers a row of the table has
abbrev pub row_width : LinearSystem → ℕ
row_width system = system.columns + 2

-- the numbers of the row of variable w
abbrev pub row_numbers : LinearSystem → List ℤ → ℕ → List ℤ
row_numbers system table w = slice_range table (w * row_width system) ((w + 1) * row_width system)

-- the table has a row for each variable, and that of a variable outside the set shows its relation
pub record IsTable (system : LinearSystem) (members : List ℕ) (table : List ℤ) : Type 0 where
  pub size : length table ≡ variables system * row_width system
  pub rows : (w : ℕ) → w < variables system → ¬ Contains members w → ShowsRow system members w (row_numbers system table w)

-- how many of the first members are not above i: the index of i among them
abbrev pub index_for : ℕ → List ℕ → ℕ
index_for i [] = 0
index_for i (m ∷ members) = if nat_lt i m then 0 else (1 + index_for i members)

-- row number w of a flat list of rows with this many numbers each
abbrev pub row_at : ℕ → List ℤ → ℕ → List ℤ
row_at width table w = slice_range table (w * width) ((w + 1) * width)
