-- A list as rows of one length, one after the other.
use Rattle.std.specs.Prelude.{ℕ, zero, suc, List, [], ◌∷◌, take, drop}

-- so many rows of this width
abbrev pub rows_of : {X : Type 0} → ℕ → ℕ → List X → List (List X)
rows_of zero width cells = []
rows_of (suc rows) width cells = take width cells ∷ rows_of rows width (drop width cells)
