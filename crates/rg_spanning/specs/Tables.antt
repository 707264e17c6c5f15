-- What is kept with a spanning tree: by which arc each state is entered, and how often each label occurs on the way to it.
use Rattle.std.specs.Prelude.{◌≡◌, ◌≢◌, ℕ, ◌<◌, List, ◌∷◌, length, map, Option, None, Some, Contains, All, is_some, true, slice_index, slice_index_or}
use Rattle.rg_theory.specs.declared.Arc.{Arc}
use Rattle.rg_theory.specs.Tree.{parikh}

-- the row counts the labels on the way to s
pub record IsRow (labels : ℕ) (tree : List Arc) (s : ℕ) (row : List ℕ) : Type 0 where
  pub one_each : length row ≡ labels
  pub counts : (t : ℕ) → t < labels → slice_index row t ≡ parikh tree s t

-- each of the states has its row
abbrev pub HasRows : ℕ → List Arc → List ℕ → List (List ℕ) → Type 0
HasRows labels tree states rows =
    (s : ℕ) (d : List ℕ) → Contains states s → IsRow labels tree s (slice_index_or rows s d)

-- what the tables of a tree keep to
pub record AreTables (labels initial : ℕ) (order : List ℕ) (tree : List Arc) (entries : List (Option Arc)) (vectors : List (List ℕ))
    (chords : List Arc) : Type 0 where
  pub order_is : order ≡ initial ∷ map (λ a. a.to) tree
  pub root : slice_index_or entries initial None ≡ None
  pub entered : (s : ℕ) (a : Arc) → slice_index_or entries s None ≡ Some a → (a.to ≡ s) × Contains tree a
  pub all_entered : (s : ℕ) → s < length entries → s ≢ initial → is_some (slice_index_or entries s None) ≡ true
  pub one_row_each : length vectors ≡ length entries
  pub rows : (s : ℕ) (d : List ℕ) → s < length entries → IsRow labels tree s (slice_index_or vectors s d)
  pub ends : All (λ a. (a.from < length entries) × (a.to < length entries)) chords
