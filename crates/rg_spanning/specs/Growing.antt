-- A tree that is growing: the states met so far, the arcs that joined, and by which arc each state was met.
use Rattle.std.specs.Prelude.{◌≡◌, ℕ, ◌+◌, ◌<◌, List, ◌∷◌, ◌++◌, length, map, Option, None, Some, Contains, slice_get, slice_index_or, is_none, count_by}
use Rattle.rg_theory.specs.declared.Arc.{Arc}
use Rattle.rg_theory.specs.System.{System, states}
use Rattle.rg_theory.specs.Tree.{Grows, IsTree}
use Rattle.rg_lts.specs.WellFormed.{IsWellFormed}

-- what the growing tree keeps to; whatever grows from these states on completes the tree
pub record IsGrowing (lts : System) (order : List ℕ) (tree : List Arc) (entries : List (Option Arc)) : Type 0 where
  pub well_formed : IsWellFormed lts
  pub order_is : order ≡ lts.initial ∷ map (λ a. a.to) tree
  pub one_each : length entries ≡ states lts
  pub entered : (s : ℕ) (a : Arc) → slice_index_or entries s None ≡ Some a → (a.to ≡ s) × Contains tree a
  pub enters : (a : Arc) → Contains tree a → slice_index_or entries a.to None ≡ Some a
  pub root : slice_index_or entries lts.initial None ≡ None
  pub count : count_by is_none entries + length tree ≡ states lts
  pub completes : (rest : List Arc) → Grows lts order rest → IsTree lts (tree ++ rest)

-- the arcs of the states at the indices below this one lead to states that are met
abbrev pub IsSettled : System → List ℕ → ℕ → Type 0
IsSettled lts order index =
    (i : ℕ) (b : Arc) → i < index → slice_get order i ≡ Some b.from → Contains lts.arcs b → Contains order b.to
