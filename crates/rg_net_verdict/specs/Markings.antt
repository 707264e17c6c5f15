-- The markings of the states along the spanning tree.
use Rattle.std.specs.Prelude.{◌≡◌, ℕ, ◌<◌, List, Some, slice_get}
use Rattle.rg_theory.specs.declared.Arc.{Arc}
use Rattle.rg_theory.specs.Net.{Net, Marking, IsEnabled, FiresAll, start_marking}
use Rattle.rg_theory.specs.Tree.{way_to}
use Rattle.rg_net.specs.Firing.{StaysInRange}

-- the labels on the tree's way to state s fire and end in the marking
pub record IsMarkingOf (net : Net) (tree : List Arc) (s : ℕ) (m : Marking) : Type 0 where
  pub fires : FiresAll net (start_marking net) (way_to tree s) m

-- arc number i of the tree, and the marking of the state that it leaves
pub record IsTreeArc (net : Net) (tree : List Arc) (i : ℕ) (a : Arc) (m : Marking) : Type 0 where
  pub at : slice_get tree i ≡ Some a
  pub source : IsMarkingOf net tree a.from m

-- the first arcs of the tree, so many, fire in range
abbrev pub FireBefore : Net → List Arc → ℕ → Type 0
FireBefore net tree n = (i : ℕ) (a : Arc) → i < n → slice_get tree i ≡ Some a → (m : Marking) × IsMarkingOf net tree a.from m × IsEnabled net m a.label × StaysInRange net m a.label
