-- Spanning trees of systems.
use Rattle.std.specs.Prelude.{◌≡◌, ℕ, List, ◌∷◌, length, map, None, Some, Contains, slice_index_or}
use Rattle.rg_theory.specs.declared.Arc.{Arc}
use Rattle.rg_theory.specs.System.{System, states, labels}
use Rattle.rg_theory.specs.Tree.{IsTree, chords}
use Rattle.rg_spanning.specs.declared.arcs.TreeArcs.{TreeArcs}

-- the tree's arcs in the order in which they join, and the other arcs of the system
pub record Spanning : Type 0 where
  pub states : ℕ
  pub labels : ℕ
  pub initial : ℕ
  pub arcs : List Arc
  pub chords : List Arc

-- the states in the order in which the tree meets them
abbrev pub order_of : Spanning → List ℕ
order_of t = t.initial ∷ map (λ a. a.to) t.arcs

-- the tree is that of the system, and the chords are all other arcs
pub record IsTreeOf (lts : System) (grown : Spanning) : Type 0 where
  pub states : grown.states ≡ states lts
  pub labels : grown.labels ≡ labels lts
  pub initial : grown.initial ≡ lts.initial
  pub tree : IsTree lts grown.arcs
  pub chords : grown.chords ≡ chords lts grown.arcs

-- the arcs are those of the system's tree, and each stands at the state that it enters
pub record AreArcsOf (lts : System) (grown : TreeArcs) : Type 0 where
  pub tree : IsTree lts grown.arcs.items
  pub one_each : length grown.parents.items ≡ states lts
  pub enters : (a : Arc) → Contains grown.arcs.items a → slice_index_or grown.parents.items a.to None ≡ Some a
  pub entered : (s : ℕ) (a : Arc) → slice_index_or grown.parents.items s None ≡ Some a → (a.to ≡ s) × Contains grown.arcs.items a
