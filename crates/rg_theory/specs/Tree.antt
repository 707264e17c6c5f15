-- The spanning tree of the breadth first walk, Parikh vectors and chords, without a queue.
use Rattle.std.specs.Prelude.{◌≡◌, ◌⊎◌, ℕ, ◌+◌, ◌<◌, ◌==◌, ◌&&◌, Bool, true, false, if◌then◌else◌, List, [], ◌∷◌, ◌++◌, map, Some, slice_get, Contains, ℤ, pos, ◌+ℤ◌, ◌-ℤ◌}
use Rattle.rg_theory.specs.System.{Arc, System, IsArcBefore}

-- after the states met so far, in their order, arc a joins the tree: of the arcs that lead to a state not yet met
-- it is the first, by the place of its source and then in the order of the source's arcs
pub record Joins (lts : System) (met : List ℕ) (a : Arc) : Type 0 where
  pub place : ℕ
  pub source : slice_get met place ≡ Some a.from
  pub has : Contains lts.arcs a
  pub fresh : ¬ Contains met a.to
  pub first : (i : ℕ) (b : Arc) → slice_get met i ≡ Some b.from → Contains lts.arcs b → ¬ Contains met b.to → (b ≡ a) ⊎ ((place < i) ⊎ ((place ≡ i) × IsArcBefore a b))

-- from the states met so far on, these arcs join, in this order, and no other
abbrev pub Grows : System → List ℕ → List Arc → Type 0
Grows lts met [] = (a : Arc) → Contains lts.arcs a → Contains met a.from → Contains met a.to
Grows lts met (a ∷ tree) = Joins lts met a × Grows lts (met ++ a.to ∷ []) tree

-- the arcs of the tree, in the order in which they join
abbrev pub IsTree : System → List Arc → Type 0
IsTree lts tree = Grows lts (lts.initial ∷ []) tree

-- the states in the order in which they are met
abbrev pub tree_order : System → List Arc → List ℕ
tree_order lts tree = lts.initial ∷ map (λ a. a.to) tree

-- the labels on the way to each state: an arc that joins makes the way to its target longer by its label than that to its source
abbrev pub ways_from : (ℕ → List ℕ) → List Arc → ℕ → List ℕ
ways_from way [] = way
ways_from way (a ∷ tree) = ways_from (λ s. if s == a.to then (way a.from ++ a.label ∷ []) else way s) tree

abbrev pub way_to : List Arc → ℕ → List ℕ
way_to tree = ways_from (λ s. []) tree

-- how often the label occurs in the list
abbrev pub count : ℕ → List ℕ → ℕ
count t [] = 0
count t (u ∷ us) = (if t == u then 1 else 0) + count t us

-- how often label t occurs on the way to s
abbrev pub parikh : List Arc → ℕ → ℕ → ℕ
parikh tree s t = count t (way_to tree s)

abbrev pub same_arc : Arc → Arc → Bool
same_arc a b = (a.from == b.from) && ((a.label == b.label) && (a.to == b.to))

abbrev pub is_among : List Arc → Arc → Bool
is_among [] a = false
is_among (b ∷ arcs) a = if same_arc b a then true else is_among arcs a

abbrev pub arcs_without : List Arc → List Arc → List Arc
arcs_without tree [] = []
arcs_without tree (a ∷ arcs) = if is_among tree a then arcs_without tree arcs else (a ∷ arcs_without tree arcs)

-- the arcs that are not in the tree, in the order of the system's arcs
abbrev pub chords : System → List Arc → List Arc
chords lts tree = arcs_without tree lts.arcs

-- the chord's vector at label t: the label counts of the way to its source and of the chord, less those of the way to its target
abbrev pub chord_entry : List Arc → Arc → ℕ → ℤ
chord_entry tree a t = (pos (parikh tree a.from t) +ℤ (if t == a.label then pos 1 else pos 0)) -ℤ pos (parikh tree a.to t)

-- the arc moves the numbers of states by its label's effect
abbrev pub IsKept : (ℕ → ℤ) → (ℕ → ℤ) → Arc → Type 0
IsKept number effect a = number a.from +ℤ effect a.label ≡ number a.to

-- all arcs do
abbrev pub KeepsArcs : System → (ℕ → ℤ) → (ℕ → ℤ) → Type 0
KeepsArcs lts number effect = (a : Arc) → Contains lts.arcs a → IsKept number effect a
