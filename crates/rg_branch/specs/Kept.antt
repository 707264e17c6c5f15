-- What is kept of the nodes above a node, whose sides come innermost first.
use Rattle.std.specs.Prelude.{◌≡◌, if◌then◌else◌, List, [], ◌∷◌, drop, reverse, Option, None, IfSome}
use Rattle.rg_linear.specs.System.{LinearSystem}
use Rattle.rg_linear.specs.Branching.{Form, SplitSide, node_system}
use Rattle.rg_revised.specs.Reaching.{IsSavedAt}
use Rattle.rg_revised.specs.Settling.{IsAtPoint}
use Rattle.rg_revised.specs.View.{RevisedState, SavedState}

-- the dictionary is at the point of the node above, which the first side splits
abbrev pub IsAtParent : LinearSystem → List Form → List SplitSide → RevisedState → Type 0
IsAtParent system forms [] r = ⊥
IsAtParent system forms (side ∷ outer) r = IsAtPoint (node_system system forms (reverse outer)) r

-- the first copy, if there is one
abbrev pub first_copy : List (Option SavedState) → Option SavedState
first_copy [] = None
first_copy (copy ∷ copies) = copy

-- the copy is at the point of the node, and has its columns
pub record IsSavedOf (system : LinearSystem) (s : SavedState) : Type 0 where
  pub columns : s.columns ≡ system.columns
  pub saved : IsSavedAt system s

-- the splits above each node whose low side is taken
abbrev pub low_parents : List SplitSide → List (List SplitSide)
low_parents [] = []
low_parents (side ∷ outer) = if side.high then low_parents outer else (reverse outer ∷ low_parents outer)

-- the copies are those of the first nodes below these splits
abbrev pub AreCopiesAt : LinearSystem → List Form → List (Option SavedState) → List (List SplitSide) → Type 0
AreCopiesAt system forms copies [] = copies ≡ []
AreCopiesAt system forms copies (above ∷ nodes) = IfSome (first_copy copies) (IsSavedOf (node_system system forms above)) × AreCopiesAt system forms (drop 1 copies) nodes

-- the copies, innermost first, are those of the innermost nodes whose low side is taken
abbrev pub AreSaved : LinearSystem → List Form → List (Option SavedState) → List SplitSide → Type 0
AreSaved system forms copies sides = AreCopiesAt system forms copies (low_parents sides)
