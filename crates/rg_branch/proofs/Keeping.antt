-- What is kept of the nodes above a node.
use Rattle.std.proofs.Common.{◌≡◌, ◌<◌, Bool, true, false, if◌then◌else◌, List, [], ◌∷◌, ◌++◌, length, map, reverse, drop, Option, Some, ap, refl, subst, sym, ◌∙◌, arith}
use Rattle.std.specs.Prelude.{IfSome}
use Rattle.std.specs.List.{remove}
use Rattle.std.proofs.lemmas.List.{reverse-append, reverse-reverse, map-append}
use Rattle.rg_linear.specs.System.{LinearSystem, LinearRow, with_rows}
use Rattle.rg_linear.specs.Branching.{Form, SplitSide, side_row, node_system}
use Rattle.rg_branch_trees.specs.Turning.{turned_back}
use Rattle.rg_revised.specs.Reaching.{IsSavedAt}
use Rattle.rg_revised.specs.Settling.{IsAtPoint}
use Rattle.rg_revised.specs.View.{RevisedState, SavedState}
use Rattle.rg_branch.specs.Kept.{IsAtParent, first_copy, IsSavedOf, low_parents, AreCopiesAt, AreSaved}

-- no copies are those of any nodes
pub none_saved : (system : LinearSystem) (forms : List Form) (nodes : List (List SplitSide)) → AreCopiesAt system forms [] nodes
none_saved system forms [] = refl
none_saved system forms (above ∷ nodes) = (tt, none_saved system forms nodes)

-- ---- a split

pub saved_more : (system : LinearSystem) (forms : List Form) (copies : List (Option SavedState)) (copy : Option SavedState) (side : SplitSide) (outer : List SplitSide) → side.high ≡ false
    → IfSome copy (IsSavedOf (node_system system forms (reverse outer))) → AreSaved system forms copies outer → AreSaved system forms (copy ∷ copies) (side ∷ outer)
saved_more system forms copies copy side outer low is saved = subst (AreCopiesAt system forms (copy ∷ copies))
    (sym (ap (λ b. if b then low_parents outer else (reverse outer ∷ low_parents outer)) low)) (is, saved)

not_none : (copy : Option SavedState) (copies : List (Option SavedState)) → copy ∷ copies ≡ [] → ⊥
not_none copy copies e = let l = ap length e in absurd (omega arith)

-- the copy for the outermost split is dropped
pub saved_less : (system : LinearSystem) (forms : List Form) (copies : List (Option SavedState)) (outermost : Option SavedState) (nodes : List (List SplitSide))
    → AreCopiesAt system forms (copies ++ outermost ∷ []) nodes → AreCopiesAt system forms copies nodes
saved_less system forms [] outermost nodes saved = none_saved system forms nodes
saved_less system forms (copy ∷ copies) outermost [] saved = absurd (not_none copy (copies ++ outermost ∷ []) saved)
saved_less system forms (copy ∷ copies) outermost (above ∷ nodes) saved = (saved.0, saved_less system forms copies outermost nodes saved.1)

pub dropped : (system : LinearSystem) (forms : List Form) (items : List (Option SavedState)) (sides : List SplitSide) → 0 < length items
    → AreSaved system forms (reverse items) sides → AreSaved system forms (reverse (remove items 0)) sides
dropped system forms [] sides some saved = absurd (omega arith)
dropped system forms (copy ∷ items) sides some saved = saved_less system forms (reverse items) copy (low_parents sides)
    (subst (λ xs. AreCopiesAt system forms xs (low_parents sides)) (reverse-append (copy ∷ []) items) saved)

-- ---- a turn

-- the node above the next one, and the copies that are left
record IsTurnedTo (system : LinearSystem) (forms : List Form) (copies : List (Option SavedState)) (next : List SplitSide) : Type 0 where
  pub side : SplitSide
  pub outer : List SplitSide
  pub next_is : next ≡ side ∷ outer
  pub high : side.high ≡ true
  pub first : IfSome (first_copy copies) (IsSavedOf (node_system system forms (reverse outer)))
  pub rest : AreSaved system forms (drop 1 copies) outer

turns_to : (system : LinearSystem) (forms : List Form) (copies : List (Option SavedState)) (sides next : List SplitSide) → AreSaved system forms copies sides
    → turned_back sides ≡ next → 0 < length next → IsTurnedTo system forms copies next
turns_to system forms copies [] next saved e some = absurd (let l = ap length e in omega arith)
turns_to system forms copies (side ∷ outer) next saved e some = go side.high saved e (λ more is. turns_to system forms copies outer next more is some)
  where
    go : (b : Bool) → AreCopiesAt system forms copies (if b then low_parents outer else (reverse outer ∷ low_parents outer))
        → (if b then turned_back outer else (record side { high = true } ∷ outer)) ≡ next
        → (AreSaved system forms copies outer → turned_back outer ≡ next → IsTurnedTo system forms copies next) → IsTurnedTo system forms copies next
    go true saved e further = further saved e
    go false saved e further = record { side = record side { high = true }; outer = outer; next_is = sym e; high = refl; first = saved.0; rest = saved.1 }

-- the last item of the list is the innermost copy
innermost_first : (system : LinearSystem) (forms : List Form) (items rest : List (Option SavedState)) (copy : Option SavedState) (sides : List SplitSide)
    → items ≡ rest ++ copy ∷ [] → AreSaved system forms (reverse items) sides → AreSaved system forms (copy ∷ reverse rest) sides
innermost_first system forms items rest copy sides are saved = subst (λ xs. AreSaved system forms xs sides) (ap reverse are ∙ reverse-append rest (copy ∷ [])) saved

module _ (system : LinearSystem) (forms : List Form) (items rest : List (Option SavedState)) where
  -- a copy is of so many columns
  pub copy_columns : (copy : SavedState) (sides : List SplitSide) → items ≡ rest ++ Some copy ∷ [] → AreSaved system forms (reverse items) sides → copy.columns ≡ system.columns
  copy_columns copy sides are saved = go (low_parents sides) (innermost_first system forms items rest (Some copy) sides are saved)
    where
      go : (nodes : List (List SplitSide)) → AreCopiesAt system forms (Some copy ∷ reverse rest) nodes → copy.columns ≡ system.columns
      go [] none = absurd (not_none (Some copy) (reverse rest) none)
      go (above ∷ nodes) saved = saved.0.columns

  -- the innermost copy is taken, and the others are those above the next node
  pub rest_saved : (copy : Option SavedState) (sides next : List SplitSide) → items ≡ rest ++ copy ∷ [] → AreSaved system forms (reverse items) sides
      → turned_back sides ≡ next → 0 < length next → AreSaved system forms (reverse rest) next
  rest_saved copy sides next are saved turned some =
      let t = turns_to system forms (copy ∷ reverse rest) sides next (innermost_first system forms items rest copy sides are saved) turned some in
      subst (AreSaved system forms (reverse rest)) (sym t.next_is)
      (subst (AreCopiesAt system forms (reverse rest)) (sym (ap (λ b. if b then low_parents t.outer else (reverse t.outer ∷ low_parents t.outer)) t.high)) t.rest)

  -- a dictionary with its relations is at the node above the next one
  pub copied_parent : (copy : SavedState) (sides next : List SplitSide) (r : RevisedState) → items ≡ rest ++ Some copy ∷ [] → AreSaved system forms (reverse items) sides
      → turned_back sides ≡ next → 0 < length next → ((node : LinearSystem) → IsSavedAt node copy → IsAtPoint node r) → IsAtParent system forms next r
  copied_parent copy sides next r are saved turned some put_back =
      let t = turns_to system forms (Some copy ∷ reverse rest) sides next (innermost_first system forms items rest (Some copy) sides are saved) turned some in
      subst (λ xs. IsAtParent system forms xs r) (sym t.next_is) (put_back (node_system system forms (reverse t.outer)) t.first.saved)

-- ---- the rows of a node whose parent is held

pub parent_rows : (system : LinearSystem) (forms : List Form) (above : List SplitSide) (rows : List LinearRow) (r : RevisedState) → rows ≡ map (side_row forms) above
    → IsAtParent system forms (reverse above) r → (front : List LinearRow) × (last : LinearRow) × (rows ≡ front ++ last ∷ []) × IsAtPoint (with_rows system front) r
parent_rows system forms above rows r are at = go (reverse above) refl at
  where
    go : (sides : List SplitSide) → reverse above ≡ sides → IsAtParent system forms sides r
        → (front : List LinearRow) × (last : LinearRow) × (rows ≡ front ++ last ∷ []) × IsAtPoint (with_rows system front) r
    go [] is none = absurd none
    go (side ∷ outer) is here = (
      map (side_row forms) (reverse outer),
      side_row forms side,
      are ∙ ap (map (side_row forms)) (sym (reverse-reverse above) ∙ ap reverse is ∙ reverse-append (side ∷ []) outer) ∙ map-append (side_row forms) (reverse outer) (side ∷ []),
      here,
    )

-- the split is the node above its low side
pub parent_low : (system : LinearSystem) (forms : List Form) (above : List SplitSide) (side : SplitSide) (r : RevisedState) → IsAtPoint (node_system system forms above) r
    → IsAtParent system forms (reverse (above ++ side ∷ [])) r
parent_low system forms above side r at = subst (λ xs. IsAtParent system forms xs r) (sym (reverse-append above (side ∷ [])))
    (subst (λ xs. IsAtPoint (node_system system forms xs) r) (sym (reverse-reverse above)) at)
