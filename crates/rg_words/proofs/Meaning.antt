-- A text spells one system or has one first fault.
use Rattle.std.proofs.Common.{◌≡◌, ◌⊎◌, inl, inr, ⊎_elim, ℕ, List, length, map}
use Rattle.rg_theory.specs.System.{System}
use Rattle.rg_text.proofs.Left.{one_first, none_or_first, some_first}
use Rattle.rg_line_formats.proofs.Parts.{some_with, one_with}
use Rattle.rg_words.specs.declared.fault.WordFault.{WordFault}
use Rattle.rg_words.specs.Contents.{Use, uses, prefixes, label_names, state_names, arc_of, faults}
use Rattle.rg_words.specs.Spells.{IsTreeOf, Spells, FirstFault}

pub tree_exists : (all : List Use) → (lts : System) × IsTreeOf all lts
tree_exists all =
    let states = prefixes all in
    let labels = label_names all in
    some_with (state_names (length states)) labels (map (arc_of states labels) all) 0

pub one_tree : (all : List Use) (a b : System) → IsTreeOf all a → IsTreeOf all b → a ≡ b
one_tree all a b x y =
    let states = prefixes all in
    let labels = label_names all in
    one_with (state_names (length states)) labels (map (arc_of states labels) all) 0 a b x y

pub answered : (bytes : List ℕ) → ((a : System) × Spells bytes a) ⊎ ((f : WordFault) × FirstFault bytes f)
answered bytes = ⊎_elim
    (λ none. let tree = tree_exists (uses bytes) in inl (tree.0, record { none = none; tree = tree.1 }))
    (λ first. inr first) (some_first (faults bytes))

pub one_spelled : (bytes : List ℕ) (a b : System) → Spells bytes a → Spells bytes b → a ≡ b
one_spelled bytes a b x y = one_tree (uses bytes) a b x.tree y.tree

pub one_fault : (bytes : List ℕ) (f g : WordFault) → FirstFault bytes f → FirstFault bytes g → f ≡ g
one_fault bytes f g x y = one_first (faults bytes) f g x y

pub spelled_or_fault : (bytes : List ℕ) (a : System) (f : WordFault) → Spells bytes a → FirstFault bytes f → ⊥
spelled_or_fault bytes a f x y = none_or_first (faults bytes) f x.none y
