-- A text spells one system or has one first fault.
use Rattle.std.proofs.Common.{◌≡◌, ℕ, ◌⊎◌, inl, inr, ⊎_elim, List, sym, ap, subst}
use Rattle.rg_text.specs.Faults.{IsFirst}
use Rattle.rg_text.proofs.Left.{one_first, none_or_first, some_first}
use Rattle.rg_theory.specs.System.{System}
use Rattle.rg_lexer.specs.Lexeme.{Lexeme, AreLexemes}
use Rattle.rg_grammar.specs.declared.fault.ItemFault.{ItemFault}
use Rattle.rg_grammar.specs.Text.{FirstItemFault}
use Rattle.rg_grammar.proofs.WholeTexts.{one_meaning, items_not_fault, one_first_fault as one_item_fault, items_or_fault}
use Rattle.rg_apt.specs.declared.fault.TextFault.{TextFault}
use Rattle.rg_apt.specs.Item.{Item, AreItems}
use Rattle.rg_apt.specs.Reading.{system_grammar}
use Rattle.rg_apt.specs.Contents.{declared, faults, IsSystemOf}
use Rattle.rg_apt.specs.Spells.{Spells, of_items, FirstFault, in_items, in_system}
use Rattle.rg_apt.proofs.Grammars.{describes}
use Rattle.rg_apt.proofs.Systems.{one_system}
use Rattle.rg_apt.proofs.Existing.{system_exists}

same_declared : (bytes : List ℕ) (xs ys : List Lexeme) (is js : List Item) → AreLexemes bytes xs → AreLexemes bytes ys → AreItems is xs → AreItems js ys → declared is ≡ declared js
same_declared bytes xs ys is js a b x y = one_meaning system_grammar AreItems declared describes bytes is js (xs, a, x) (ys, b, y)

no_fault : (bytes : List ℕ) (xs : List Lexeme) (is : List Item) (e : ItemFault) → AreLexemes bytes xs → AreItems is xs → FirstItemFault system_grammar bytes e → ⊥
no_fault bytes xs is e a x h = items_not_fault system_grammar AreItems declared describes bytes is e (xs, a, x) h

-- a text spells one system
pub one_spelled : (bytes : List ℕ) (a b : System) → Spells bytes a → Spells bytes b → a ≡ b
one_spelled bytes a b x y =
    let same = same_declared bytes x.0 y.0 x.1 y.1 x.2 y.2 x.3 y.3 in
    one_system (declared x.1) a b x.5 (subst (λ d. IsSystemOf d b) (sym same) y.5)

-- a text that spells a system has no fault
pub spelled_or_fault : (bytes : List ℕ) (a : System) (fault : TextFault) → Spells bytes a → FirstFault bytes fault → ⊥
spelled_or_fault bytes a fault x (in_items e h) = no_fault bytes x.0 x.1 e x.2 x.3 h
spelled_or_fault bytes a fault x (in_system ys js f b items first) =
    none_or_first (faults (declared x.1)) f x.4 (subst (λ d. IsFirst (faults d) f) (sym (same_declared bytes x.0 ys x.1 js x.2 b x.3 items)) first)

-- one first fault, by where it lies
with_items : (bytes : List ℕ) (e : ItemFault) (fault : TextFault) → FirstItemFault system_grammar bytes e → FirstFault bytes fault → of_items e ≡ fault
with_items bytes e fault h (in_items e' h') = ap of_items (one_item_fault system_grammar bytes e e' h h')
with_items bytes e fault h (in_system ys js f b items first) = absurd (no_fault bytes ys js e b items h)

with_system : (bytes : List ℕ) (xs : List Lexeme) (is : List Item) (f fault : TextFault) → AreLexemes bytes xs → AreItems is xs → IsFirst (faults (declared is)) f → FirstFault bytes fault → f ≡ fault
with_system bytes xs is f fault a items first (in_items e h) = absurd (no_fault bytes xs is e a items h)
with_system bytes xs is f fault a items first (in_system ys js g b items' first') =
    one_first (faults (declared is)) f g first
    (subst (λ d. IsFirst (faults d) g) (sym (same_declared bytes xs ys is js a b items items')) first')

pub one_first_fault : (bytes : List ℕ) (f g : TextFault) → FirstFault bytes f → FirstFault bytes g → f ≡ g
one_first_fault bytes f g (in_items e h) y = with_items bytes e g h y
one_first_fault bytes f g (in_system xs is fault a items first) y = with_system bytes xs is fault g a items first y

-- a text spells a system or has a first fault
pub answered : (bytes : List ℕ) → ((a : System) × Spells bytes a) ⊎ ((f : TextFault) × FirstFault bytes f)
answered bytes = ⊎_elim
    (λ items. let xs = items.1.0 in
    ⊎_elim
    (λ none. let system = system_exists (declared items.0) none in inl (system.0, (xs, items.0, items.1.1, items.1.2, none, system.1)))
    (λ first. inr (first.0, in_system xs items.0 first.0 items.1.1 items.1.2 first.1))
    (some_first (faults (declared items.0))))
    (λ fault. inr (of_items fault.0, in_items fault.0 fault.1))
    (items_or_fault system_grammar AreItems declared describes bytes)
