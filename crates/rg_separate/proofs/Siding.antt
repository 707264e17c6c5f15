-- The sides of splits with their forms by name.
use Rattle.std.proofs.Common.{◌≡◌, ℕ, ◌+◌, ◌<◌, List, [], ◌∷◌, ◌++◌, map, take, length, get_or, All, sym, ap, subst, ◌∙◌, arith}
use Rattle.std.specs.Prelude.{Bool, ℤ}
use Rattle.std.proofs.lemmas.List.{get_or-map, length-map, map-append, take_more}
use Rattle.std.proofs.lemmas.List.Elements.{All-nil, All-cons, All-weaker}
use Rattle.rg_cert_meaning.specs.declared.Form.{Form as SplitForm}
use Rattle.rg_cert_meaning.specs.Row.{Side}
use Rattle.rg_cert_meaning.specs.Sides.{side_of}
use Rattle.rg_linear.specs.Branching.{Form, SplitSide, SidesWithin, Weight}
use Rattle.rg_branch.specs.Asked.{IsSideOf, AreSidesOf}
use Rattle.rg_branch.specs.View.{weight_of}
use Rattle.rg_rows.specs.declared.named_form.NamedForm.{NamedForm}
use Rattle.rg_rows.specs.Forms.{linear_form, split_of}
use Rattle.rg_separate.specs.Casing.{sides_among}
use Rattle.rg_cert_meaning.specs.declared.Form.TheVariants as split_form

-- one side by name
abbrev named : List SplitForm → SplitSide → Side
named forms side = record { form = get_or forms side.form (split_form.Tokens 0); at = side.at; high = side.high }

pub sides_more : (forms : List NamedForm) (above : List SplitSide) (i : ℕ) (d : SplitSide) (f : NamedForm) (sides : List Side) → i < length above
    → (get_or above i d).form < length forms → sides ≡ sides_among (map split_of forms) (take i above)
    → (sides ++ record { form = (get_or forms (get_or above i d).form f).form; at = (get_or above i d).at; high = (get_or above i d).high } ∷ []) ≡
    sides_among (map split_of forms) (take (i + 1) above)
sides_more forms above i d f sides lt within so_far =
    ap (λ xs. xs ++ record { form = split_of (get_or forms (get_or above i d).form f); at = (get_or above i d).at; high = (get_or above i d).high } ∷ []) so_far
    ∙ ap (λ g. sides_among (map split_of forms) (take i above) ++ record { form = g; at = (get_or above i d).at; high = (get_or above i d).high }
    ∷ []) (sym (get_or-map split_of forms (get_or above i d).form f (split_form.Tokens 0) within))
    ∙ sym (ap (sides_among (map split_of forms)) (take_more above i d lt) ∙ map-append (named (map split_of forms)) (take i above) (get_or above i d ∷ []))

-- one more side as a triple
pub triples_more : (forms : List NamedForm) (above : List SplitSide) (i : ℕ) (d : SplitSide) (f : NamedForm) (triples : List (SplitForm × ℤ × Bool)) → i < length above
    → (get_or above i d).form < length forms → map side_of triples ≡ sides_among (map split_of forms) (take i above)
    → map side_of (triples ++ ((get_or forms (get_or above i d).form f).form, (get_or above i d).at, (get_or above i d).high) ∷ []) ≡ sides_among (map split_of forms) (take (i + 1) above)
triples_more forms above i d f triples lt within so_far =
    map-append side_of triples (((get_or forms (get_or above i d).form f).form, (get_or above i d).at, (get_or above i d).high) ∷ [])
    ∙ sides_more forms above i d f (map side_of triples) lt within so_far

-- the splits of a branching are on its forms
pub sides_on_forms : (forms : List Form) (above sides : List SplitSide) → SidesWithin forms above sides → All (λ s. s.form < length forms) sides
sides_on_forms forms above [] within = All-nil (λ (s : SplitSide). s.form < length forms)
sides_on_forms forms above (side ∷ sides) (here, within) = All-cons (λ (s : SplitSide). s.form < length forms) side sides here.0 (sides_on_forms forms (above ++ side ∷ []) sides within)

-- as many as are named
pub sides_on_named : (forms : List NamedForm) (sides : List SplitSide) → All (λ s. s.form < length (map linear_form forms)) sides → All (λ s. s.form < length forms) sides
sides_on_named forms sides all = All-weaker (λ (s : SplitSide). s.form < length (map linear_form forms)) (λ (s : SplitSide). s.form < length forms)
    (λ s lt. (let e = length-map forms linear_form in omega arith)) sides all

-- what holds of the weights holds of each
pub weight_is : (P : Weight → Type 0) (weights : List (ℕ × ℤ)) (i : ℕ) (d : ℕ × ℤ) → All P (map weight_of weights) → i < length weights → P (weight_of (get_or weights i d))
weight_is P weights i d all lt = subst P (get_or-map weight_of weights i d (weight_of d) lt) (all i (weight_of d) (let e = length-map weights weight_of in omega arith))

-- so are those above a node that stands
pub sides_of_visit : (forms : List Form) (sides : List SplitSide) → AreSidesOf forms sides → All (λ s. s.form < length forms) sides
sides_of_visit forms sides are = All-weaker (IsSideOf forms) (λ (s : SplitSide). s.form < length forms) (λ s is. is.form) sides are.each
