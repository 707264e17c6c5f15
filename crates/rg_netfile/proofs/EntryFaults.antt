-- One entry of a place or transition more: its fault, or that there is none.
use Rattle.std.proofs.Common.{◌≡◌, ℕ, ◌<◌, ◌≤◌, ◌⊎◌, inl, inr, cond, nat_le, List, [], ◌∷◌, ◌++◌, length, map, Contains, None, Some, sym, ap, subst, ◌∙◌}
use Rattle.std.specs.List.{list_any}
use Rattle.std.specs.Str.{bytes_eq}
use Rattle.std.proofs.lemmas.Bool.{cond-true, cond-false, lt-leb, le-leb}
use Rattle.std.proofs.lemmas.List.{map-append}
use Rattle.rg_text.proofs.NameBytes.{absent_none, contains_any}
use Rattle.rg_lexer.specs.Lexeme.{Lexeme}
use Rattle.rg_net_grammar.specs.declared.found.Transition.{Transition}
use Rattle.rg_netfile.specs.declared.fault.NetFault.{NetFault}
use Rattle.rg_netfile.specs.declared.fault.NetFault.TheVariants.{TwicePlace, TooManyPlaces, TwiceTransition}
use Rattle.rg_netfile.specs.Contents.{most_places, place_fault, transition_fault}

abbrev pub text_of : Lexeme → List ℕ
text_of x = x.text

abbrev pub name_of : Transition Lexeme → List ℕ
name_of t = t.name.text

place_twice : (before : List Lexeme) (x : Lexeme) (names : List (List ℕ)) → names ≡ map text_of before → Contains names x.text
    → place_fault before x ≡ Some (TwicePlace x.at)
place_twice before x names is has =
    cond-true (list_any (λ (b : Lexeme). bytes_eq x.text b.text) before) (Some (TwicePlace x.at)) (cond (nat_le most_places (length before)) (Some (TooManyPlaces x.at)) None)
    (contains_any text_of x.text before (subst (λ l. Contains l x.text) is has))

to_room : (before : List Lexeme) (x : Lexeme) (names : List (List ℕ)) → names ≡ map text_of before → (Contains names x.text → ⊥)
    → place_fault before x ≡ cond (nat_le most_places (length before)) (Some (TooManyPlaces x.at)) None
to_room before x names is absent =
    cond-false (list_any (λ (b : Lexeme). bytes_eq x.text b.text) before) (Some (TwicePlace x.at)) (cond (nat_le most_places (length before)) (Some (TooManyPlaces x.at)) None)
    (absent_none text_of x.text before (λ has. absent (subst (λ l. Contains l x.text) (sym is) has)))

place_over : (before : List Lexeme) (x : Lexeme) (names : List (List ℕ)) → names ≡ map text_of before → (Contains names x.text → ⊥)
    → most_places ≤ length before → place_fault before x ≡ Some (TooManyPlaces x.at)
place_over before x names is absent full =
    to_room before x names is absent ∙ cond-true (nat_le most_places (length before)) (Some (TooManyPlaces x.at)) None (le-leb most_places (length before) full)

-- the fault that is told is the place's
pub place_fault_of : (before : List Lexeme) (x : Lexeme) (names : List (List ℕ)) (read : List ℕ) (f : NetFault) → names ≡ map text_of before → read ≡ x.text
    → (size : ℕ) → size ≡ length before
    → ((f ≡ TwicePlace x.at) × Contains names read) ⊎ ((f ≡ TooManyPlaces x.at) × (Contains names read → ⊥) × (most_places ≤ size))
    → place_fault before x ≡ Some f
place_fault_of before x names read f is same size many (inl (at, has)) =
    place_twice before x names is (subst (Contains names) same has) ∙ ap Some (sym at)
place_fault_of before x names read f is same size many (inr (at, absent, full)) =
    place_over before x names is (λ has. absent (subst (Contains names) (sym same) has)) (subst (λ n. most_places ≤ n) many full) ∙ ap Some (sym at)

pub place_fine : (before : List Lexeme) (x : Lexeme) (names : List (List ℕ)) → names ≡ map text_of before → (Contains names x.text → ⊥)
    → length before < most_places → place_fault before x ≡ None
place_fine before x names is absent few =
    to_room before x names is absent ∙ cond-false (nat_le most_places (length before)) (Some (TooManyPlaces x.at)) None (lt-leb most_places (length before) few)

pub transition_twice : (before : List (Transition Lexeme)) (t : Transition Lexeme) (names : List (List ℕ)) → names ≡ map name_of before → Contains names t.name.text
    → transition_fault before t ≡ Some (TwiceTransition t.name.at)
transition_twice before t names is has =
    cond-true (list_any (λ (b : Transition Lexeme). bytes_eq t.name.text b.name.text) before) (Some (TwiceTransition t.name.at)) None
    (contains_any name_of t.name.text before (subst (λ l. Contains l t.name.text) is has))

pub transition_fine : (before : List (Transition Lexeme)) (t : Transition Lexeme) (names : List (List ℕ)) → names ≡ map name_of before → (Contains names t.name.text → ⊥)
    → transition_fault before t ≡ None
transition_fine before t names is absent =
    cond-false (list_any (λ (b : Transition Lexeme). bytes_eq t.name.text b.name.text) before) (Some (TwiceTransition t.name.at)) None
    (absent_none name_of t.name.text before (λ has. absent (subst (λ l. Contains l t.name.text) (sym is) has)))

-- one name more, as it is read
pub names_more : (before : List Lexeme) (x : Lexeme) (names : List (List ℕ)) (read : List ℕ) → names ≡ map text_of before → read ≡ x.text
    → names ++ read ∷ [] ≡ map text_of (before ++ x ∷ [])
names_more before x names read is same = ap (λ l. l ++ read ∷ []) is ∙ ap (λ n. map text_of before ++ n ∷ []) same ∙ sym (map-append text_of before (x ∷ []))

pub transition_names_more : (before : List (Transition Lexeme)) (t : Transition Lexeme) (names : List (List ℕ)) (read : List ℕ) → names ≡ map name_of before → read ≡ t.name.text
    → names ++ read ∷ [] ≡ map name_of (before ++ t ∷ [])
transition_names_more before t names read is same = ap (λ l. l ++ read ∷ []) is ∙ ap (λ n. map name_of before ++ n ∷ []) same ∙ sym (map-append name_of before (t ∷ []))
