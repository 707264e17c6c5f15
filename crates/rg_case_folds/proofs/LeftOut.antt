-- Each row that stands is among the names, or left out.
use Rattle.std.proofs.Common.{◌≡◌, ◌⊎◌, ⊎_elim, ℕ, ◌<◌, ◌==◌, ◌&&◌, not, is_some, Bool, true, false, if◌then◌else◌, List, [], ◌∷◌, ◌++◌, map, Contains, inl, inr, refl, ap, arith, eq-eqb, ne_eqb}
use Rattle.std.proofs.lemmas.Bool.{and_from, cases_Bool, cases_lt, not_from_false}
use Rattle.std.proofs.lemmas.List.Elements.{Contains-append_left, Contains-append_right}
use Rattle.rg_theory.specs.declared.Arc.{Arc}
use Rattle.rg_theory.specs.declared.Class.{Class}
use Rattle.rg_theory.specs.declared.Problem.{Problem}
use Rattle.rg_theory.specs.declared.Problem.TheVariants.{Event, States}
use Rattle.rg_theory.specs.System.{System, IsInRange, states, labels}
use Rattle.rg_theory.proofs.Arcs.{arc_in_range}
use Rattle.rg_theory.proofs.Lists.{Contains-cons_cases, map_there}
use Rattle.rg_cert_meaning.specs.declared.RowName.{RowName}
use Rattle.rg_cert_meaning.specs.Row.{HasArcAt, SharedStands}
use Rattle.rg_cert_meaning.specs.Row.{RowStands, case_consumer}
use Rattle.rg_case_folds.specs.Rewriting.{has_label, has_label_at, used_labels, has_start, all_numbers, states_with, problem_rows, names_of}
use Rattle.rg_case_folds.specs.Meaning.{IsLeftOut}
use Rattle.rg_case_folds.proofs.Names.{tokens_names, cap_names, effect_names, may_make, makers, makes_names, plain_names, impure_names, IsPart}
use Rattle.rg_case_folds.proofs.Lists.{nothing, first, behind, where_has, if_true, if_false, from_one_of}
use Rattle.rg_cert_meaning.specs.declared.RowName.TheVariants as row_name

-- the state of an arc of the label is found
pub finds_at : (q t : ℕ) (arcs : List Arc) (q' : ℕ) → Contains arcs (record { from = q; label = t; to = q' }) → has_label_at q t arcs ≡ true
finds_at q t [] q' has = absurd (nothing (record { from = q; label = t; to = q' }) has)
finds_at q t (a ∷ arcs) q' has = ⊎_elim here (λ there. later ((a.from == q) && (a.label == t)) (finds_at q t arcs q' there)) (Contains-cons_cases a (record { from = q; label = t; to = q' }) arcs has)
  where
    here : a ≡ record { from = q; label = t; to = q' } → has_label_at q t (a ∷ arcs) ≡ true
    here is =
        ap (λ b. if b then true else has_label_at q t arcs) (and_from (a.from == q) (a.label == t) (eq-eqb a.from q (ap (λ (x : Arc). x.from) is)) (eq-eqb a.label t (ap (λ (x : Arc). x.label) is)))

    later : (b : Bool) → has_label_at q t arcs ≡ true → (if b then true else has_label_at q t arcs) ≡ true
    later true e = refl
    later false e = e

-- the label of an arc is found
pub finds_label : (a : Arc) (arcs : List Arc) → Contains arcs a → has_label a.label arcs ≡ true
finds_label a [] has = absurd (nothing a has)
finds_label a (b ∷ arcs) has = ⊎_elim (λ is. ap (λ c. if c then true else has_label a.label arcs)
    (eq-eqb b.label a.label (ap (λ (x : Arc). x.label) is))) (λ there. later (b.label == a.label) (finds_label a arcs there)) (Contains-cons_cases b a arcs has)
  where
    later : (c : Bool) → has_label a.label arcs ≡ true → (if c then true else has_label a.label arcs) ≡ true
    later true e = refl
    later false e = e

-- ---- the parts

from_part : (lts : System) (class : Class) (problem : Problem) (number : ℕ) (name : RowName) → IsPart lts class problem number name
    → Contains (names_of lts class problem number) name
from_part lts class problem number name part =
    from_one_of (problem_rows lts class problem) (tokens_names lts class) (cap_names lts class) (effect_names lts class) (makes_names lts class problem number) name part

state_named : (lts : System) (row : ℕ → RowName) (q : ℕ) → q < states lts → Contains (map row (all_numbers (states lts))) (row q)
state_named lts row q lt = map_there row (all_numbers (states lts)) q (where_has (λ q. true) 0 (states lts) q refl (omega arith) (omega arith))

label_named : (lts : System) (row : ℕ → RowName) (t : ℕ) → t < labels lts → has_label t lts.arcs ≡ true → Contains (map row (used_labels lts)) (row t)
label_named lts row t lt e = map_there row (used_labels lts) t (where_has (λ t. has_label t lts.arcs) 0 (labels lts) t e (omega arith) (omega arith))

-- the rows of no problem, where the consumer is that of the case
shared_part : (lts : System) (class : Class) (problem : Problem) (number : ℕ) (name : RowName) → SharedStands lts class (case_consumer lts problem number) [] name
    → IsPart lts class problem number name ⊎ IsLeftOut lts class name
shared_part lts class problem number (row_name.Arc a) stands = inr tt
shared_part lts class problem number (row_name.Tokens q) stands = ⊎_elim
    (λ c. ⊎_elim
    (λ lt. inl (inr (inl (if_true (has_start class) (map row_name.Tokens (all_numbers (states lts))) [] (row_name.Tokens q) c (state_named lts row_name.Tokens q lt)))))
    (λ le. inr (inr le))
    (cases_lt q (states lts)))
    (λ c. inr (inl c))
    (cases_Bool (has_start class))
shared_part lts class problem number (row_name.Cap q) (lt, some) =
    inl (inr (inr (inl (if_true (is_some class.bound) (map row_name.Cap (all_numbers (states lts))) [] (row_name.Cap q) some (state_named lts row_name.Cap q lt)))))
shared_part lts class problem number (row_name.Up t) (lt, plain) = ⊎_elim
    (λ e. inl (inr (inr (inr (inl (if_true class.plain (map row_name.Up (used_labels lts) ++ map row_name.Down (used_labels lts)) [] (row_name.Up t) plain
    (Contains-append_left (map row_name.Up (used_labels lts)) (map row_name.Down (used_labels lts)) (row_name.Up t) (label_named lts row_name.Up t lt e))))))))
    (λ e. inr e)
    (cases_Bool (has_label t lts.arcs))
shared_part lts class problem number (row_name.Down t) (lt, plain) = ⊎_elim
    (λ e. inl (inr (inr (inr (inl (if_true class.plain (map row_name.Up (used_labels lts) ++ map row_name.Down (used_labels lts)) [] (row_name.Down t) plain
    (Contains-append_right (map row_name.Up (used_labels lts)) (map row_name.Down (used_labels lts)) (row_name.Down t) (label_named lts row_name.Down t lt e))))))))
    (λ e. inr e)
    (cases_Bool (has_label t lts.arcs))
shared_part lts class problem number (row_name.Makes t) (lt, nonbranching, differ) =
    ⊎_elim
    (λ e. inl (inr (inr (inr (inr (if_true class.nonbranching
    (map row_name.Makes (makers lts problem number)) [] (row_name.Makes t) nonbranching
    (map_there row_name.Makes (makers lts problem number) t
    (where_has (may_make lts problem number) 0 (labels lts) t
    (and_from (has_label t lts.arcs) (not (t == case_consumer lts problem number)) e
    (not_from_false (t == case_consumer lts problem number) (ne_eqb t (case_consumer lts problem number) differ))) (omega arith) (omega arith)))))))))
    (λ e. inr e)
    (cases_Bool (has_label t lts.arcs))
shared_part lts class problem number name stands = absurd stands

plain_rows : (lts : System) (class : Class) (s t : ℕ) (name : RowName) → class.plain ≡ true → class.pure ≡ false → Contains (plain_names lts t) name
    → Contains (problem_rows lts class (Event s t)) name
plain_rows lts class s t name plain pure h =
    if_false class.pure (row_name.Block ∷ []) (impure_names lts class t) name pure
    (if_true class.plain (plain_names lts t) (map row_name.Stop (states_with lts t)) name plain h)

with_arc : (lts : System) (q t : ℕ) → IsInRange lts → HasArcAt lts q t → Contains (states_with lts t) q
with_arc lts q t fine (q', has) =
    where_has (λ q. has_label_at q t lts.arcs) 0 (states lts) q (finds_at q t lts.arcs q' has) (omega arith) (let lt = (arc_in_range lts fine q t q' has).0 in omega arith)

event_part : (lts : System) (class : Class) (s t number : ℕ) (name : RowName) → IsInRange lts → RowStands lts class (Event s t) number [] name
    → IsPart lts class (Event s t) number name ⊎ IsLeftOut lts class name
event_part lts class s t number (row_name.Stop q) fine (pure, plain, at) =
    inl (inl (if_false class.pure (row_name.Block ∷ []) (impure_names lts class t) (row_name.Stop q) pure
    (if_false class.plain (plain_names lts t) (map row_name.Stop (states_with lts t)) (row_name.Stop q) plain (map_there row_name.Stop (states_with lts t) q (with_arc lts q t fine at)))))
event_part lts class s t number row_name.Block fine pure =
    inl (inl (if_true class.pure (row_name.Block ∷ []) (impure_names lts class t) row_name.Block pure (first row_name.Block [])))
event_part lts class s t number row_name.Empty fine (plain, pure) =
    inl (inl (plain_rows lts class s t row_name.Empty plain pure (first row_name.Empty (map row_name.Full (states_with lts t) ++ row_name.Keep ∷ []))))
event_part lts class s t number (row_name.Full q) fine (plain, pure, at) = inl
    (inl (plain_rows lts class s t (row_name.Full q) plain pure
    (behind row_name.Empty (row_name.Full q) (map row_name.Full (states_with lts t) ++ row_name.Keep ∷ [])
    (Contains-append_left (map row_name.Full (states_with lts t)) (row_name.Keep ∷ []) (row_name.Full q) (map_there row_name.Full (states_with lts t) q (with_arc lts q t fine at))))))
event_part lts class s t number row_name.Keep fine (plain, pure) = inl
    (inl (plain_rows lts class s t row_name.Keep plain pure
    (behind row_name.Empty row_name.Keep (map row_name.Full (states_with lts t) ++ row_name.Keep ∷ [])
    (Contains-append_right (map row_name.Full (states_with lts t)) (row_name.Keep ∷ []) row_name.Keep (first row_name.Keep [])))))
event_part lts class s t number name fine stands = shared_part lts class (Event s t) number name stands

state_part : (lts : System) (class : Class) (s s' number : ℕ) (name : RowName) → RowStands lts class (States s s') number [] name
    → IsPart lts class (States s s') number name ⊎ IsLeftOut lts class name
state_part lts class s s' number row_name.Apart stands = inl (inl (first row_name.Apart []))
state_part lts class s s' number name stands = shared_part lts class (States s s') number name stands

pub left_out : (lts : System) (class : Class) (problem : Problem) (number : ℕ) (name : RowName) → IsInRange lts → RowStands lts class problem number [] name
    → Contains (names_of lts class problem number) name ⊎ IsLeftOut lts class name
left_out lts class (Event s t) number name fine stands = ⊎_elim (λ p. inl (from_part lts class (Event s t) number name p)) (λ l. inr l) (event_part lts class s t number name fine stands)
left_out lts class (States s s') number name fine stands = ⊎_elim (λ p. inl (from_part lts class (States s s') number name p)) (λ l. inr l) (state_part lts class s s' number name stands)
