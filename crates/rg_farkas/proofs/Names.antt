-- The named rows of a case name states of the system and labels with an arc.
use Rattle.std.proofs.Common.{◌≡◌, ⊎_elim, ℕ, zero, suc, ◌<◌, true, List, [], ◌∷◌, Contains, All, subst, arith}
use Rattle.std.proofs.lemmas.List.Elements.{All-nil, All-cons}
use Rattle.rg_theory.specs.declared.Class.{Class}
use Rattle.rg_theory.specs.declared.Problem.{Problem}
use Rattle.rg_theory.specs.declared.Problem.TheVariants.{Event, States}
use Rattle.rg_theory.specs.System.{System, states, labels}
use Rattle.rg_theory.proofs.Lists.{Contains-cons_cases}
use Rattle.rg_cert_meaning.specs.Expression.{Term, plus, minus}
use Rattle.rg_cert_meaning.specs.declared.Variable.{Variable}
use Rattle.rg_cert_meaning.specs.Row.{row_expression, apart_expression, order_of}
use Rattle.rg_cert_meaning.specs.declared.RowName.{RowName}
use Rattle.rg_cert_meaning.specs.Refutes.{IsSeparationProblem}
use Rattle.rg_case_folds.specs.Rewriting.{has_label, has_label_at, states_with, names_of}
use Rattle.rg_case_folds.specs.Shown.{IsLive}
use Rattle.rg_case_folds.proofs.Lists.{nothing, where_is}
use Rattle.rg_case_folds.proofs.Names.{each_problem_name, each_name}
use Rattle.rg_case_folds.proofs.Kept.{live_label}
use Rattle.rg_cert_data.specs.Certificates.{IsRowNameOf}
use Rattle.rg_cert_meaning.specs.declared.RowName.TheVariants as row_name
use Rattle.rg_cert_meaning.specs.declared.Variable.TheVariants.{Tokens, Effect}

-- a state, or a label with an arc
abbrev pub IsUsed : System → Variable → Type 0
IsUsed lts (Tokens q) = q < states lts
IsUsed lts (Effect t) = (t < labels lts) × (has_label t lts.arcs ≡ true)

-- its terms are those of states and labels with an arc
abbrev pub NamesUsed : System → List Term → Type 0
NamesUsed lts terms = All (λ t. IsUsed lts t.variable) terms

-- ---- in range

pub names_in_range : (lts : System) (class : Class) (problem : Problem) (number : ℕ) (name : RowName) → Contains (names_of lts class problem number) name → IsRowNameOf lts name
names_in_range lts class (Event s t) number name has = each_name lts class (Event s t) number (IsRowNameOf lts)
    (each_problem_name lts class s t (IsRowNameOf lts) (λ _. tt) (λ _ _. tt) (λ _ _ q has'. state q has') (λ _ _. tt) (λ _ _ q has'. state q has')) (λ _ q lt. lt)
    (λ _ q lt. lt) (λ _ u lt _. lt) (λ _ u lt _. lt) (λ _ u lt _ _. lt) name has
  where
    state : (q : ℕ) → Contains (states_with lts t) q → q < states lts
    state q has' = let (_, _, lt) = where_is (λ q. has_label_at q t lts.arcs) 0 (states lts) q has' in omega arith
names_in_range lts class (States s s') number name has = each_name lts class (States s s') number (IsRowNameOf lts)
    (λ n h. ⊎_elim (λ is. subst (IsRowNameOf lts) is tt) (λ there. absurd (nothing n there)) (Contains-cons_cases row_name.Apart n [] h)) (λ _ q lt. lt) (λ _ q lt. lt)
    (λ _ u lt _. lt) (λ _ u lt _. lt) (λ _ u lt _ _. lt) name has

-- ---- used

one_used : (lts : System) (t : Term) → IsUsed lts t.variable → NamesUsed lts (t ∷ [])
one_used lts t h = All-cons (λ u. IsUsed lts u.variable) t [] h (All-nil (λ u. IsUsed lts u.variable))

two_used : (lts : System) (t u : Term) → IsUsed lts t.variable → IsUsed lts u.variable → NamesUsed lts (t ∷ u ∷ [])
two_used lts t u h k = All-cons (λ w. IsUsed lts w.variable) t (u ∷ []) h (one_used lts u k)

apart_used : (lts : System) (s s' order : ℕ) → s < states lts → s' < states lts → NamesUsed lts (apart_expression s s' order).terms
apart_used lts s s' zero lt lt' = two_used lts (plus (Tokens s')) (minus (Tokens s)) lt' lt
apart_used lts s s' (suc order) lt lt' = two_used lts (plus (Tokens s)) (minus (Tokens s')) lt lt'

pub names_used : (lts : System) (class : Class) (problem : Problem) (number : ℕ) (name : RowName) → IsSeparationProblem lts problem
    → IsLive lts problem → Contains (names_of lts class problem number) name → NamesUsed lts (row_expression lts class problem number [] name).terms
names_used lts class (Event s t) number name (lt, lt', _) live has =
    each_name lts class (Event s t) number (λ n. NamesUsed lts (row_expression lts class (Event s t) number [] n).terms)
    (each_problem_name lts class s t (λ n. NamesUsed lts (row_expression lts class (Event s t) number [] n).terms)
    (λ _. two_used lts (minus (Tokens s)) (minus (Effect t)) lt (lt', live_label lts t live))
    (λ _ _. one_used lts (minus (Tokens s)) lt)
    (λ _ _ q has'. one_used lts (plus (Tokens q)) (state q has'))
    (λ _ _. one_used lts (minus (Effect t)) (lt', live_label lts t live))
    (λ _ _ q has'. two_used lts (plus (Tokens q)) (minus (Tokens s)) (state q has') lt))
    (λ _ q lt. one_used lts (plus (Tokens q)) lt)
    (λ _ q lt. one_used lts (minus (Tokens q)) lt)
    (λ _ u lt e. one_used lts (minus (Effect u)) (lt, e))
    (λ _ u lt e. one_used lts (plus (Effect u)) (lt, e))
    (λ _ u lt e _. one_used lts (plus (Effect u)) (lt, e))
    name has
  where
    state : (q : ℕ) → Contains (states_with lts t) q → q < states lts
    state q has' = let (_, _, lt) = where_is (λ q. has_label_at q t lts.arcs) 0 (states lts) q has' in omega arith
names_used lts class (States s s') number name (lt, lt', _) live has =
    each_name lts class (States s s') number (λ n. NamesUsed lts (row_expression lts class (States s s') number [] n).terms)
    (λ n h. ⊎_elim (λ is. subst (λ k. NamesUsed lts (row_expression lts class (States s s') number [] k).terms) is
    (apart_used lts s s' (order_of lts class number) lt lt')) (λ there. absurd (nothing n there)) (Contains-cons_cases row_name.Apart n [] h))
    (λ _ q lt. one_used lts (plus (Tokens q)) lt)
    (λ _ q lt. one_used lts (minus (Tokens q)) lt)
    (λ _ u lt e. one_used lts (minus (Effect u)) (lt, e))
    (λ _ u lt e. one_used lts (plus (Effect u)) (lt, e))
    (λ _ u lt e _. one_used lts (plus (Effect u)) (lt, e))
    name has
