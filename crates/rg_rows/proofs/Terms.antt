-- The rows of a case name states of the system.
use Rattle.std.proofs.Common.{◌≡◌, ⊎_elim, Contains, ℕ, zero, suc, ◌<◌, List, [], ◌∷◌, length, All, sym, subst, arith}
use Rattle.std.specs.Prelude.{slice_index_or}
use Rattle.std.proofs.lemmas.List.Elements.{Contains-get_or, All-nil, All-cons}
use Rattle.rg_theory.specs.declared.Class.{Class}
use Rattle.rg_theory.specs.declared.Problem.{Problem}
use Rattle.rg_theory.specs.declared.Problem.TheVariants.{Event, States}
use Rattle.rg_theory.specs.System.{System, states}
use Rattle.rg_cert_meaning.specs.Expression.{Term as SumTerm, plus, minus}
use Rattle.rg_cert_meaning.specs.Row.{row_expression, apart_expression, order_of}
use Rattle.rg_cert_meaning.specs.declared.RowName.{RowName}
use Rattle.rg_cert_meaning.specs.Refutes.{IsSeparationProblem}
use Rattle.rg_case_folds.specs.Rewriting.{has_label_at, states_with, problem_rows, names_of}
use Rattle.rg_theory.proofs.Lists.{Contains-cons_cases}
use Rattle.rg_case_folds.proofs.Lists.{nothing, where_is}
use Rattle.rg_case_folds.proofs.Names.{each_problem_name, each_name}
use Rattle.rg_case_parts.specs.StatesNamed.{TermNamesStateBelow}
use Rattle.rg_case_folds.specs.Setting.{CaseSetting}
use Rattle.rg_rows.specs.View.{AreNamesWithin}
use Rattle.rg_cert_meaning.specs.declared.RowName.TheVariants as row_name
use Rattle.rg_cert_meaning.specs.declared.Variable.TheVariants.{Tokens, Effect}

pub one : (n : ℕ) (t : SumTerm) → TermNamesStateBelow n t → All (TermNamesStateBelow n) (t ∷ [])
one n t h = All-cons (TermNamesStateBelow n) t [] h (All-nil (TermNamesStateBelow n))

two : (n : ℕ) (t u : SumTerm) → TermNamesStateBelow n t → TermNamesStateBelow n u → All (TermNamesStateBelow n) (t ∷ u ∷ [])
two n t u h k = All-cons (TermNamesStateBelow n) t (u ∷ []) h (one n u k)

abbrev Within : System → Class → Problem → ℕ → RowName → Type 0
Within lts class problem number name = All (TermNamesStateBelow (states lts)) (row_expression lts class problem number [] name).terms

apart_within : (n s s' order : ℕ) → s < n → s' < n → All (TermNamesStateBelow n) (apart_expression s s' order).terms
apart_within n s s' zero h k = two n (plus (Tokens s')) (minus (Tokens s)) k h
apart_within n s s' (suc order) h k = two n (plus (Tokens s)) (minus (Tokens s')) h k

problem_name_within : (lts : System) (class : Class) (problem : Problem) (number : ℕ) (name : RowName) → IsSeparationProblem lts problem
    → Contains (problem_rows lts class problem) name → Within lts class problem number name
problem_name_within lts class (Event s t) number name asked has =
    each_problem_name lts class s t (Within lts class (Event s t) number)
    (λ _. two (states lts) (minus (Tokens s)) (minus (Effect t)) asked.0 tt)
    (λ _ _. one (states lts) (minus (Tokens s)) asked.0)
    (λ _ _ q has'. one (states lts) (plus (Tokens q)) (state q has'))
    (λ _ _. one (states lts) (minus (Effect t)) tt)
    (λ _ _ q has'. two (states lts) (plus (Tokens q)) (minus (Tokens s)) (state q has') asked.0)
    name has
  where
    state : (q : ℕ) → Contains (states_with lts t) q → q < states lts
    state q has' = let (_, _, lt) = where_is (λ q. has_label_at q t lts.arcs) 0 (states lts) q has' in omega arith
problem_name_within lts class (States s s') number name asked has =
    ⊎_elim (λ is. subst (Within lts class (States s s') number) is (apart_within (states lts) s s' (order_of lts class number) asked.0 asked.1))
    (λ there. absurd (nothing name there)) (Contains-cons_cases row_name.Apart name [] has)

one_name_within : (lts : System) (class : Class) (problem : Problem) (number : ℕ) (name : RowName) → IsSeparationProblem lts problem
    → Contains (names_of lts class problem number) name → Within lts class problem number name
one_name_within lts class problem number name asked has =
    each_name lts class problem number (Within lts class problem number)
    (λ n h. problem_name_within lts class problem number n asked h)
    (λ _ q lt. tokens problem q lt) (λ _ q lt. cap problem q lt) (λ _ u _ _. up problem u) (λ _ u _ _. down problem u) (λ _ u _ _ _. makes problem u)
    name has
  where
    tokens : (p : Problem) (q : ℕ) → q < states lts → Within lts class p number (row_name.Tokens q)
    tokens (Event s t) q lt = one (states lts) (plus (Tokens q)) lt
    tokens (States s s') q lt = one (states lts) (plus (Tokens q)) lt

    cap : (p : Problem) (q : ℕ) → q < states lts → Within lts class p number (row_name.Cap q)
    cap (Event s t) q lt = one (states lts) (minus (Tokens q)) lt
    cap (States s s') q lt = one (states lts) (minus (Tokens q)) lt

    up : (p : Problem) (u : ℕ) → Within lts class p number (row_name.Up u)
    up (Event s t) u = one (states lts) (minus (Effect u)) tt
    up (States s s') u = one (states lts) (minus (Effect u)) tt

    down : (p : Problem) (u : ℕ) → Within lts class p number (row_name.Down u)
    down (Event s t) u = one (states lts) (plus (Effect u)) tt
    down (States s s') u = one (states lts) (plus (Effect u)) tt

    makes : (p : Problem) (u : ℕ) → Within lts class p number (row_name.Makes u)
    makes (Event s t) u = one (states lts) (plus (Effect u)) tt
    makes (States s s') u = one (states lts) (plus (Effect u)) tt

pub names_within : (s : CaseSetting) → IsSeparationProblem s.lts s.problem → AreNamesWithin s (names_of s.lts s.class s.problem s.number)
names_within s asked = λ k d lt.
    one_name_within s.lts s.class s.problem s.number (slice_index_or (names_of s.lts s.class s.problem s.number) k d) asked (Contains-get_or (names_of s.lts s.class s.problem s.number) k d lt)

pub own_within : (s : CaseSetting) → IsSeparationProblem s.lts s.problem → AreNamesWithin s (problem_rows s.lts s.class s.problem)
own_within s asked = λ k d lt.
    problem_name_within s.lts s.class s.problem s.number (slice_index_or (problem_rows s.lts s.class s.problem) k d) asked (Contains-get_or (problem_rows s.lts s.class s.problem) k d lt)

-- what the code writes of a row names states of the system
pub name_within : (s : CaseSetting) (names : List RowName) (i : ℕ) (d : RowName) (terms : List SumTerm) (n : ℕ) → AreNamesWithin s names → i < length names
    → terms ≡ (row_expression s.lts s.class s.problem s.number [] (slice_index_or names i d)).terms → n ≡ states s.lts → All (TermNamesStateBelow n) terms
name_within s names i d terms n within lt is same =
    subst (λ l. All (TermNamesStateBelow n) l) (sym is)
    (subst (λ k. All (TermNamesStateBelow k) (row_expression s.lts s.class s.problem s.number [] (slice_index_or names i d)).terms) (sym same)
    (within i d lt))
