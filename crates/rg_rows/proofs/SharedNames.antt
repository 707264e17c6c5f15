-- The rows that all cases share are the same in each case.
use Rattle.std.proofs.Common.{◌≡◌, ⊎_elim, ℕ, ◌<◌, Bool, true, false, if◌then◌else◌, List, [], map, ◌++◌, Contains, Result, subst, sym, ◌∙◌, arith}
use Rattle.std.specs.Prelude.{is_some, slice_index_or}
use Rattle.std.proofs.lemmas.List.Elements.{Contains-get_or, Contains-append_cases}
use Rattle.rg_theory.specs.declared.Class.{Class}
use Rattle.rg_theory.specs.declared.Problem.{Problem}
use Rattle.rg_theory.specs.declared.Problem.TheVariants.{Event}
use Rattle.rg_theory.specs.System.{System, states}
use Rattle.rg_integers.specs.declared.term.Wide.{Wide}
use Rattle.rg_cert_meaning.specs.Expression.{Expression, plus, minus}
use Rattle.rg_cert_meaning.specs.Row.{row_expression, shared_expression}
use Rattle.rg_cert_meaning.specs.declared.RowName.{RowName}
use Rattle.rg_case_folds.specs.Setting.{Setting, case_at}
use Rattle.rg_folds.specs.Fold.{each}
use Rattle.rg_case_folds.specs.Rewriting.{KeptRow, has_start, all_numbers, used_labels, row_fold}
use Rattle.rg_case_folds.proofs.Lists.{where_is}
use Rattle.rg_rows.specs.declared.kind.Kind.TheVariants as kind
use Rattle.rg_rows.specs.View.{AreNamesWithin, IsNameWithin, fold_of}
use Rattle.rg_rows.specs.Sharing.{shared_names}
use Rattle.rg_rows.proofs.Counted.{each_same}
use Rattle.rg_rows.proofs.Forming.{from_map}
use Rattle.rg_rows.proofs.Sharing.{shared_in_case}
use Rattle.rg_rows.proofs.Terms.{one}
use Rattle.rg_cert_meaning.specs.declared.RowName.TheVariants as row_name
use Rattle.rg_cert_meaning.specs.declared.Variable.TheVariants.{Tokens, Effect}

each_if : (b : Bool) (names : List RowName) (P : RowName → Type 0) → ((name : RowName) → Contains names name → P name) → (name : RowName) → Contains (if b then names else []) name → P name
each_if true names P all name has = all name has
each_if false names P all name (i, lt, e) = absurd (omega arith)

each_mapped : (row : ℕ → RowName) (xs : List ℕ) (P : RowName → Type 0) → ((x : ℕ) → Contains xs x → P (row x)) → (name : RowName) → Contains (map row xs) name → P name
each_mapped row xs P all name has = let (x, there, is) = from_map row xs name has in subst P is (all x there)

each_shared : (lts : System) (class : Class) (P : RowName → Type 0)
    → ((q : ℕ) → q < states lts → P (row_name.Tokens q)) → ((q : ℕ) → q < states lts → P (row_name.Cap q)) → ((u : ℕ) → P (row_name.Up u)) → ((u : ℕ) → P (row_name.Down u))
    → (name : RowName) → Contains (shared_names lts class) name → P name
each_shared lts class P tokens cap up down name has = ⊎_elim
    (λ front. ⊎_elim
    (λ there. each_if (has_start class) (map row_name.Tokens (all_numbers (states lts))) P
    (each_mapped row_name.Tokens (all_numbers (states lts)) P (λ q in_all. tokens q (below q in_all))) name there)
    (λ there. each_if (is_some class.bound) (map row_name.Cap (all_numbers (states lts))) P
    (each_mapped row_name.Cap (all_numbers (states lts)) P (λ q in_all. cap q (below q in_all))) name there)
    (Contains-append_cases starts caps name front))
    (λ there. each_if class.plain (map row_name.Up (used_labels lts) ++ map row_name.Down (used_labels lts)) P sides name there)
    (Contains-append_cases (starts ++ caps) (if class.plain then (map row_name.Up (used_labels lts) ++ map row_name.Down (used_labels lts)) else []) name has)
  where
    starts : List RowName
    starts = if has_start class then map row_name.Tokens (all_numbers (states lts)) else []

    caps : List RowName
    caps = if is_some class.bound then map row_name.Cap (all_numbers (states lts)) else []

    below : (q : ℕ) → Contains (all_numbers (states lts)) q → q < states lts
    below q in_all = let (_, _, lt) = where_is (λ n. true) 0 (states lts) q in_all in omega arith

    sides : (n : RowName) → Contains (map row_name.Up (used_labels lts) ++ map row_name.Down (used_labels lts)) n → P n
    sides n there = ⊎_elim
        (λ h. each_mapped row_name.Up (used_labels lts) P (λ u _. up u) n h)
        (λ h. each_mapped row_name.Down (used_labels lts) P (λ u _. down u) n h)
        (Contains-append_cases (map row_name.Up (used_labels lts)) (map row_name.Down (used_labels lts)) n there)

-- they name states of the system
pub shared_within : (s : Setting) (n m : ℕ) → AreNamesWithin (case_at s (Event n m) 0) (shared_names s.lts s.class)
shared_within s n m = λ k d lt. each_shared s.lts s.class (IsNameWithin (case_at s (Event n m) 0))
    (λ q below. one (states s.lts) (plus (Tokens q)) below)
    (λ q below. one (states s.lts) (minus (Tokens q)) below)
    (λ u. one (states s.lts) (minus (Effect u)) tt)
    (λ u. one (states s.lts) (plus (Effect u)) tt)
    (slice_index_or (shared_names s.lts s.class) k d)
    (Contains-get_or (shared_names s.lts s.class) k d lt)

-- they say the same in each case
abbrev Speaks : Setting → RowName → Type 0
Speaks s name = (problem : Problem) (number : ℕ) → row_expression s.lts s.class problem number [] name ≡ shared_expression s.lts s.class [] name

speaks : (s : Setting) (name : RowName) → Contains (shared_names s.lts s.class) name → Speaks s name
speaks s name has = each_shared s.lts s.class (Speaks s)
    (λ q _ problem number. shared_in_case s.lts s.class problem number kind.Tokens q)
    (λ q _ problem number. shared_in_case s.lts s.class problem number kind.Cap q)
    (λ u problem number. shared_in_case s.lts s.class problem number kind.Up u)
    (λ u problem number. shared_in_case s.lts s.class problem number kind.Down u)
    name has

pub made_in_each : (s : Setting) (problem other : Problem) (number place : ℕ) (r : Result (List KeptRow) Wide)
    → each (fold_of (case_at s problem number)) (shared_names s.lts s.class) r → each (fold_of (case_at s other place)) (shared_names s.lts s.class) r
made_in_each s problem other number place r made = each_same (fold_of (case_at s problem number)) (fold_of (case_at s other place)) (shared_names s.lts s.class)
    (λ name has out h. subst (λ (e : Expression). row_fold s name e out) (speaks s name has problem number ∙ sym (speaks s name has other place)) h) r made
