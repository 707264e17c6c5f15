-- The rows and forms that all problems share, in a case of each of them.
use Rattle.std.proofs.Common.{◌≡◌, ℕ, zero, suc, ◌<◌, is_some, Bool, true, false, if◌then◌else◌, Bor, Option, Some, None, List, [], ◌∷◌, ◌++◌, map, length, All, Result, Ok, Err, ap, refl, subst, sym, ◌∙◌, arith}
use Rattle.std.specs.Prelude.{slice_get, slice_index_or, IfOk, IfSome}
use Rattle.std.specs.Slice.{IsGetResult}
use Rattle.std.proofs.lemmas.List.{get_or-map}
use Rattle.rg_theory.specs.declared.Class.{Class}
use Rattle.rg_theory.specs.declared.Problem.{Problem}
use Rattle.rg_theory.specs.declared.Problem.TheVariants.{Event, States}
use Rattle.rg_theory.specs.System.{System, states}
use Rattle.rg_integers.specs.declared.term.Wide.{Wide}
use Rattle.rg_fraction.specs.declared.fold_stop.FoldStop.{FoldStop}
use Rattle.rg_cert_meaning.specs.Expression.{Expression, plus, minus}
use Rattle.rg_cert_meaning.specs.Row.{row_expression, shared_expression}
use Rattle.rg_cert_meaning.specs.declared.RowName.{RowName}
use Rattle.rg_case_folds.specs.Setting.{Setting, CaseSetting}
use Rattle.rg_folds.specs.Fold.{Comes, shown_result}
use Rattle.rg_case_folds.specs.Rewriting.{has_start, column_count, terms_fold, row_fold}
use Rattle.rg_case_parts.specs.StatesNamed.{TermNamesStateBelow}
use Rattle.rg_rows.specs.declared.case_row.CaseRow.{CaseRow}
use Rattle.rg_rows.specs.declared.form_terms.FormTerms.{FormTerms}
use Rattle.rg_rows.specs.declared.held_row.HeldRow.{HeldRow}
use Rattle.rg_rows.specs.declared.kind.Kind.{Kind}
use Rattle.rg_rows.specs.declared.kind.Kind.TheVariants as kind
use Rattle.rg_rows.specs.View.{kept_row, row_in, terms_of}
use Rattle.rg_rows.specs.Sharing.{or_wide, row_of_kind, rows_of_kind, IsSharedRow, AreSharedTerms, AreRowsOfKind, AreTermsOfKind, IsCommonOf, IsRowInCase, AreTermsInCase}
use Rattle.rg_cert_data.proofs.Places.{get_is}
use Rattle.rg_rows.specs.declared.common.Common.{Common}
use Rattle.rg_rows.proofs.Terms.{one}
use Rattle.rg_cert_meaning.specs.declared.Variable.TheVariants.{Tokens}

-- ---- what the rows of a kind say

-- it is the same in each case of each problem
pub shared_in_case : (lts : System) (class : Class) (problem : Problem) (number : ℕ) (k : Kind) (i : ℕ)
    → row_expression lts class problem number [] (row_of_kind k i) ≡ shared_expression lts class [] (row_of_kind k i)
shared_in_case lts class (Event s t) number kind.Tokens i = refl
shared_in_case lts class (Event s t) number kind.Cap i = refl
shared_in_case lts class (Event s t) number kind.Up i = refl
shared_in_case lts class (Event s t) number kind.Down i = refl
shared_in_case lts class (Event s t) number kind.Makes i = refl
shared_in_case lts class (States s s') number kind.Tokens i = refl
shared_in_case lts class (States s s') number kind.Cap i = refl
shared_in_case lts class (States s s') number kind.Up i = refl
shared_in_case lts class (States s s') number kind.Down i = refl
shared_in_case lts class (States s s') number kind.Makes i = refl

-- its terms name states of the system
below_if : (b : Bool) (n m : ℕ) → m < (if b then n else 0) → m < n
below_if true n m lt = lt
below_if false n m lt = absurd (omega arith)

abbrev Within : System → Class → Kind → ℕ → Type 0
Within lts class k i = All (TermNamesStateBelow (states lts)) (shared_expression lts class [] (row_of_kind k i)).terms

pub row_within : (lts : System) (class : Class) (k : Kind) (i : ℕ) → i < rows_of_kind lts class k → Within lts class k i
row_within lts class kind.Tokens i lt = one (states lts) (plus (Tokens i)) (below_if (has_start class) (states lts) i lt)
row_within lts class kind.Cap i lt = one (states lts) (minus (Tokens i)) (below_if (is_some class.bound) (states lts) i lt)
row_within lts class kind.Up i lt = one (states lts) _ tt
row_within lts class kind.Down i lt = one (states lts) _ tt
row_within lts class kind.Makes i lt = one (states lts) _ tt

-- ---- written once

module _ (it : Setting) (name : RowName) (e : Expression) (is : e ≡ shared_expression it.lts it.class [] name) where
  pub row_shared : (result : Result CaseRow FoldStop) (w : Result CaseRow Wide) → result ≡ or_wide w → Comes (row_fold it name e) kept_row result
      → IfOk result (λ r. length r.coeffs.items ≡ column_count it.lts it.basis it.class) → IsSharedRow it name w
  row_shared result (Ok r) so comes one_each = (
    subst (λ x. row_fold it name x (Ok (kept_row r))) is (subst (Comes (row_fold it name e) kept_row) so comes),
    subst (λ y. IfOk y (λ r. length r.coeffs.items ≡ column_count it.lts it.basis it.class)) so one_each,
  )
  row_shared result (Err x) so comes one_each = (subst (λ y. row_fold it name y (Err x)) is (subst (Comes (row_fold it name e) kept_row) so comes), tt)

  pub terms_shared : (result : Result FormTerms FoldStop) (w : Result FormTerms Wide) → result ≡ or_wide w → Comes (terms_fold it e.terms) terms_of result
      → IfOk result (λ s. length s.coeffs.items ≡ column_count it.lts it.basis it.class) → AreSharedTerms it name w
  terms_shared result (Ok s) so comes one_each = (
    subst (λ (x : Expression). terms_fold it x.terms (Ok (terms_of s))) is (subst (Comes (terms_fold it e.terms) terms_of) so comes),
    subst (λ y. IfOk y (λ s. length s.coeffs.items ≡ column_count it.lts it.basis it.class)) so one_each,
  )
  terms_shared result (Err x) so comes one_each = (subst (λ (y : Expression). terms_fold it y.terms (Err x)) is (subst (Comes (terms_fold it e.terms) terms_of) so comes), tt)

-- what holds of each item and its index holds with one item more
pub each_pushed : {T : Type 0} (P : ℕ → T → Type 0) (xs : List T) (x : T) → ((i : ℕ) (y : T) → slice_get xs i ≡ Some y → P i y) → P (length xs) x
    → (i : ℕ) (y : T) → slice_get (xs ++ x ∷ []) i ≡ Some y → P i y
each_pushed {T} P [] x each here zero y e = subst (P 0) (only e) here
  where
    only : Some x ≡ Some y → x ≡ y
    only e = cc
each_pushed P [] x each here (suc i) y e = cc
each_pushed P (z ∷ xs) x each here zero y e = each zero y e
each_pushed P (z ∷ xs) x each here (suc i) y e = each_pushed (λ j. P (suc j)) xs x (λ j v at. each (suc j) v at) here i y e

-- ---- in a case

module _ (s : CaseSetting) (k : Kind) (i : ℕ) where
  pub row_in_case_is : (rows : List (Result CaseRow Wide)) (written : Result CaseRow Wide) → AreRowsOfKind s.setting k rows → slice_get rows i ≡ Some written → IsRowInCase s (row_of_kind k i) written
  row_in_case_is rows written are at = (
    subst (λ e. row_fold s.setting (row_of_kind k i) e (shown_result kept_row written))
        (sym (shared_in_case s.lts s.class s.problem s.number k i)) (are.each i written at).0,
    (are.each i written at).1,
  )

  pub terms_in_case_are : (terms : List (Result FormTerms Wide)) (written : Result FormTerms Wide)
      → AreTermsOfKind s.setting k terms → slice_get terms i ≡ Some written → AreTermsInCase s (row_of_kind k i) written
  terms_in_case_are terms written are at = (
    subst (λ (e : Expression). terms_fold s.setting e.terms (shown_result terms_of written))
        (sym (shared_in_case s.lts s.class s.problem s.number k i)) (are.each i written at).0,
    (are.each i written at).1,
  )

-- what is found in a table
module _ (common : Common) (k : Kind) (i : ℕ) where
  pub row_found : (rows : List (Result CaseRow Wide))
      → ((s : Setting) → IsCommonOf s common → AreRowsOfKind s k rows)
      → (found : Option (Bor (Result CaseRow Wide))) → IsGetResult rows i i found
      → IfSome found (λ r. (s : CaseSetting) → IsCommonOf s.setting common → IsRowInCase s (row_of_kind k i) r.now)
  row_found rows are None told = tt
  row_found rows are (Some r) told = λ s is. row_in_case_is s k i rows r.now (are s.setting is) (sym (get_is rows i (Some r) told))

  pub terms_found : (terms : List (Result FormTerms Wide))
      → ((s : Setting) → IsCommonOf s common → AreTermsOfKind s k terms)
      → (found : Option (Bor (Result FormTerms Wide))) → IsGetResult terms i i found
      → IfSome found (λ r. (s : CaseSetting) → IsCommonOf s.setting common → AreTermsInCase s (row_of_kind k i) r.now)
  terms_found terms are None told = tt
  terms_found terms are (Some r) told = λ s is. terms_in_case_are s k i terms r.now (are s.setting is) (sym (get_is terms i (Some r) told))

-- ---- the rows that a case holds

pub held_is : (all : List HeldRow) (i : ℕ) (held : HeldRow) (row : CaseRow) → i < length all → held ≡ slice_index_or all i held → row ≡ row_in held → row ≡ slice_index_or (map row_in all) i row
held_is all i held row lt at is = is ∙ ap row_in at ∙ sym (get_or-map row_in all i held row lt)
