-- The rows and forms that all problems of a system and a class share.
use Rattle.std.specs.Prelude.{◌≡◌, ℕ, ◌&&◌, not, is_some, if◌then◌else◌, List, [], ◌++◌, map, length, All, Option, None, Some, slice_get, Result, Ok, Err, IfOk, IfSome, Bool, IsTrue, IsFalse, ◌==◌}
use Rattle.std.specs.List.{list_any}
use Rattle.rg_theory.specs.declared.Class.{Class}
use Rattle.rg_theory.specs.declared.Problem.{Problem}
use Rattle.rg_theory.specs.declared.Problem.TheVariants as problem_of
use Rattle.rg_theory.specs.System.{System, states, labels}
use Rattle.rg_integers.specs.declared.term.Wide.{Wide}
use Rattle.rg_linear.specs.Firsts.{KeepsEqualRows}
use Rattle.rg_linear.specs.System.{LinearRow}
use Rattle.rg_fraction.specs.declared.fold_stop.FoldStop.{FoldStop}
use Rattle.rg_fraction.specs.declared.fold_stop.FoldStop.TheVariants as stop
use Rattle.rg_cert_meaning.specs.Row.{shared_expression, row_expression}
use Rattle.rg_cert_meaning.specs.declared.RowName.{RowName}
use Rattle.rg_cert_meaning.specs.declared.Form.{Form as SplitForm}
use Rattle.rg_case_folds.specs.Setting.{Setting, CaseSetting, case_at}
use Rattle.rg_folds.specs.Fold.{shown_result, each}
use Rattle.rg_case_folds.specs.Rewriting.{has_start, all_numbers, used_labels, column_count, terms_fold, row_fold, form_fold, KeptRow, IsIdle}
use Rattle.rg_case_parts.specs.ColumnViews.{AreColumns}
use Rattle.rg_rows.specs.declared.case_row.CaseRow.{CaseRow}
use Rattle.rg_rows.specs.declared.form_terms.FormTerms.{FormTerms}
use Rattle.rg_rows.specs.declared.kind.Kind.{Kind}
use Rattle.rg_rows.specs.declared.kind.Kind.TheVariants as kind
use Rattle.rg_rows.specs.declared.common.Common.{Common}
use Rattle.rg_rows.specs.declared.named_form.NamedForm.{NamedForm}
use Rattle.rg_rows.specs.declared.shared_rows.SharedRows.{SharedRows}
use Rattle.rg_rows.specs.View.{numbers_of, kept_row, terms_of, columns_in, fold_of, ShowsRows, AreIndices}
use Rattle.rg_rows.specs.Hashing.{numbers_hash}
use Rattle.rg_rows.specs.Forms.{linear_form, split_of, case_forms}
use Rattle.rg_rows.specs.Making.{IsMade}
use Rattle.rg_cert_meaning.specs.declared.RowName.TheVariants as row_name

-- a value, or a step out of range as the reason for none
abbrev pub or_wide : {T : Type 0} → Result T Wide → Result T FoldStop
or_wide (Ok value) = Ok value
or_wide (Err w) = Err (stop.Wide w)

-- ---- the kinds of rows that speak of no problem

-- the row of a state or a label
abbrev pub row_of_kind : Kind → ℕ → RowName
row_of_kind kind.Tokens q = row_name.Tokens q
row_of_kind kind.Cap q = row_name.Cap q
row_of_kind kind.Up t = row_name.Up t
row_of_kind kind.Down t = row_name.Down t
row_of_kind kind.Makes t = row_name.Makes t

-- how many a class has, where each label has an arc
abbrev pub rows_of_kind : System → Class → Kind → ℕ
rows_of_kind lts class kind.Tokens = if has_start class then states lts else 0
rows_of_kind lts class kind.Cap = if is_some class.bound then states lts else 0
rows_of_kind lts class kind.Up = if class.plain then labels lts else 0
rows_of_kind lts class kind.Down = if class.plain then labels lts else 0
rows_of_kind lts class kind.Makes = if class.nonbranching then labels lts else 0

-- how many of them have the terms of a form
abbrev pub forms_of_kind : System → Class → Kind → ℕ
forms_of_kind lts class kind.Tokens = if is_some class.bound then states lts else 0
forms_of_kind lts class kind.Cap = 0
forms_of_kind lts class kind.Up = 0
forms_of_kind lts class kind.Down = if class.plain && not (is_some class.bound) then labels lts else 0
forms_of_kind lts class kind.Makes = 0

-- ---- written over the columns

-- the row, or the first step of its fold out of range
abbrev pub IsSharedRow : Setting → RowName → Result CaseRow Wide → Type 0
IsSharedRow s name written =
    row_fold s name (shared_expression s.lts s.class [] name) (shown_result kept_row written)
    × IfOk written (λ r. length r.coeffs.items ≡ column_count s.lts s.basis s.class)

-- the terms of the row without denominators, or the first step of theirs
abbrev pub AreSharedTerms : Setting → RowName → Result FormTerms Wide → Type 0
AreSharedTerms s name written =
    terms_fold s (shared_expression s.lts s.class [] name).terms (shown_result terms_of written)
    × IfOk written (λ t. length t.coeffs.items ≡ column_count s.lts s.basis s.class)

-- one for each state or label, in order
pub record AreRowsOfKind (s : Setting) (kind : Kind) (rows : List (Result CaseRow Wide)) : Type 0 where
  pub many : length rows ≡ rows_of_kind s.lts s.class kind
  pub each : (i : ℕ) (written : Result CaseRow Wide) → slice_get rows i ≡ Some written → IsSharedRow s (row_of_kind kind i) written

pub record AreTermsOfKind (s : Setting) (kind : Kind) (terms : List (Result FormTerms Wide)) : Type 0 where
  pub many : length terms ≡ forms_of_kind s.lts s.class kind
  pub each : (i : ℕ) (written : Result FormTerms Wide) → slice_get terms i ≡ Some written → AreSharedTerms s (row_of_kind kind i) written

-- ---- rows that differ from others by their hashes

-- the hash of the row's numbers
abbrev pub row_hash : LinearRow → ℕ
row_hash row = numbers_hash (numbers_of row)

-- whether the hash of the row is among these
abbrev pub has_hash : List ℕ → LinearRow → Bool
has_hash hashes row = list_any (λ h. row_hash row == h) hashes

-- the row is idle, or its hash isn't among these
abbrev pub IsApart : List ℕ → KeptRow → Type 0
IsApart hashes kept = ¬ IsIdle kept → IsFalse (has_hash hashes kept.row)

-- ---- the rows that all cases share

-- the rows that each case of the class has after its own, but `makes`
abbrev pub shared_names : System → Class → List RowName
shared_names lts class =
    (if has_start class then map row_name.Tokens (all_numbers (states lts)) else [])
    ++ (if is_some class.bound then map row_name.Cap (all_numbers (states lts)) else [])
    ++ (if class.plain then (map row_name.Up (used_labels lts) ++ map row_name.Down (used_labels lts)) else [])

-- their forms, and after them the start, where event problems split on it
abbrev pub class_forms : System → Class → List SplitForm
class_forms lts class = case_forms class (problem_of.Event 0 0) (shared_names lts class)

-- what is kept of these rows, which are in range, and their forms, where no row comes after them
pub record AreSharedRows (s : Setting) (shared : SharedRows) : Type 0 where
  pub alone : IsFalse s.class.nonbranching
  pub all : List CaseRow
  pub made : (problem : Problem) (number : ℕ) → each (fold_of (case_at s problem number)) (shared_names s.lts s.class) (Ok (map kept_row all))
  pub one_each : All (λ r. length r.coeffs.items ≡ columns_in s) all
  pub kept : List KeptRow
  pub shows : ShowsRows (record { rows = shared.rows.rows; names = shared.names; factors = shared.factors }) kept
  pub firsts : KeepsEqualRows (λ k. k.row) IsIdle [] (map kept_row all) kept
  pub hashed : All (λ k. IsTrue (has_hash shared.hashes.keys k.row)) (map kept_row all)
  pub indices : List ℕ
  pub are_indices : AreIndices (map kept_row all) kept indices
  pub forms_made : each (form_fold s) (class_forms s.lts s.class) (Ok (map linear_form shared.forms.items))
  pub splits : map split_of shared.forms.items ≡ class_forms s.lts s.class
  pub are_made : All (IsMade s.lts s.class (columns_in s) (map kept_row all) indices) shared.forms.items

abbrev pub forms_of_shared : Option SharedRows → List NamedForm
forms_of_shared None = []
forms_of_shared (Some shared) = shared.forms.items

-- the rows and forms that all problems of the system and the class share, over the tree and the basis
pub record IsCommonOf (s : Setting) (common : Common) : Type 0 where
  pub columns : AreColumns s.lts s.class common.columns
  pub tokens : AreRowsOfKind s kind.Tokens common.tokens.items
  pub caps : AreRowsOfKind s kind.Cap common.caps.items
  pub ups : AreRowsOfKind s kind.Up common.ups.items
  pub downs : AreRowsOfKind s kind.Down common.downs.items
  pub makes : AreRowsOfKind s kind.Makes common.makes.items
  pub token_terms : AreTermsOfKind s kind.Tokens common.token_terms.items
  pub effect_terms : AreTermsOfKind s kind.Down common.effect_terms.items
  pub shared : IfSome common.shared (AreSharedRows s)

-- ---- in a case

-- the named row of the case, or the first step of its fold out of range
abbrev pub IsRowInCase : CaseSetting → RowName → Result CaseRow Wide → Type 0
IsRowInCase s name written =
    fold_of s name (shown_result kept_row written)
    × IfOk written (λ r. length r.coeffs.items ≡ column_count s.lts s.basis s.class)

-- its terms without denominators, or the first step of theirs
abbrev pub AreTermsInCase : CaseSetting → RowName → Result FormTerms Wide → Type 0
AreTermsInCase s name written =
    terms_fold s.setting (row_expression s.lts s.class s.problem s.number [] name).terms (shown_result terms_of written)
    × IfOk written (λ t. length t.coeffs.items ≡ column_count s.lts s.basis s.class)

-- the forms of the rows that all cases share, where there are such
abbrev pub shared_forms : Common → List NamedForm
shared_forms common = forms_of_shared common.shared
