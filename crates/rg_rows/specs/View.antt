-- How what the code keeps is seen.
use Rattle.std.specs.Prelude.{◌≡◌, ℕ, ◌==◌, ◌&&◌, not, Bool, false, List, [], ◌∷◌, ◌++◌, ℤ, length, map, All, Some, Result, Ok, slice_get, slice_index_or}
use Rattle.rg_theory.specs.System.{states}
use Rattle.rg_linear.specs.System.{LinearRow}
use Rattle.rg_integers.specs.declared.term.Wide.{Wide}
use Rattle.rg_cert_meaning.specs.Row.{row_expression}
use Rattle.rg_cert_meaning.specs.declared.RowName.{RowName}
use Rattle.rg_case_folds.specs.Setting.{Setting, CaseSetting}
use Rattle.rg_folds.specs.Fold.{ratio_of, each}
use Rattle.rg_folds.specs.Substitution.{numbers_where}
use Rattle.rg_case_folds.specs.Rewriting.{Scaled, KeptRow, IsIdle, column_count, row_fold, problem_rows}
use Rattle.rg_case_parts.specs.StatesNamed.{TermNamesStateBelow}
use Rattle.rg_linear.specs.View.{linear_row}
use Rattle.rg_rows.specs.declared.case_row.CaseRow.{CaseRow}
use Rattle.rg_rows.specs.declared.form_terms.FormTerms.{FormTerms}
use Rattle.rg_rows.specs.declared.held_row.HeldRow.{HeldRow}
use Rattle.rg_rows.specs.declared.held_row.HeldRow.TheVariants as held
use Rattle.rg_rows.specs.declared.kept.CaseRows.{CaseRows}

-- the labels with an arc
abbrev pub users : List Bool → List ℕ
users used = numbers_where (λ t. slice_index_or used t false) 0 (length used)

-- the labels with an arc, but this one
abbrev pub makers : List Bool → ℕ → List ℕ
makers used consumer = numbers_where (λ u. slice_index_or used u false && not (u == consumer)) 0 (length used)

-- the numbers of a row: its coefficients, then its constant
abbrev pub numbers_of : LinearRow → List ℤ
numbers_of row = row.coeffs ++ row.constant ∷ []

-- the terms of a form: their multiple and their numbers
abbrev pub terms_of : FormTerms → Scaled
terms_of t = record { multiple = t.multiple; numbers = t.coeffs.items }

-- a row with its name and its factor
abbrev pub kept_row : CaseRow → KeptRow
kept_row r = record { name = r.name; row = record { coeffs = r.coeffs.items; constant = r.constant }; factor = ratio_of r.factor }

-- the row that a case holds
abbrev pub row_in : HeldRow → CaseRow
row_in (held.Own r) = r
row_in (held.Common r) = r.now

-- the rows with their names and factors
pub record ShowsRows (r : CaseRows) (kept : List KeptRow) : Type 0 where
  pub rows : map linear_row r.rows.items ≡ map (λ k. k.row) kept
  pub names : r.names.items ≡ map (λ k. k.name) kept
  pub factors : map ratio_of r.factors.items ≡ map (λ k. k.factor) kept

-- each row that isn't left out is the kept row at its index
pub record AreIndices (all kept : List KeptRow) (indices : List ℕ) : Type 0 where
  pub one_each : length indices ≡ length all
  pub each : (i : ℕ) (r : KeptRow) → slice_get all i ≡ Some r → ¬ IsIdle r → slice_get (map (λ k. k.row) kept) (slice_index_or indices i 0) ≡ Some r.row

-- how many columns the system of a case has
abbrev pub columns_in : Setting → ℕ
columns_in s = column_count s.lts s.basis s.class

-- the row's terms name states of the system
abbrev pub IsNameWithin : CaseSetting → RowName → Type 0
IsNameWithin s name = All (TermNamesStateBelow (states s.lts)) (row_expression s.lts s.class s.problem s.number [] name).terms

abbrev pub AreNamesWithin : CaseSetting → List RowName → Type 0
AreNamesWithin s names = All (IsNameWithin s) names

-- the named row over the columns
abbrev pub fold_of : CaseSetting → RowName → Result KeptRow Wide → Type 0
fold_of s name = row_fold s.setting name (row_expression s.lts s.class s.problem s.number [] name)

-- the named rows over the columns, one for each name
pub record AreRowsOf (s : CaseSetting) (names : List RowName) (rows : List CaseRow) : Type 0 where
  pub made : each (fold_of s) names (Ok (map kept_row rows))
  pub one_each : All (λ r. length r.coeffs.items ≡ columns_in s.setting) rows
  pub many : length rows ≡ length names

-- the rows of the problem itself
abbrev pub AreOwnRows : CaseSetting → List CaseRow → Type 0
AreOwnRows s rows = AreRowsOf s (problem_rows s.lts s.class s.problem) rows
