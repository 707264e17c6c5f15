-- The forms of a case, and what a branching asks of them.
use Rattle.std.specs.Prelude.{◌≡◌, ◌≢◌, ◌⊎◌, ℕ, zero, suc, ◌+◌, ◌-◌, ◌^◌, ◌<◌, ◌&&◌, not, ◌++◌, is_some, if◌then◌else◌, List, [], ◌∷◌, map, length, All, Option, Some, None, Ok, slice_get, ℤ, pos, negsuc, ◌+ℤ◌, ◌-ℤ◌, ◌*ℤ◌, ◌≤ℤ◌, ◌<ℤ◌}
use Rattle.rg_theory.specs.declared.Class.{Class}
use Rattle.rg_theory.specs.declared.Problem.{Problem}
use Rattle.rg_theory.specs.declared.Problem.TheVariants as problem_of
use Rattle.rg_integers.specs.Range.{InRange}
use Rattle.rg_integers.specs.Sum.{sum_over}
use Rattle.rg_linear.specs.System.{LinearSystem}
use Rattle.rg_linear.specs.Branching.{Form, AreBounded}
use Rattle.rg_linear.specs.Cycle.{IsZeroVector}
use Rattle.rg_cert_meaning.specs.declared.RowName.{RowName}
use Rattle.rg_cert_meaning.specs.declared.Form.{Form as SplitForm}
use Rattle.rg_case_folds.specs.Setting.{CaseSetting}
use Rattle.rg_case_folds.specs.Rewriting.{splits_start, KeptRow}
use Rattle.rg_case_folds.specs.FormRows.{form_row, IsMultipleOfRow}
use Rattle.rg_rows.specs.declared.named_form.NamedForm.{NamedForm}
use Rattle.rg_rows.specs.View.{fold_of}
use Rattle.rg_cert_meaning.specs.declared.RowName.TheVariants as row_name
use Rattle.rg_cert_meaning.specs.declared.Form.TheVariants as split_form

-- the form over the columns
abbrev pub linear_form : NamedForm → Form
linear_form f = record { scale = f.scale; coeffs = f.coeffs.items; low = f.low; high = f.high }

-- what it is of
abbrev pub split_of : NamedForm → SplitForm
split_of f = f.form

-- the number of the form's row, where so many rows come before it; a form that is no row's keeps its number
abbrev pub row_after : ℕ → ℤ → ℕ → ℕ
row_after before (pos zero) row = row
row_after before (pos (suc n)) row = before + row
row_after before (negsuc n) row = before + row

-- the form, where so many rows come before its row
abbrev pub form_after : ℕ → NamedForm → NamedForm
form_after before f = record f { row = row_after before f.times f.row }

abbrev pub forms_after : ℕ → List NamedForm → List NamedForm
forms_after before forms = map (form_after before) forms

-- ---- the forms in the order of the named rows

-- the form of the class that has the terms of the row
abbrev pub form_in : Class → RowName → Option SplitForm
form_in class (row_name.Tokens q) = if is_some class.bound then Some (split_form.Tokens q) else None
form_in class (row_name.Down t) = if class.plain && not (is_some class.bound) then Some (split_form.Effect t) else None
form_in class name = None

abbrev pub put_form : Option SplitForm → List SplitForm → List SplitForm
put_form None forms = forms
put_form (Some form) forms = form ∷ forms

abbrev pub forms_in : Class → List RowName → List SplitForm
forms_in class [] = []
forms_in class (name ∷ names) = put_form (form_in class name) (forms_in class names)

-- and after them the start, where the case splits on it
abbrev pub case_forms : Class → Problem → List RowName → List SplitForm
case_forms class problem names = forms_in class names ++ (if splits_start class problem then (split_form.Start ∷ []) else [])

-- how many of so many forms of the class a case of the problem has: all but the start, the last one, where events split on it and the case doesn't
abbrev pub form_count : Class → Problem → ℕ → ℕ
form_count class problem all = if splits_start class (problem_of.Event 0 0) && not (splits_start class problem) then all - 1 else all

-- ---- the row of a form

-- the form is the row times a positive number, and is not 0, or it is 0 and names no row
abbrev pub IsPartOf : NamedForm → List ℤ → ℕ → Type 0
IsPartOf f coeffs index =
    ((pos 0 <ℤ f.times) × (f.coeffs.items ≡ map (λ z. f.times *ℤ z) coeffs) × (f.row ≡ index) × ¬ IsZeroVector f.coeffs.items)
    ⊎ ((f.times ≡ pos 0) × (f.row ≡ 0) × IsZeroVector f.coeffs.items)

-- the row of the form is the one that stayed for `tokens` of its state, the initial one for the start, or `down` of its label; a form without coefficients
-- has times 0 and row 0
abbrev pub StandsInRow : CaseSetting → LinearSystem → NamedForm → Type 0
StandsInRow s system f =
    (k : KeptRow) → fold_of s (form_row s.lts.initial (split_of f)) (Ok k)
    → ((f.times ≢ pos 0) × (slice_get system.rows f.row ≡ Some k.row)) ⊎ ((f.times ≡ pos 0) × (f.row ≡ 0) × IsZeroVector f.coeffs.items)

-- ---- what a branching asks

-- one coefficient a column, a multiple of those of a row; the scale is positive, and the numbers are in range
pub record IsFormOf (system : LinearSystem) (f : NamedForm) : Type 0 where
  pub one_each : length f.coeffs.items ≡ system.columns
  pub positive : pos 0 <ℤ f.scale
  pub scale_in_range : InRange f.scale
  pub coeffs_in_range : All InRange f.coeffs.items
  pub ordered : f.low ≤ℤ f.high
  pub low_in_range : InRange (f.scale *ℤ f.low)
  pub high_in_range : InRange (f.scale *ℤ f.high)
  pub times_in_range : InRange f.times
  pub over : IsMultipleOfRow system (linear_form f) f.row f.times

-- the rows bound each form; columns, rows and all steps between the bounds are fewer than 2^32
pub record AreFormsOf (system : LinearSystem) (forms : List NamedForm) : Type 0 where
  pub each : All (IsFormOf system) forms
  pub bounded : AreBounded system (map linear_form forms)
  pub few_forms : length forms < 2 ^ 32
  pub few : (pos (system.columns + length system.rows) +ℤ sum_over (λ f. f.high -ℤ f.low) forms) <ℤ pos (2 ^ 32)
