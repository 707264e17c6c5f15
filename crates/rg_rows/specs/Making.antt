-- A form that is made of a row's terms.
use Rattle.std.specs.Prelude.{◌≡◌, ℕ, List, length, All, Some, slice_get, slice_index_or, pos, ◌<ℤ◌}
use Rattle.rg_theory.specs.declared.Class.{Class}
use Rattle.rg_theory.specs.System.{System}
use Rattle.rg_theory.specs.ClassWords.{HasNumbersInRange}
use Rattle.rg_integers.specs.Range.{InRange}
use Rattle.rg_case_folds.specs.Rewriting.{KeptRow, form_low, form_high}
use Rattle.rg_case_folds.specs.FormRows.{form_row}
use Rattle.rg_rows.specs.declared.named_form.NamedForm.{NamedForm}
use Rattle.rg_rows.specs.Forms.{split_of, IsPartOf}

-- it has the terms of one of the rows, and names the index of that row; its numbers are in range
pub record IsMade (lts : System) (class : Class) (columns : ℕ) (all : List KeptRow) (indices : List ℕ) (f : NamedForm) : Type 0 where
  pub number : ℕ
  pub row : KeptRow
  pub at : slice_get all number ≡ Some row
  pub named : row.name ≡ form_row lts.initial (split_of f)
  pub part : IsPartOf f row.row.coeffs (slice_index_or indices number 0)
  pub bounds : (f.low ≡ form_low (split_of f)) × (f.high ≡ form_high lts class (split_of f))
  pub one_each : length f.coeffs.items ≡ columns
  pub positive : HasNumbersInRange class → pos 0 <ℤ f.scale
  pub scale_in_range : InRange f.scale
  pub coeffs_in_range : All InRange f.coeffs.items
  pub times_in_range : InRange f.times
