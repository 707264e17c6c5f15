-- The row of a case that a form is a multiple of.
use Rattle.std.specs.Prelude.{◌≡◌, ◌≢◌, ℕ, ◌<◌, length, ℤ, pos, ◌*ℤ◌, ◌≤ℤ◌}
use Rattle.rg_integers.specs.Sum.{number_at}
use Rattle.rg_linear.specs.System.{LinearSystem, entry}
use Rattle.rg_linear.specs.Branching.{Form}
use Rattle.rg_cert_meaning.specs.declared.RowName.{RowName}
use Rattle.rg_cert_meaning.specs.declared.Form.{Form as SplitForm}
use Rattle.rg_cert_meaning.specs.declared.RowName.TheVariants as row_name
use Rattle.rg_cert_meaning.specs.declared.Form.TheVariants as split_form

-- the named row with the terms of the form, where this is the initial state
abbrev pub form_row : ℕ → SplitForm → RowName
form_row initial (split_form.Tokens q) = row_name.Tokens q
form_row initial (split_form.Effect t) = row_name.Down t
form_row initial split_form.Start = row_name.Tokens initial

-- the coefficients of the form are those of the row, so many times; a form without coefficients is no time any row
pub record IsMultipleOfRow (system : LinearSystem) (form : Form) (row : ℕ) (times : ℤ) : Type 0 where
  pub within : times ≢ pos 0 → row < length system.rows
  pub not_negative : pos 0 ≤ℤ times
  pub multiple : (j : ℕ) → j < system.columns → number_at form.coeffs j ≡ times *ℤ entry system row j
