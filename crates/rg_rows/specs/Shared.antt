-- The system of a case as the code has it: rows of its own, and those that all cases share.
use Rattle.std.specs.Prelude.{◌≡◌, ◌≤◌, ℕ, Bool, true, false, Option, None, Some, List, ◌++◌, length, take, IsTrue}
use Rattle.rg_fraction.specs.declared.fraction.Fraction.{Fraction}
use Rattle.rg_cert_meaning.specs.declared.RowName.{RowName}
use Rattle.rg_linear.specs.System.{LinearSystem}
use Rattle.rg_linear.specs.View.{linear_system, IsWellFormed}
use Rattle.rg_rows.specs.declared.kept.CaseRows.{CaseRows}
use Rattle.rg_rows.specs.declared.named_form.NamedForm.{NamedForm}
use Rattle.rg_rows.specs.declared.shared_part.SharedPart.{SharedPart}
use Rattle.rg_rows.specs.declared.shared_rows.SharedRows.{SharedRows}

-- the rows, the name and the factor of each, the forms, whose rows are counted after the first `before` ones, and whether all cases share the rows after
-- these and the forms
pub record NamedRows : Type 0 where
  pub system : LinearSystem
  pub names : List RowName
  pub factors : List Fraction
  pub forms : List NamedForm
  pub before : ℕ
  pub joined : Bool

-- over so many columns, with these rows of its own before those that all cases share, and so many of their forms
abbrev pub rows_before : ℕ → CaseRows → SharedRows → ℕ → NamedRows
rows_before columns own shared form_count = record {
  system = linear_system columns (own.rows.items ++ shared.rows.rows.items);
  names = own.names.items ++ shared.names.items;
  factors = own.factors.items ++ shared.factors.items;
  forms = take form_count shared.forms.items;
  before = length own.rows.items;
  joined = true;
}

-- with forms of its own, or before rows that all cases share
abbrev pub named_rows : ℕ → CaseRows → List NamedForm → Option SharedPart → NamedRows
named_rows columns own forms None = record {
  system = linear_system columns own.rows.items;
  names = own.names.items;
  factors = own.factors.items;
  forms = forms;
  before = 0;
  joined = false;
}
named_rows columns own forms (Some shared) = rows_before columns own shared.all.now shared.form_count

-- the system is well formed, and each of its rows has a name and a factor
pub record HasNames (named : NamedRows) : Type 0 where
  pub well_formed : IsWellFormed named.system
  pub names : length named.names ≡ length named.system.rows
  pub factors : length named.factors ≡ length named.system.rows

-- where all cases share the forms, they are the first of these
abbrev pub HasSharedForms : List NamedForm → NamedRows → Type 0
HasSharedForms shared named = IsTrue named.joined → (length named.forms ≤ length shared) × (named.forms ≡ take (length named.forms) shared)
