-- What a system with names and factors shows.
use Rattle.std.specs.Prelude.{◌≡◌, false, map, All, Ok}
use Rattle.rg_theory.specs.System.{IsAllReachable}
use Rattle.rg_theory.specs.ClassWords.{HasNumbersInRange}
use Rattle.rg_case_folds.specs.Chords.{IsBasis}
use Rattle.rg_case_folds.specs.Setting.{CaseSetting}
use Rattle.rg_folds.specs.Fold.{ratio_of}
use Rattle.rg_case_folds.specs.Rewriting.{CaseSystem, rows_of, split_forms, system_fold}
use Rattle.rg_rows.specs.Forms.{linear_form, split_of, forms_after, StandsInRow, AreFormsOf}
use Rattle.rg_rows.specs.Shared.{NamedRows}
use Rattle.rg_rows.specs.declared.named_system.NamedSystem.{NamedSystem}

-- a system with names and forms of its own
abbrev pub rows_of_system : NamedSystem → NamedRows
rows_of_system named = record {
  system = named.system;
  names = named.names.items;
  factors = named.factors.items;
  forms = named.forms.items;
  before = 0;
  joined = false;
}

-- its columns and rows, their names and their factors, and its forms are those of the case
pub record ShowsCase (named : NamedRows) (shown : CaseSystem) : Type 0 where
  pub system : named.system ≡ rows_of shown
  pub names : named.names ≡ map (λ k. k.name) shown.kept
  pub factors : map ratio_of named.factors ≡ map (λ k. k.factor) shown.kept
  pub forms : map linear_form named.forms ≡ shown.forms

-- the system of the case, with its forms and their rows
pub record IsSystemOf (s : CaseSetting) (named : NamedRows) : Type 0 where
  pub system : (shown : CaseSystem) × system_fold s (Ok shown) × ShowsCase named shown
  pub forms : map split_of named.forms ≡ split_forms s.lts s.class s.problem
  pub rows : All (StandsInRow s named.system) (forms_after named.before named.forms)
  pub bounded : IsAllReachable s.lts → IsBasis s.lts s.tree s.basis → HasNumbersInRange s.class → AreFormsOf named.system (forms_after named.before named.forms)
