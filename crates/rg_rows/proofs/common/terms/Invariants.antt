use Rattle.std.proofs.Common.{◌≡◌, ℕ, Result, Some, length}
use Rattle.std.specs.Prelude.{slice_get}
use Rattle.rg_integers.specs.declared.term.Wide.{Wide}
use Rattle.rg_case_parts.specs.SettingViews.{shown_setting}
use Rattle.rg_rows.specs.declared.form_terms.FormTerms.{FormTerms}
use Rattle.rg_rows.specs.Sharing.{row_of_kind, AreSharedTerms}
use Rattle.rg_rows.proofs.common.terms.Given as goal

abbrev pub invariant-loop-number : goal.invariant-loop-number
invariant-loop-number l = record {
  many : length l.terms.items ≡ l.number;
  each : (i : ℕ) (written : Result FormTerms Wide) → slice_get l.terms.items i ≡ Some written → AreSharedTerms (shown_setting l.setting) (row_of_kind l.kind i) written;
}
