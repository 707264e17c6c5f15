use Rattle.std.proofs.Common.{◌≡◌, ℕ, Result, Some, length}
use Rattle.std.specs.Prelude.{slice_get}
use Rattle.rg_integers.specs.declared.term.Wide.{Wide}
use Rattle.rg_rows.specs.declared.case_row.CaseRow.{CaseRow}
use Rattle.rg_rows.specs.Sharing.{row_of_kind, IsSharedRow}
use Rattle.rg_rows.proofs.common.rows.Given as goal
use Rattle.rg_case_parts.specs.SettingViews.{shown_setting}

abbrev pub invariant-loop-number : goal.invariant-loop-number
invariant-loop-number l = record {
  many : length l.rows.items ≡ l.number;
  each : (i : ℕ) (written : Result CaseRow Wide) → slice_get l.rows.items i ≡ Some written → IsSharedRow (shown_setting l.setting) (row_of_kind l.kind i) written;
}
