use Rattle.std.proofs.Common.{◌≡◌, ◌+◌, ℕ, Result, Some, List, [], ◌∷◌, length, ap, subst, sym, ◌∙◌}
use Rattle.std.specs.Prelude.{slice_get}
use Rattle.std.proofs.lemmas.List.{length-append}
use Rattle.rg_integers.specs.declared.term.Wide.{Wide}
use Rattle.rg_cert_meaning.specs.Row.{shared_expression}
use Rattle.rg_cert_data.specs.Sums.{expression_of}
use Rattle.rg_rows.specs.declared.case_row.CaseRow.{CaseRow}
use Rattle.rg_rows.specs.Sharing.{row_of_kind, IsSharedRow}
use Rattle.rg_rows.proofs.Sharing.{row_shared, each_pushed}
use Rattle.rg_rows.proofs.common.rows.Goals as goal
use Rattle.rg_case_parts.specs.SettingViews.{shown_setting}

pub loop-number-preserved : goal.loop-number-preserved
loop-number-preserved c =
    let s = shown_setting c.args.setting in
    let kind = c.args.kind in
    let rows = c.loop-number.rows.items in
    let name = c.name-name.result in
    let e = expression_of c.expression-expression.result in
    let written = c.in_ok-wide_or_no_memory.field-0 in
    let pushed = c.in_ok-push.ensures.items in
    let share_terms = row_shared s name e (c.expression-expression.ensures ∙ ap (shared_expression s.lts s.class []) (sym c.name-name.ensures))
    c.row.result written c.in_ok-wide_or_no_memory.ensures c.row.ensures.comes c.row.ensures.one_each in
    let here = subst (λ n. IsSharedRow s (row_of_kind kind n) written) (sym c.loop-number.invariant.many) (subst (λ n. IsSharedRow s n written) c.name-name.ensures share_terms) in
    record {
      many = ap length pushed ∙ length-append rows (written ∷ []) ∙ ap (λ n. n + 1) c.loop-number.invariant.many;
      each = subst (λ (l : List (Result CaseRow Wide)). (i : ℕ) (y : Result CaseRow Wide) → slice_get l i ≡ Some y
          → IsSharedRow s (row_of_kind kind i) y) (sym pushed)
          (each_pushed (λ i y. IsSharedRow s (row_of_kind kind i) y) rows written c.loop-number.invariant.each here);
    }
