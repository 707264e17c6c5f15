use Rattle.std.proofs.Common.{◌≡◌, ◌+◌, ℕ, Result, Some, List, [], ◌∷◌, length, ap, subst, sym, ◌∙◌}
use Rattle.std.specs.Prelude.{slice_get}
use Rattle.std.proofs.lemmas.List.{length-append}
use Rattle.rg_integers.specs.declared.term.Wide.{Wide}
use Rattle.rg_cert_data.specs.Sums.{expression_of}
use Rattle.rg_case_parts.specs.SettingViews.{shown_setting}
use Rattle.rg_rows.specs.declared.form_terms.FormTerms.{FormTerms}
use Rattle.rg_rows.specs.Sharing.{row_of_kind, AreSharedTerms}
use Rattle.rg_rows.proofs.Sharing.{terms_shared, each_pushed}
use Rattle.rg_rows.proofs.common.terms.Goals as goal

pub loop-number-preserved : goal.loop-number-preserved
loop-number-preserved c =
    let s = shown_setting c.args.setting in
    let kind = c.args.kind in
    let terms = c.loop-number.terms.items in
    let written = c.in_ok-wide_or_no_memory.field-0 in
    let pushed = c.in_ok-push.ensures.items in
    let here = subst (λ n. AreSharedTerms s (row_of_kind kind n) written) (sym c.loop-number.invariant.many)
    (terms_shared s (row_of_kind kind c.loop-number.number) (expression_of c.expression-expression.result) c.expression-expression.ensures
    c.form_terms.result written c.in_ok-wide_or_no_memory.ensures
    c.form_terms.ensures.comes c.form_terms.ensures.one_each) in
    record {
      many = ap length pushed ∙ length-append terms (written ∷ []) ∙ ap (λ n. n + 1) c.loop-number.invariant.many;
      each = subst (λ (l : List (Result FormTerms Wide)). (i : ℕ) (y : Result FormTerms Wide) → slice_get l i ≡ Some y
          → AreSharedTerms s (row_of_kind kind i) y) (sym pushed)
          (each_pushed (λ i y. AreSharedTerms s (row_of_kind kind i) y) terms written c.loop-number.invariant.each here);
    }
