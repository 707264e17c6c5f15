use Rattle.std.proofs.Common.{◌≡◌, Ok, Err, length, ap, subst, sym, ◌∙◌}
use Rattle.std.specs.Prelude.{[], IfOk}
use Rattle.rg_cert_meaning.specs.Expression.{Expression}
use Rattle.rg_cert_meaning.specs.Row.{row_expression}
use Rattle.rg_folds.specs.Fold.{Comes, shown_result}
use Rattle.rg_case_folds.specs.Rewriting.{Scaled as ScaledNumbers, column_count, terms_fold}
use Rattle.rg_case_parts.specs.SettingViews.{shown_setting, shown_case}
use Rattle.rg_rows.specs.declared.form_terms.FormTerms.{FormTerms}
use Rattle.rg_rows.specs.View.{terms_of}
use Rattle.rg_rows.proofs.forms.terms_in_case.Goals as goal

pub returns-in_ok-copy_terms-in-Some-Ok-clause-comes : goal.returns-in_ok-copy_terms-in-Some-Ok-clause-comes
returns-in_ok-copy_terms-in-Some-Ok-clause-comes c =
    let it = shown_case c.args.c in
    let (told, one_each) = c.in-Some-Ok.ensures it c.requires.common in
    let terms = (row_expression it.lts it.class it.problem it.number [] c.args.name).terms in
    subst (λ (s : ScaledNumbers). terms_fold it.setting terms (Ok s)) (sym (c.in_ok-copy_terms-in-Some-Ok.ensures ∙ ap terms_of c.in-Some-Ok.terms-is))
    (subst (λ w. terms_fold it.setting terms (shown_result terms_of w)) c.in-Some-Ok.field-0-is told)

pub returns-in_ok-copy_terms-in-Some-Ok-clause-one_each : goal.returns-in_ok-copy_terms-in-Some-Ok-clause-one_each
returns-in_ok-copy_terms-in-Some-Ok-clause-one_each c =
    let it = shown_case c.args.c in
    let (told, one_each) = c.in-Some-Ok.ensures it c.requires.common in
    ap (λ (s : ScaledNumbers). length s.numbers) (c.in_ok-copy_terms-in-Some-Ok.ensures ∙ ap terms_of c.in-Some-Ok.terms-is)
    ∙ subst (λ w. IfOk w (λ (t : FormTerms). length t.coeffs.items ≡ column_count it.lts it.basis it.class)) c.in-Some-Ok.field-0-is one_each

pub returns-in-Some-Err-clause-comes : goal.returns-in-Some-Err-clause-comes
returns-in-Some-Err-clause-comes c =
    let s = shown_case c.args.c in
    let (told, one_each) = c.in-Some-Err.ensures s c.requires.common in
    let terms = (row_expression s.lts s.class s.problem s.number [] c.args.name).terms in
    subst (λ x. terms_fold s.setting terms (Err x)) (sym c.in-Some-Err.wide-is) (subst (λ x. terms_fold s.setting terms (shown_result terms_of x)) c.in-Some-Err.field-0-is told)

pub returns-in-None-clause-comes : goal.returns-in-None-clause-comes
returns-in-None-clause-comes c =
    subst (λ (x : Expression). Comes (terms_fold (shown_setting c.args.c.setting) x.terms) terms_of c.form_terms.result) c.case_expression-said.ensures
    c.form_terms.ensures.comes
