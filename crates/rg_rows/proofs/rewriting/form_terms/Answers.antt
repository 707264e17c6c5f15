use Rattle.std.proofs.Common.{rules, ◌≡◌, Ok, Err, length, subst, sym}
use Rattle.rg_case_folds.specs.Rewriting.{Scaled, column_count, terms_fold}
use Rattle.rg_cert_data.specs.Sums.{expression_of}
use Rattle.rg_case_parts.specs.SettingViews.{shown_setting}
use Rattle.rg_rows.specs.View.{terms_of}
use Rattle.rg_case_folds.proofs.Comes.{comes_unless}
use Rattle.rg_rows.proofs.rewriting.form_terms.Goals as goal

pub returns-in_err-scaled-clause-comes : goal.returns-in_err-scaled-clause-comes
returns-in_err-scaled-clause-comes c =
    let result : c.from_residual.result ≡ Err c.in_err-scaled.field-0.0 = search rules in
    rw result (comes_unless (terms_fold (shown_setting c.args.setting) (expression_of c.args.expression.now).terms) terms_of c.in_err-scaled.field-0.0
    (λ w is. rw is at c.in_err-scaled.ensures.comes))

pub returns-clause-comes : goal.returns-clause-comes
returns-clause-comes c = subst (λ (s : Scaled). terms_fold (shown_setting c.args.setting) (expression_of c.args.expression.now).terms (Ok s)) (sym c.with_numbers.ensures) c.in_ok-scaled.ensures.comes

pub returns-clause-one_each : goal.returns-clause-one_each
returns-clause-one_each c =
    let s = shown_setting c.args.setting in
    subst (λ (x : Scaled). length x.numbers ≡ column_count s.lts s.basis s.class) (sym c.with_numbers.ensures) c.in_ok-scaled.ensures.one_each
