use Rattle.std.proofs.Common.{rules, ◌≡◌, Ok, Err, length, subst, sym}
use Rattle.std.specs.Prelude.{IfOk}
use Rattle.rg_folds.specs.Fold.{shown_result}
use Rattle.rg_case_folds.specs.Rewriting.{column_count, row_fold}
use Rattle.rg_rows.specs.declared.case_row.CaseRow.{CaseRow}
use Rattle.rg_rows.specs.View.{kept_row, row_in, fold_of}
use Rattle.rg_rows.specs.declared.held_row.HeldRow.{HeldRow}
use Rattle.rg_case_folds.proofs.Comes.{comes_unless}
use Rattle.rg_rows.proofs.held_row.row_in_case.Goals as goal
use Rattle.rg_case_parts.specs.SettingViews.{shown_setting, shown_case}

pub returns-in-Some-Ok-clause-comes : goal.returns-in-Some-Ok-clause-comes
returns-in-Some-Ok-clause-comes c =
    let s = shown_case c.args.c in
    let (told, one_each) = c.in-Some-Ok.ensures s c.requires.common in
    subst (λ (r : CaseRow). fold_of s c.args.name (Ok (kept_row r))) (sym c.in-Some-Ok.row-is)
    (subst (λ w. fold_of s c.args.name (shown_result kept_row w)) c.in-Some-Ok.field-0-is told)

pub returns-in-Some-Ok-clause-one_each : goal.returns-in-Some-Ok-clause-one_each
returns-in-Some-Ok-clause-one_each c =
    let s = shown_case c.args.c in
    let (told, one_each) = c.in-Some-Ok.ensures s c.requires.common in
    subst (λ (r : CaseRow). length r.coeffs.items ≡ column_count s.lts s.basis s.class) (sym c.in-Some-Ok.row-is)
    (subst (λ w. IfOk w (λ (r : CaseRow). length r.coeffs.items ≡ column_count s.lts s.basis s.class)) c.in-Some-Ok.field-0-is one_each)

pub returns-in-Some-Err-clause-comes : goal.returns-in-Some-Err-clause-comes
returns-in-Some-Err-clause-comes c =
    let s = shown_case c.args.c in
    let (told, one_each) = c.in-Some-Err.ensures s c.requires.common in
    subst (λ x. fold_of s c.args.name (Err x)) (sym c.in-Some-Err.wide-is)
    (subst (λ x. fold_of s c.args.name (shown_result kept_row x)) c.in-Some-Err.field-0-is told)

pub returns-in_err-own-in-None-clause-comes : goal.returns-in_err-own-in-None-clause-comes
returns-in_err-own-in-None-clause-comes c =
    let result : c.from_residual.result ≡ Err c.in_err-own-in-None.field-0.0 = search rules in
    rw result (comes_unless (fold_of (shown_case c.args.c) c.args.name) (λ (r : HeldRow). kept_row (row_in r)) c.in_err-own-in-None.field-0.0
    (λ w is. subst (λ x. row_fold (shown_setting c.args.c.setting) c.args.name x (Err w)) c.case_expression-said.ensures
    (rw is at c.in_err-own-in-None.ensures.comes)))

pub returns-in_ok-own-in-None-clause-comes : goal.returns-in_ok-own-in-None-clause-comes
returns-in_ok-own-in-None-clause-comes c =
    subst (λ x. row_fold (shown_setting c.args.c.setting) c.args.name x (Ok (kept_row c.in_ok-own-in-None.own))) c.case_expression-said.ensures
    c.in_ok-own-in-None.ensures.comes
