use Rattle.std.proofs.Common.{rules, ◌≡◌, Err, length, subst, ◌∙◌}
use Rattle.std.specs.Prelude.{pos}
use Rattle.rg_integers.proofs.Casts.{back}
use Rattle.rg_fraction.specs.Fractions.{IsValue}
use Rattle.rg_case_parts.specs.SettingViews.{shown_setting}
use Rattle.rg_folds.specs.Fold.{ratio_of}
use Rattle.rg_case_folds.specs.Rewriting.{row_fold}
use Rattle.rg_fraction.specs.declared.fold_stop.FoldStop.TheVariants as stop
use Rattle.rg_cert_data.specs.Sums.{expression_of}
use Rattle.rg_case_parts.specs.WholeNumbers.{scaled_of}
use Rattle.rg_rows.specs.View.{kept_row}
use Rattle.rg_case_folds.proofs.Comes.{comes_by, comes_unless}
use Rattle.rg_rows.proofs.Making.{whole_step, if_ok_more, row_unscaled, row_unmade, row_made}
use Rattle.rg_rows.proofs.rewriting.row.Goals as goal

pub returns-in_err-scaled-clause-comes : goal.returns-in_err-scaled-clause-comes
returns-in_err-scaled-clause-comes c =
    let s = shown_setting c.args.setting in
    let result : c.from_residual.result ≡ Err c.in_err-scaled.field-0.0 = search rules in
    let sum = expression_of c.args.expression.now in
    rw result (comes_unless (row_fold s c.args.name sum) kept_row c.in_err-scaled.field-0.0
    (λ w is. row_unscaled s c.args.name sum w (rw is at c.in_err-scaled.ensures.comes)))

pub returns-in_err-constant-clause-comes : goal.returns-in_err-constant-clause-comes
returns-in_err-constant-clause-comes c =
    let s = shown_setting c.args.setting in
    let result : c.from_residual-in_err-constant.result ≡ Err (stop.Wide c.in_err-constant.field-0.0) = search rules in
    let name = c.args.name in
    let sum = expression_of c.args.expression.now in
    let scaled = c.in_ok-scaled.scaled in
    let number = c.args.expression.now.constant in
    let own = subst (λ z. IsValue c.new.result z (pos 1)) (back number c.args.expression.now.in_range) c.new.ensures in
    let by = subst (λ z. IsValue c.new-multiple.result z (pos 1)) (back scaled.multiple scaled.multiple_in_range) c.new-multiple.ensures in
    let product = whole_step c.new.result c.new-multiple.result number scaled.multiple c.mul.result own by c.mul.ensures.product in
    rw result (row_unmade s name sum (scaled_of scaled) c.in_ok-scaled.ensures.comes c.in_err-constant.field-0.0 (rw c.in_err-constant.was at product))

pub returns-clause-comes : goal.returns-clause-comes
returns-clause-comes c =
    let s = shown_setting c.args.setting in
    let name = c.args.name in
    let sum = expression_of c.args.expression.now in
    let scaled = c.in_ok-scaled.scaled in
    let number = c.args.expression.now.constant in
    let own = subst (λ z. IsValue c.new.result z (pos 1)) (back number c.args.expression.now.in_range) c.new.ensures in
    let by = subst (λ z. IsValue c.new-multiple.result z (pos 1)) (back scaled.multiple scaled.multiple_in_range) c.new-multiple.ensures in
    let product = whole_step c.new.result c.new-multiple.result number scaled.multiple c.mul.result own by c.mul.ensures.product in
    let top = back c.numerator.result c.numerator.ensures.in_range ∙ c.numerator.ensures.value in
    comes_by _ _ kept_row c.divide_by_common.result (rw top at c.divide_by_common.ensures.comes)
    (row_made s name sum (scaled_of scaled) c.in_ok-scaled.ensures.comes (ratio_of c.in_ok-constant.constant) (rw c.in_ok-constant.was at product))

pub returns-clause-one_each : goal.returns-clause-one_each
returns-clause-one_each c =
    if_ok_more c.divide_by_common.result (λ r. length r.coeffs.items ≡ length c.in_ok-scaled.scaled.numbers.items) _
    (λ r h. h ∙ c.in_ok-scaled.ensures.one_each) c.divide_by_common.ensures.one_each
