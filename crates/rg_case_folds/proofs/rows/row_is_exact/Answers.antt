use Rattle.rg_case_folds.proofs.ExactRows.{row_value_is, terms_value}
use Rattle.rg_case_folds.proofs.Signs.{factor_is_positive, row_is_met}
use Rattle.rg_case_folds.proofs.rows.row_is_exact.Goals as goal

pub returns-clause-value : goal.returns-clause-value
returns-clause-value c = row_value_is

pub returns-clause-factor : goal.returns-clause-factor
returns-clause-factor c = factor_is_positive

pub returns-clause-met : goal.returns-clause-met
returns-clause-met c = row_is_met

pub returns-clause-form : goal.returns-clause-form
returns-clause-form c = terms_value
