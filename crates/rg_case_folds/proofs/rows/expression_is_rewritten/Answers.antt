use Rattle.rg_case_folds.proofs.RowValues.{rewritten}
use Rattle.rg_case_folds.proofs.rows.expression_is_rewritten.Goals as goal

pub returns : goal.returns
returns c = rewritten
