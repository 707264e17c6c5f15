use Rattle.rg_case_folds.proofs.Missing.{missing_is_least}
use Rattle.rg_case_folds.proofs.folds.missing_is_least.Goals as goal

pub returns : goal.returns
returns c = missing_is_least
