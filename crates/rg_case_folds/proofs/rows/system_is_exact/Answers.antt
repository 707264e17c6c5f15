use Rattle.rg_case_folds.proofs.SystemRows.{system_is_met}
use Rattle.rg_case_folds.proofs.rows.system_is_exact.Goals as goal

pub returns : goal.returns
returns c = system_is_met
