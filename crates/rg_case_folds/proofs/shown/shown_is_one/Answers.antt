use Rattle.rg_case_folds.proofs.ShownLemmas.{cycle_is_one, row_is_one}
use Rattle.rg_case_folds.proofs.shown.shown_is_one.Goals as goal

pub returns-clause-cycle : goal.returns-clause-cycle
returns-clause-cycle c = cycle_is_one

pub returns-clause-row : goal.returns-clause-row
returns-clause-row c = row_is_one
