use Rattle.rg_case_folds.proofs.OneResult.{substitute_one, row_one, system_one, place_one, leaf_of_shares_one, spread_one}
use Rattle.rg_case_folds.proofs.folds.folds_are_one.Goals as goal

pub returns-clause-substitute : goal.returns-clause-substitute
returns-clause-substitute c = substitute_one

pub returns-clause-row : goal.returns-clause-row
returns-clause-row c = row_one

pub returns-clause-system : goal.returns-clause-system
returns-clause-system c = system_one

pub returns-clause-place : goal.returns-clause-place
returns-clause-place c = place_one

pub returns-clause-leaf : goal.returns-clause-leaf
returns-clause-leaf c = leaf_of_shares_one

pub returns-clause-spread : goal.returns-clause-spread
returns-clause-spread c = spread_one
