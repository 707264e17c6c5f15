use Rattle.rg_case_folds.proofs.Names.{names_stand, names_labels}
use Rattle.rg_case_folds.proofs.LeftOut.{left_out}
use Rattle.rg_case_folds.proofs.meaning.rows_are_named.Goals as goal

pub returns-clause-stand : goal.returns-clause-stand
returns-clause-stand c = names_stand

pub returns-clause-labels : goal.returns-clause-labels
returns-clause-labels c = names_labels

pub returns-clause-others : goal.returns-clause-others
returns-clause-others c = left_out
