use Rattle.rg_theory.proofs.Leaving.{left_solves, left_lacks_none}
use Rattle.rg_theory.proofs.pruning.net_is_irredundant.Goals as goal

pub returns-clause-solves : goal.returns-clause-solves
returns-clause-solves c = left_solves

pub returns-clause-needed : goal.returns-clause-needed
returns-clause-needed c = left_lacks_none
