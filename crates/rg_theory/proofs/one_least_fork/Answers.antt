use Rattle.rg_theory.proofs.Forks.{one_least}
use Rattle.rg_theory.proofs.one_least_fork.Goals as goal

pub returns : goal.returns
returns c = one_least
