use Rattle.rg_theory.proofs.Reaching.{all_reached_or_not}
use Rattle.rg_theory.proofs.Forking.{some_fork}
use Rattle.rg_theory.proofs.decided.systems_are_decided.Goals as goal

pub returns-clause-reachable : goal.returns-clause-reachable
returns-clause-reachable c = all_reached_or_not

pub returns-clause-fork_free : goal.returns-clause-fork_free
returns-clause-fork_free c = some_fork
