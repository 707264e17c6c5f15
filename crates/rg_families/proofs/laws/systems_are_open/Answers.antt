use Rattle.rg_families.proofs.EachKind.{all_reachable, all_fork_free}
use Rattle.rg_families.proofs.laws.systems_are_open.Goals as goal

pub returns : goal.returns
returns c = record { reachable = all_reachable; fork_free = all_fork_free }
