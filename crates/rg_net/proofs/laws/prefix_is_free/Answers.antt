use Rattle.rg_net.proofs.Free.{free_prefix}
use Rattle.rg_net.proofs.laws.prefix_is_free.Goals as goal

pub returns : goal.returns
returns c = free_prefix
