use Rattle.rg_net.proofs.Told.{told_net}
use Rattle.rg_net.proofs.laws.net_is_told.Goals as goal

pub returns : goal.returns
returns c = told_net
