use Rattle.rg_net_verdict.proofs.Comes.{yes_comes}
use Rattle.rg_net_verdict.proofs.laws.solving_net_gets_yes.Goals as goal

pub returns : goal.returns
returns c = yes_comes
