use Rattle.rg_synth.proofs.FewPlaces.{net_is_small, net_at_limits}
use Rattle.rg_synth.proofs.laws.net_is_small.Goals as goal

pub returns-clause-few : goal.returns-clause-few
returns-clause-few c = net_is_small

pub returns-clause-at_limits : goal.returns-clause-at_limits
returns-clause-at_limits c = net_at_limits
