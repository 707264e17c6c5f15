use Rattle.rg_cert_meaning.proofs.Accepted.{accepted}
use Rattle.rg_cert_meaning.proofs.accepted_is_no_net.Goals as goal

pub returns : goal.returns
returns c = accepted
