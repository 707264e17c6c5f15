use Rattle.rg_netfile.proofs.LabelledNets.{labelled_spelled}
use Rattle.rg_netfile.proofs.laws.labelled_net_is_spelled.Goals as goal

pub returns : goal.returns
returns c = λ system net names formed. labelled_spelled system formed net names
