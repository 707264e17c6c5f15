use Rattle.rg_netfile.proofs.LabelledNets.{labelled_told}
use Rattle.rg_netfile.proofs.laws.labelled_net_is_told.Goals as goal

pub returns : goal.returns
returns c = λ system a b names others formed. labelled_told system formed (c.net_is_told.ensures system) a b names others
