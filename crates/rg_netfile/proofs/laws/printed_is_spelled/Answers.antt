use Rattle.rg_netfile.proofs.PrintedTexts.{printed_spelled}
use Rattle.rg_netfile.proofs.laws.printed_is_spelled.Goals as goal

pub returns : goal.returns
returns c = printed_spelled
