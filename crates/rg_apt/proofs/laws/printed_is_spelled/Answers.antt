use Rattle.rg_apt.proofs.PlainTexts.{printed_spelled}
use Rattle.rg_apt.proofs.laws.printed_is_spelled.Goals as goal

pub returns : goal.returns
returns c = printed_spelled
