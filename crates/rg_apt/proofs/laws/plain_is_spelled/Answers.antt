use Rattle.rg_apt.proofs.PlainTexts.{plain_spelled}
use Rattle.rg_apt.proofs.laws.plain_is_spelled.Goals as goal

pub returns : goal.returns
returns c = plain_spelled
