use Rattle.rg_cert.proofs.Going.{goes_on}
use Rattle.rg_cert.proofs.laws.lines_go_on.Goals as goal

pub returns : goal.returns
returns c = goes_on
