use Rattle.rg_genet.proofs.ReadAgain.{read_again}
use Rattle.rg_genet.proofs.laws.printed_is_read_again.Goals as goal

pub returns : goal.returns
returns c = read_again
