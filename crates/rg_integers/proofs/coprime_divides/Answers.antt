use Rattle.rg_integers.proofs.Coprime.{coprime_divides}
use Rattle.rg_integers.proofs.coprime_divides.Goals as goal

pub returns : goal.returns
returns c = coprime_divides
