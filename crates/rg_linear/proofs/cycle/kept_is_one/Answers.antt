use Rattle.rg_linear.proofs.Bases.{kept_is_one}
use Rattle.rg_linear.proofs.cycle.kept_is_one.Goals as goal

pub returns : goal.returns
returns c = kept_is_one
