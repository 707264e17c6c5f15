use Rattle.rg_linear.proofs.Bases.{cycle_basis_is_one}
use Rattle.rg_linear.proofs.cycle.cycle_basis_is_one.Goals as goal

pub returns : goal.returns
returns c = cycle_basis_is_one
