use Rattle.rg_integers.proofs.Dots.{dot-sum_below}
use Rattle.rg_integers.proofs.dot_is_a_sum.Goals as goal

pub returns : goal.returns
returns c = dot-sum_below
