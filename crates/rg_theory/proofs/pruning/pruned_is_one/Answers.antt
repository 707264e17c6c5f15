use Rattle.std.proofs.Common.{[]}
use Rattle.rg_theory.proofs.Leaving.{left_once}
use Rattle.rg_theory.proofs.pruning.pruned_is_one.Goals as goal

pub returns : goal.returns
returns c = λ lts places a b. left_once lts [] places a b
