use Rattle.rg_integers.proofs.Values.{SameValue-trans}
use Rattle.rg_integers.proofs.same_value_is_transitive.Goals as goal

pub returns : goal.returns
returns c = SameValue-trans
