use Rattle.rg_outcome.proofs.Inseparable.{inseparable}
use Rattle.rg_outcome.proofs.refuted_is_inseparable.Goals as goal

pub returns : goal.returns
returns c = λ s problem trees fine numbers reachable is_tree is_basis is comes. inseparable s fine numbers reachable is_tree is_basis problem trees is comes
