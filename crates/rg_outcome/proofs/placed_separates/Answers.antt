use Rattle.rg_outcome.proofs.Placed.{placed_separates}
use Rattle.rg_outcome.proofs.placed_separates.Goals as goal

pub returns : goal.returns
returns c = λ s problem p fine numbers reachable is_tree is_basis is comes. placed_separates s fine numbers reachable is_tree is_basis problem p is comes
