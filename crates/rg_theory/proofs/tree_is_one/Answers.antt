use Rattle.std.proofs.Common.{[], ◌∷◌}
use Rattle.rg_theory.proofs.Trees.{same_tree}
use Rattle.rg_theory.proofs.tree_is_one.Goals as goal

pub returns : goal.returns
returns c = λ lts tree tree' g g'. same_tree lts (lts.initial ∷ []) tree tree' g g'
