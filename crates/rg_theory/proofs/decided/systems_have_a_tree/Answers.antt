use Rattle.rg_theory.proofs.Growing.{some_tree}
use Rattle.rg_theory.proofs.decided.systems_have_a_tree.Goals as goal

pub returns : goal.returns
returns c = some_tree
