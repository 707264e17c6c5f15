use Rattle.std.proofs.Common.{map}
use Rattle.rg_cert_data.specs.Trees.{node_of as made_node_of}
use Rattle.rg_branch.specs.View.{node_of}
use Rattle.rg_separate.proofs.Walking.{IsWalk}
use Rattle.rg_separate.proofs.refuting.refutation_answer.Given as goal

abbrev pub invariant-loop-node : goal.invariant-loop-node
invariant-loop-node l = IsWalk l.c l.named (map node_of l.nodes) l.node-index l.above.items (map made_node_of l.made.items)
