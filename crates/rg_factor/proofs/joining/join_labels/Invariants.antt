use Rattle.rg_product.specs.Squares.{broken_at}
use Rattle.rg_factor.specs.Joining.{AreJoinedBefore}
use Rattle.rg_factor.proofs.joining.join_labels.Given as goal

abbrev pub invariant-loop-s : goal.invariant-loop-s
invariant-loop-s l = AreJoinedBefore l.lts (broken_at l.s 0 0) l.joining.leasts.items l.joining.squares.items
