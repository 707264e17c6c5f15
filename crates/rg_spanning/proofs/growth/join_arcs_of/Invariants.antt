-- The arcs that leave the state are joining.
use Rattle.rg_spanning.proofs.TreeGrowth.{IsJoining}
use Rattle.rg_spanning.proofs.growth.join_arcs_of.Given as goal

abbrev pub invariant-loop-a : goal.invariant-loop-a
invariant-loop-a l = IsJoining l.lts l.growth.order.items l.growth.arcs.items l.growth.entries.items l.index l.s l.a-items l.a-index
