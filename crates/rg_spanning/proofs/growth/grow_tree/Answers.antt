-- There is room for one index more below the number of states, and where none is left the tree is complete.
use Rattle.std.proofs.Common.{arith}
use Rattle.rg_spanning.proofs.TreeGrowth.{complete}
use Rattle.rg_spanning.proofs.growth.grow_tree.Goals as goal

pub returns-clause-tree : goal.returns-clause-tree
returns-clause-tree c =
    let growth = c.loop-index.growth in
    complete c.args.lts.now growth.order.items growth.arcs.items growth.entries.items c.loop-index.invariant.growing
    (λ i b lt is has. c.loop-index.invariant.settled i b (omega (arith, c.len.ensures)) is has)
