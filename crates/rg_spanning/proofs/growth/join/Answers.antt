-- The tree goes on growing with the arc that joins.
use Rattle.rg_spanning.proofs.TreeGrowth.{joined}
use Rattle.rg_spanning.proofs.growth.join.Goals as goal

pub returns-clause-growing : goal.returns-clause-growing
returns-clause-growing c =
    let growth = c.args.growth.now in
    rw (c.in_ok-push.ensures.items, c.in_ok-push-2.ensures.items)
    (joined c.args.lts.now growth.order.items growth.arcs.items growth.entries.items c.requires.growing c.args.a c.requires.joins)
