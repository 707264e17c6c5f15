use Rattle.std.proofs.Common.{Ok, Err, ap}
use Rattle.rg_top.proofs.testing.net_line.Goals as goal

-- a net that solves the system and is of the class gets yes, and no other verdict
pub unreachable-requires : goal.unreachable-requires
unreachable-requires c =
    let right = c.requires in
    let same = c.solving_net_gets_yes.ensures c.args.lts.now c.args.net.now c.args.class (Ok c.in-Ok-No.field-0) c.is_well_formed.ensures.in_range right.solves.transitions right.solves right.in_class
    right.narrow c.in-Ok-No.ensures.verdict in
    let is = c.in-Ok-No.field-0-is in
    cc

-- none of its markings is out of range
pub unreachable-requires-in-Err-Wide : goal.unreachable-requires-in-Err-Wide
unreachable-requires-in-Err-Wide c =
    let right = c.requires in
    let w = c.in-Err-Wide.field-0-0 in
    let same = c.solving_net_gets_yes.ensures c.args.lts.now c.args.net.now c.args.class (Err w) c.is_well_formed.ensures.in_range right.solves.transitions right.solves right.in_class right.narrow
    (c.in-Err-Wide.ensures.wide w (ap Err c.in-Err-Wide.field-0-is)) in
    cc
