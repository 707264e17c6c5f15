use Rattle.rg_split.proofs.OtherLabels.{with_all, with_next}
use Rattle.rg_split.proofs.building.arcs_with.Goals as goal

pub loop-i-preserved : goal.loop-i-preserved
loop-i-preserved c =
    with_next c.args.labels.now c.args.arcs.now c.loop-i.i 0 (record { from = 0; label = 0; to = 0 }) c.loop-i.others.items c.push.new.self.items c.requires c.loop-i-test.true
    c.in_ok-push.ensures.items c.loop-i.invariant

pub returns : goal.returns
returns c = with_all c.args.labels.now c.args.arcs.now c.loop-i.i c.loop-i.others.items c.requires c.loop-i-test.false c.loop-i.invariant
