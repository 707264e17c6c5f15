use Rattle.rg_theory.specs.declared.Arc.{Arc}
use Rattle.rg_split.specs.Leaves.{fork_label}
use Rattle.rg_split.proofs.LeafParts.{mapped_more}
use Rattle.rg_split.proofs.relabelling.labels_with.Goals as goal

abbrev nowhere : Arc
nowhere = record { from = 0; label = 0; to = 0 }

pub loop-a-preserved : goal.loop-a-preserved
loop-a-preserved c =
    mapped_more (fork_label c.args.second c.args.new) c.args.arcs.now c.loop-a.a-index nowhere c.loop-a.labels.items c.push.new.self.items c.fork_label.result c.loop-a-test.true
    c.fork_label.ensures c.in_ok-push.ensures.items c.loop-a.invariant
