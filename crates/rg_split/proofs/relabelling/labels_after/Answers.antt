use Rattle.std.proofs.Common.{◌∙◌, arith}
use Rattle.std.proofs.lemmas.List.{take_all}
use Rattle.rg_theory.specs.declared.Arc.{Arc}
use Rattle.rg_split.specs.Leaves.{labels_by}
use Rattle.rg_split.proofs.LeafParts.{label_more, labels_long}
use Rattle.rg_split.proofs.relabelling.labels_after.Goals as goal

abbrev nowhere : Arc
nowhere = record { from = 0; label = 0; to = 0 }

pub loop-i-preserved : goal.loop-i-preserved
loop-i-preserved c =
    label_more c.args.label c.args.new c.args.arcs.now c.args.sums.now c.loop-i.i c.label_after.result nowhere c.loop-i.labels.items c.push.new.self.items c.requires.long c.loop-i-test.true
    c.label_after.ensures c.in_ok-push.ensures.items c.loop-i.invariant

pub returns : goal.returns
returns c =
    let past = c.loop-i-test.false in
    let n = labels_long c.args.label c.args.new c.args.arcs.now c.args.sums.now c.requires.long in
    c.loop-i.invariant ∙ take_all c.loop-i.i (labels_by c.args.label c.args.new c.args.arcs.now c.args.sums.now) (omega arith)
