use Rattle.std.proofs.Common.{◌≡◌, take}
use Rattle.rg_split.specs.Leaves.{labels_by}
use Rattle.rg_split.proofs.relabelling.labels_after.Given as goal

abbrev pub invariant-loop-i : goal.invariant-loop-i
invariant-loop-i l = l.labels.items ≡ take l.i (labels_by l.label l.new l.arcs l.sums)
