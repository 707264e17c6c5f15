use Rattle.std.proofs.Common.{◌≡◌, map, take}
use Rattle.rg_split.specs.Leaves.{fork_label}
use Rattle.rg_split.proofs.relabelling.labels_with.Given as goal

abbrev pub invariant-loop-a : goal.invariant-loop-a
invariant-loop-a l = l.labels.items ≡ map (fork_label l.second l.new) (take l.a-index l.arcs)
