use Rattle.std.proofs.Common.{take}
use Rattle.rg_netfile.specs.Built.{AreCounts}
use Rattle.rg_netfile.proofs.labels.counts.Given as goal

abbrev pub invariant-loop-number : goal.invariant-loop-number
invariant-loop-number l = AreCounts l.labels (take l.number-index l.numbers) l.counts.items
