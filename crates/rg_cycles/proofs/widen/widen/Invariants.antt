use Rattle.std.proofs.Common.{◌≡◌, take, map}
use Rattle.rg_cycles.proofs.widen.widen.Given as goal

abbrev pub invariant-loop-number : goal.invariant-loop-number
invariant-loop-number g l = l.numbers.items ≡ map g.N.ChordEntry.number (take l.number-index l.vector)
