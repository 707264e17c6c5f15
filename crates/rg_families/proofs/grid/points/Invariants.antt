use Rattle.std.proofs.Common.{◌≡◌, ◌+◌}
use Rattle.rg_families.specs.Named.{names_of, each_below, row}
use Rattle.rg_families.specs.Grid.{point}
use Rattle.rg_families.proofs.grid.points.Given as goal

abbrev pub invariant-loop-i : goal.invariant-loop-i
invariant-loop-i l = names_of l.names.items ≡ each_below l.i (λ i. row (l.n + 1) (point i))
