use Rattle.std.proofs.Common.{◌≡◌, ◌++◌}
use Rattle.rg_families.specs.Named.{names_of, row}
use Rattle.rg_families.specs.Grid.{point}
use Rattle.rg_families.proofs.grid.push_row.Given as goal

abbrev pub invariant-loop-j : goal.invariant-loop-j
invariant-loop-j l = names_of l.names.items ≡ names_of l.fn.names.items ++ row l.j (point l.i)
