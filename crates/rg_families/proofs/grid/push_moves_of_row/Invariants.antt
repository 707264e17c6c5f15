use Rattle.std.proofs.Common.{◌≡◌, ◌++◌, map}
use Rattle.rg_families.specs.Named.{triple_of, row}
use Rattle.rg_families.specs.Grid.{move}
use Rattle.rg_families.proofs.grid.push_moves_of_row.Given as goal

abbrev pub invariant-loop-j : goal.invariant-loop-j
invariant-loop-j l = map triple_of l.arcs.items ≡ map triple_of l.fn.arcs.items ++ row l.j (move l.direction l.i)
