use Rattle.std.proofs.Common.{◌≡◌, ◌++◌, map}
use Rattle.rg_families.specs.Named.{triple_of}
use Rattle.rg_families.specs.Grid.{moves}
use Rattle.rg_families.proofs.grid.push_moves.Given as goal

abbrev pub invariant-loop-i : goal.invariant-loop-i
invariant-loop-i l = map triple_of l.arcs.items ≡ map triple_of l.fn.arcs.items ++ moves l.direction l.i l.columns
