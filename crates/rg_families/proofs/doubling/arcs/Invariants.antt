use Rattle.std.proofs.Common.{◌≡◌, map}
use Rattle.rg_families.specs.Named.{triple_of, each_below}
use Rattle.rg_families.specs.Doubling.{doubled}
use Rattle.rg_families.proofs.doubling.arcs.Given as goal

abbrev pub invariant-loop-i : goal.invariant-loop-i
invariant-loop-i l = map triple_of l.arcs.items ≡ each_below l.i doubled
