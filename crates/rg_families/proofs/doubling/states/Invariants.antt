use Rattle.std.proofs.Common.{◌≡◌}
use Rattle.rg_families.specs.Named.{names_of}
use Rattle.rg_families.specs.Doubling.{doubling}
use Rattle.rg_families.proofs.doubling.states.Given as goal

abbrev pub invariant-loop-i : goal.invariant-loop-i
invariant-loop-i l = names_of l.names.items ≡ (doubling l.i).states
