use Rattle.std.proofs.Common.{◌≡◌}
use Rattle.rg_families.specs.Named.{names_of, row}
use Rattle.rg_families.specs.Doubling.{step}
use Rattle.rg_families.proofs.doubling.labels.Given as goal

abbrev pub invariant-loop-i : goal.invariant-loop-i
invariant-loop-i l = names_of l.names.items ≡ row l.i step
