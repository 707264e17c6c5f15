use Rattle.std.proofs.Common.{◌≡◌, map, drop}
use Rattle.rg_case_folds.specs.Spreading.{multiplier_among}
use Rattle.rg_farkas.proofs.listing.arc_multipliers.Given as goal

abbrev pub invariant-loop-k : goal.invariant-loop-k
invariant-loop-k l = l.found.items ≡ map (multiplier_among (drop l.k l.arcs) (drop l.k l.multipliers)) l.system
