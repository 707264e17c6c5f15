use Rattle.std.proofs.Common.{◌≡◌, take}
use Rattle.rg_split.specs.Building.{arcs_with}
use Rattle.rg_split.proofs.building.arcs_with.Given as goal

abbrev pub invariant-loop-i : goal.invariant-loop-i
invariant-loop-i l = l.others.items ≡ take l.i (arcs_with l.labels l.arcs)
