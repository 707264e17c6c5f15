use Rattle.std.proofs.Common.{◌≡◌, map, take}
use Rattle.rg_case_folds.specs.Placing.{ratio_at}
use Rattle.rg_places.specs.PointValues.{ratios_of}
use Rattle.rg_places.proofs.weights.numbers_left.Given as goal

abbrev pub invariant-loop-s : goal.invariant-loop-s
invariant-loop-s l = ratios_of l.left.items ≡ map (ratio_at (ratios_of l.numbers)) (take l.s-index l.s-items)
