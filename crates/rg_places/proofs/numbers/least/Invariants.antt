use Rattle.std.proofs.Common.{◌≡◌, drop}
use Rattle.rg_folds.specs.Fold.{ratio_of}
use Rattle.rg_case_folds.specs.Placing.{least_from, least_of}
use Rattle.rg_places.specs.PointValues.{ratios_of}
use Rattle.rg_places.proofs.numbers.least.Given as goal

abbrev pub invariant-loop-number : goal.invariant-loop-number
invariant-loop-number l = least_from (ratio_of l.least) (drop l.number-index (ratios_of l.rest)) ≡ least_of (ratios_of l.fn.numbers)
