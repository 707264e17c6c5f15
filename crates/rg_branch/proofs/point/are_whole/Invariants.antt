use Rattle.std.proofs.Common.{◌≡◌, All, take}
use Rattle.std.specs.Prelude.{pos}
use Rattle.rg_fraction.specs.Fractions.{denominator_of}
use Rattle.rg_branch.proofs.point.are_whole.Given as goal

abbrev pub invariant-loop-value : goal.invariant-loop-value
invariant-loop-value l = All (λ f. denominator_of f ≡ pos 1) (take l.value-index l.values)
