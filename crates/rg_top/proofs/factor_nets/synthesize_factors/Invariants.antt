use Rattle.std.proofs.Common.{map, take}
use Rattle.std.specs.List.{AllZip}
use Rattle.rg_factor.specs.View.{shown_factor}
use Rattle.rg_top.specs.FactorsAnswer.{IsNetOf}
use Rattle.rg_top.proofs.factor_nets.synthesize_factors.Given as goal

-- the nets of the factors before
abbrev pub invariant-loop-i : goal.invariant-loop-i
invariant-loop-i g l = AllZip (IsNetOf l.class) (take l.i (map shown_factor l.factors)) l.nets.items
