use Rattle.rg_theory.specs.Class.{IsPure}
use Rattle.rg_net.specs.Shown.{shown_place}
use Rattle.rg_net.proofs.weights.first_impure.Given as goal

abbrev pub invariant-loop-t : goal.invariant-loop-t
invariant-loop-t l = IsPure l.t (shown_place l.place)
