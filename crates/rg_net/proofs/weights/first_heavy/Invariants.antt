use Rattle.rg_theory.specs.Class.{IsPlain}
use Rattle.rg_net.specs.Shown.{shown_place}
use Rattle.rg_net.proofs.weights.first_heavy.Given as goal

abbrev pub invariant-loop-t : goal.invariant-loop-t
invariant-loop-t l = IsPlain l.t (shown_place l.place)
