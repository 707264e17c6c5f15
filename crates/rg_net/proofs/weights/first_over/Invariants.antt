use Rattle.rg_net.specs.ClassBreaks.{shown_markings}
use Rattle.rg_net.proofs.Overs.{IsFirstOverBelow}
use Rattle.rg_net.proofs.weights.first_over.Given as goal

abbrev pub invariant-loop-s : goal.invariant-loop-s
invariant-loop-s l = IsFirstOverBelow (shown_markings l.markings) l.most l.places l.s l.end l.first
