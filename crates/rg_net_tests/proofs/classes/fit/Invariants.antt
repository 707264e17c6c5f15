use Rattle.rg_net_tests.proofs.Fitting.{FirstFit}
use Rattle.rg_net_tests.proofs.classes.fit.Given as goal

-- the markings before this one fit
abbrev pub invariant-loop-marking : goal.invariant-loop-marking
invariant-loop-marking l = FirstFit l.markings l.places l.marking-index
