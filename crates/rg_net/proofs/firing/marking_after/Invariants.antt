use Rattle.rg_net.proofs.Moving.{MovedSoFar}
use Rattle.rg_net.proofs.firing.marking_after.Given as goal

abbrev pub invariant-loop-i : goal.invariant-loop-i
invariant-loop-i l = MovedSoFar l.net l.marking l.t l.after.items l.i
