-- The loss that comes first so far.
use Rattle.rg_checks.proofs.Losing.{IsFirstSoFar}
use Rattle.rg_checks.proofs.lost.loss_by.Given as goal

abbrev pub invariant-loop-arc : goal.invariant-loop-arc
invariant-loop-arc l = IsFirstSoFar l.lts l.s l.t l.steps l.arc-index l.least
