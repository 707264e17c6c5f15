-- No label is lost by the labels so far.
use Rattle.rg_checks.proofs.Losing.{NoneLostAt}
use Rattle.rg_checks.proofs.lost.loss_at.Given as goal

abbrev pub invariant-loop-t : goal.invariant-loop-t
invariant-loop-t l = NoneLostAt l.lts l.s l.t
