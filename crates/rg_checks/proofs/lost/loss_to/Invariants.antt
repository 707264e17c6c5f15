-- The labels of the arcs so far are kept.
use Rattle.std.proofs.Common.{◌≤◌, ◌-◌, length}
use Rattle.rg_checks.proofs.Losing.{AreKept}
use Rattle.rg_checks.proofs.lost.loss_to.Given as goal

abbrev pub invariant-loop-i : goal.invariant-loop-i
invariant-loop-i l = (l.i ≤ length l.leaving) × AreKept l.lts l.t l.to l.leaving l.i

abbrev pub decreases-loop-i : goal.decreases-loop-i
decreases-loop-i l = length l.leaving - l.i
