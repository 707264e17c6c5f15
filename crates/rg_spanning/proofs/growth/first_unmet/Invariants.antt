-- The states so far are met.
use Rattle.std.proofs.Common.{ℕ, ◌<◌, Contains}
use Rattle.rg_spanning.proofs.growth.first_unmet.Given as goal

abbrev pub invariant-loop-s : goal.invariant-loop-s
invariant-loop-s l = (r : ℕ) → r < l.s → Contains l.growth.order.items r
