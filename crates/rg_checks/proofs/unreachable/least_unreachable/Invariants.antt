-- The states so far are met.
use Rattle.std.proofs.Common.{◌≡◌, ℕ, ◌<◌, true}
use Rattle.rg_checks.specs.Closure.{is_met}
use Rattle.rg_checks.proofs.unreachable.least_unreachable.Given as goal

abbrev pub invariant-loop-s : goal.invariant-loop-s
invariant-loop-s l = (r : ℕ) → r < l.s → is_met l.lts.initial l.steps r ≡ true
