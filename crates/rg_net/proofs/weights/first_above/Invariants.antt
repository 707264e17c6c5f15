use Rattle.std.proofs.Common.{ℕ, ◌<◌, ◌≤◌}
use Rattle.rg_theory.specs.Net.{tokens}
use Rattle.rg_net.proofs.weights.first_above.Given as goal

abbrev pub invariant-loop-i : goal.invariant-loop-i
invariant-loop-i l = (j : ℕ) → j < l.i → tokens l.marking j ≤ l.bound
