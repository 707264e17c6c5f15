use Rattle.std.proofs.Common.{◌≡◌, ℕ, ◌<◌, ◌≤◌}
use Rattle.rg_theory.specs.Net.{pre_weight}
use Rattle.rg_net.specs.Shown.{shown_place}
use Rattle.rg_net.proofs.weights.first_taker.Given as goal

abbrev pub invariant-loop-t : goal.invariant-loop-t
invariant-loop-t l = (u : ℕ) → l.from ≤ u → u < l.t → pre_weight (shown_place l.place) u ≡ 0
