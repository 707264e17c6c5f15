use Rattle.std.proofs.Common.{ℕ, ◌<◌, ◌≤◌}
use Rattle.rg_theory.specs.Net.{Place, IsPlaceAt, pre_weight, tokens}
use Rattle.rg_net.proofs.firing.enabled.Given as goal

abbrev pub invariant-loop-i : goal.invariant-loop-i
invariant-loop-i l = (j : ℕ) (p : Place) → j < l.i → IsPlaceAt l.net j p → pre_weight p l.t ≤ tokens l.marking j
