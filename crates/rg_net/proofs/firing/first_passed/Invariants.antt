use Rattle.std.proofs.Common.{ℕ, ◌<◌, ◌≤◌}
use Rattle.rg_integers.specs.Range.{greatest}
use Rattle.rg_theory.specs.Net.{Place, IsPlaceAt}
use Rattle.rg_net.specs.Firing.{left_on}
use Rattle.rg_net.proofs.firing.first_passed.Given as goal

abbrev pub invariant-loop-i : goal.invariant-loop-i
invariant-loop-i l = (j : ℕ) (p : Place) → j < l.i → IsPlaceAt l.net j p → left_on l.marking j p l.t ≤ greatest
