use Rattle.std.specs.Prelude.{◌≡◌, ℕ, ◌+◌, ◌%◌, ◌≤◌}
use Rattle.std.specs.Int.{IsGcd}
use Rattle.rg_fraction.proofs.binary.gcd_with_odd.Given as goal

abbrev pub invariant-loop-x : goal.invariant-loop-x
invariant-loop-x l = record {
  divisors : (g : ℕ) → IsGcd l.x l.y g → IsGcd l.fn.a l.fn.b g;
  odd : l.y % 2 ≡ 1;
  bound : l.y ≤ l.fn.b;
}

abbrev pub decreases-loop-x : goal.decreases-loop-x
decreases-loop-x l = l.x + l.y
