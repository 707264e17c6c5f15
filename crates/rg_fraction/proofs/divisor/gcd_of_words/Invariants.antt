use Rattle.std.proofs.Common.{ℕ, ◌≤◌, max}
use Rattle.std.specs.Int.{IsGcd}
use Rattle.rg_fraction.proofs.divisor.gcd_of_words.Given as goal

abbrev pub invariant-loop-y : goal.invariant-loop-y
invariant-loop-y l = record {
  divisors : (g : ℕ) → IsGcd l.x l.y g → IsGcd l.fn.a l.fn.b g;
  bound : max l.x l.y ≤ max l.fn.a l.fn.b;
}

abbrev pub decreases-loop-y : goal.decreases-loop-y
decreases-loop-y l = l.y
