use Rattle.std.proofs.Common.{◌≡◌, ℕ, ◌<◌, ◌≤◌}
use Rattle.std.specs.Prelude.{◌*ℤ◌}
use Rattle.rg_integers.specs.Range.{InRange}
use Rattle.rg_integers.specs.Sum.{number_at}
use Rattle.rg_fraction.proofs.row.divide.Given as goal

abbrev pub invariant-loop-i : goal.invariant-loop-i
invariant-loop-i l = record {
  done : (k : ℕ) → k < l.i → number_at l.q k *ℤ l.g ≡ number_at l.fn.q k;
  fits : (k : ℕ) → k < l.i → InRange (number_at l.q k);
  left : (k : ℕ) → l.i ≤ k → number_at l.q k ≡ number_at l.fn.q k;
}
