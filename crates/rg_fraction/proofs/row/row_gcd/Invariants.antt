use Rattle.std.proofs.Common.{ℕ, ◌<◌}
use Rattle.std.specs.Prelude.{pos, ◌≤ℤ◌, unsigned_abs}
use Rattle.std.specs.Int.{◌∣◌}
use Rattle.rg_integers.specs.Range.{InRange}
use Rattle.rg_integers.specs.Sum.{number_at}
use Rattle.rg_fraction.proofs.row.row_gcd.Given as goal

abbrev pub invariant-loop-number : goal.invariant-loop-number
invariant-loop-number l = record {
  divides : (k : ℕ) → k < l.number-index → unsigned_abs l.divisor ∣ unsigned_abs (number_at l.row k);
  greatest : (d : ℕ) → ((k : ℕ) → k < l.number-index → d ∣ unsigned_abs (number_at l.row k)) → d ∣ unsigned_abs l.divisor;
  not_negative : pos 0 ≤ℤ l.divisor;
  in_range : InRange l.divisor;
}
