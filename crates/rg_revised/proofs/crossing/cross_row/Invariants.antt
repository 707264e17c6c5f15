use Rattle.std.proofs.Common.{◌≡◌, ℕ, ◌<◌, length}
use Rattle.std.specs.Prelude.{◌*ℤ◌, ◌-ℤ◌}
use Rattle.rg_integers.specs.Range.{InRange}
use Rattle.rg_integers.specs.Sum.{number_at}
use Rattle.rg_revised.proofs.crossing.cross_row.Given as goal

abbrev pub invariant-loop-n : goal.invariant-loop-n
invariant-loop-n l = record {
  same_length : length l.crossed ≡ length l.row;
  done : (k : ℕ) → k < l.n → number_at l.crossed k ≡ (number_at l.row k *ℤ l.size) -ℤ (number_at l.pivot.numbers.now k *ℤ l.leaving);
  in_range : (k : ℕ) → k < l.n → InRange (number_at l.crossed k);
}
