use Rattle.std.proofs.Common.{◌≡◌, ℕ, ◌<◌, ◌≤◌, length}
use Rattle.std.specs.Prelude.{◌+ℤ◌, ◌*ℤ◌}
use Rattle.rg_integers.specs.Sum.{number_at}
use Rattle.rg_revised.proofs.long_reading.add_long_row.Given as goal

abbrev pub invariant-loop-s : goal.invariant-loop-s
invariant-loop-s l = record {
  same_length : length l.sums ≡ length l.fn.sums;
  done : (k : ℕ) → k < l.s → number_at l.sums k ≡ number_at l.fn.sums k +ℤ (l.by *ℤ number_at l.row k);
  left : (k : ℕ) → l.s ≤ k → number_at l.sums k ≡ number_at l.fn.sums k;
}
