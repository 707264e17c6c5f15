use Rattle.std.proofs.Common.{◌≡◌, ℕ, ◌<◌, length}
use Rattle.std.specs.Prelude.{pos}
use Rattle.rg_integers.specs.Sum.{number_at}
use Rattle.rg_revised.proofs.long_reading.clear_long.Given as goal

abbrev pub invariant-loop-s : goal.invariant-loop-s
invariant-loop-s l = record {
  same_length : length l.sums ≡ length l.fn.sums;
  done : (k : ℕ) → k < l.s → number_at l.sums k ≡ pos 0;
}
