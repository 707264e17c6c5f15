use Rattle.std.proofs.Common.{◌≡◌, ℕ, ◌<◌, length}
use Rattle.rg_integers.specs.Sum.{number_at}
use Rattle.rg_revised.specs.Reading.{column_sum}
use Rattle.rg_revised.proofs.long_reading.sum_row.Given as goal

abbrev pub invariant-loop-t : goal.invariant-loop-t
invariant-loop-t l = record {
  same_length : length l.sums ≡ length l.fn.sums;
  sums : (s : ℕ) → s < length l.fn.sums → number_at l.sums s ≡ column_sum (length l.fn.sums) l.coeffs l.table l.t s;
}
