use Rattle.std.proofs.Common.{◌≡◌, ℕ, ◌^◌, ◌<◌, ◌≤◌, length}
use Rattle.std.specs.Prelude.{pos, ◌-ℤ◌, slice_index}
use Rattle.rg_integers.specs.Sum.{number_at}
use Rattle.rg_case_parts.proofs.label_counts.subtract.Given as goal

abbrev pub invariant-loop-t : goal.invariant-loop-t
invariant-loop-t l = record {
  same_length : length l.counts ≡ length l.fn.counts;
  done : (k : ℕ) → k < l.t → number_at l.counts k ≡ number_at l.fn.counts k -ℤ pos (slice_index l.numbers k);
  fits : (k : ℕ) → k < l.t → slice_index l.numbers k < 2 ^ 32;
  left : (k : ℕ) → l.t ≤ k → number_at l.counts k ≡ number_at l.fn.counts k;
}
