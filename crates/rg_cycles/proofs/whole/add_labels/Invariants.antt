use Rattle.std.proofs.Common.{◌≡◌, ℕ, ◌<◌, length, drop}
use Rattle.std.specs.Prelude.{slice_index}
use Rattle.rg_integers.specs.Sum.{number_at}
use Rattle.rg_folds.specs.Fold.{whole}
use Rattle.rg_folds.specs.Substitution.{free_labels}
use Rattle.rg_cycles.specs.View.{labels_of, cycle_of}
use Rattle.rg_cycles.specs.WholeSums.{sum_after}
use Rattle.rg_cycles.proofs.Folding.{AddsOn}
use Rattle.rg_cycles.proofs.whole.add_labels.Given as goal

abbrev pub invariant-loop-t : goal.invariant-loop-t
invariant-loop-t l = record {
  one_each : length l.sums ≡ length l.initial.sums;
  adds : (n : ℕ) → n < length l.sums
      → AddsOn (labels_of l.basis) (cycle_of l.basis) l.counts (slice_index (free_labels (labels_of l.basis) (cycle_of l.basis)) n) (whole (number_at l.sums n)) (drop l.t-index l.others);
  sums : (n : ℕ) → n < length l.sums → number_at l.sums n ≡ sum_after l.basis (number_at l.counts) l.others l.t-index n;
}
