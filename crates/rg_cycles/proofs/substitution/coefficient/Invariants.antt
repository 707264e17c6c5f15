use Rattle.std.proofs.Common.{drop}
use Rattle.std.specs.Prelude.{slice_index}
use Rattle.rg_folds.specs.Fold.{ratio_of}
use Rattle.rg_folds.specs.Substitution.{free_labels}
use Rattle.rg_cycles.specs.View.{labels_of, cycle_of}
use Rattle.rg_cycles.proofs.Folding.{AddsOn}
use Rattle.rg_cycles.proofs.substitution.coefficient.Given as goal

abbrev pub invariant-loop-t : goal.invariant-loop-t
invariant-loop-t l = AddsOn (labels_of l.basis) (cycle_of l.basis) l.counts (slice_index (free_labels (labels_of l.basis) (cycle_of l.basis)) l.index) (ratio_of l.sum) (drop l.t-index l.others)
