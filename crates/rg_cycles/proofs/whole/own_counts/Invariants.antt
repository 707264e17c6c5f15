use Rattle.std.proofs.Common.{◌≡◌, map, take}
use Rattle.rg_integers.specs.Sum.{number_at}
use Rattle.rg_folds.specs.Substitution.{free_labels}
use Rattle.rg_cycles.specs.View.{labels_of, cycle_of}
use Rattle.rg_cycles.proofs.whole.own_counts.Given as goal

abbrev pub invariant-loop-label : goal.invariant-loop-label
invariant-loop-label l = l.own.items ≡ map (number_at l.counts) (take l.label-index (free_labels (labels_of l.basis) (cycle_of l.basis)))
