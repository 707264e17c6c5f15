use Rattle.std.proofs.Common.{map, drop, List, Result}
use Rattle.rg_integers.specs.Sum.{number_at}
use Rattle.rg_integers.specs.declared.term.Wide.{Wide}
use Rattle.rg_folds.specs.Fold.{Ratio, ratio_of, each}
use Rattle.rg_folds.specs.Substitution.{free_labels, coefficient_fold}
use Rattle.rg_cycles.specs.View.{labels_of, cycle_of}
use Rattle.rg_folds.proofs.Folding.{behind}
use Rattle.rg_cycles.proofs.substitution.substitute.Given as goal

abbrev pub invariant-loop-index : goal.invariant-loop-index
invariant-loop-index l = (r : Result (List Ratio) Wide)
    → each (coefficient_fold (labels_of l.basis) (cycle_of l.basis) (number_at l.counts)) (drop l.index (free_labels (labels_of l.basis) (cycle_of l.basis))) r
    → each (coefficient_fold (labels_of l.basis) (cycle_of l.basis) (number_at l.counts)) (free_labels (labels_of l.basis) (cycle_of l.basis)) (behind (map ratio_of l.coeffs.items) r)
