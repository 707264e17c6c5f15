use Rattle.std.proofs.Common.{◌≡◌, ◌++◌, map, drop}
use Rattle.rg_folds.specs.Fold.{ratio_of}
use Rattle.rg_cert_data.specs.Sums.{terms_in}
use Rattle.rg_farkas.specs.View.{counted_of, label_count}
use Rattle.rg_farkas.proofs.counts.push_counts.Given as goal

abbrev pub invariant-loop-label : goal.invariant-loop-label
invariant-loop-label l = map counted_of l.counts.items ++ map (label_count l.tree.arcs (terms_in l.expression.terms) (ratio_of l.multiplier))
    (drop l.label-index l.labels) ≡ map counted_of l.initial.counts.items ++ map (label_count l.tree.arcs (terms_in l.expression.terms) (ratio_of l.multiplier)) l.labels
