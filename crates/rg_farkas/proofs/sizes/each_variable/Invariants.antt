use Rattle.std.proofs.Common.{drop, List, Result}
use Rattle.std.specs.Prelude.{ℤ, pos}
use Rattle.rg_integers.specs.declared.term.Wide.{Wide}
use Rattle.rg_folds.specs.Fold.{each, further, whole_sum}
use Rattle.rg_folds.proofs.Folding.{behind}
use Rattle.rg_farkas.specs.View.{size_fold, coefficient_at}
use Rattle.rg_farkas.proofs.sizes.each_variable.Given as goal

abbrev pub invariant-loop-variable : goal.invariant-loop-variable
invariant-loop-variable l = (sums : List ℤ)
    × ((r : Result (List ℤ) Wide) → each (λ v. further whole_sum (size_fold (coefficient_at v)) (pos 0) l.rows)
    (drop l.variable-index l.variable-items) r → each (λ v. further whole_sum (size_fold (coefficient_at v)) (pos 0) l.rows)
    l.variable-items (behind sums r))
