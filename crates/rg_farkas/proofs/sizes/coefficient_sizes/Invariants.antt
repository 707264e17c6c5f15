use Rattle.std.proofs.Common.{drop, Result}
use Rattle.std.specs.Prelude.{ℤ, pos}
use Rattle.rg_integers.specs.Range.{InRange}
use Rattle.rg_integers.specs.declared.term.Wide.{Wide}
use Rattle.rg_folds.specs.Fold.{further, whole_sum}
use Rattle.rg_farkas.specs.View.{size_fold, coefficient_at}
use Rattle.rg_farkas.proofs.sizes.coefficient_sizes.Given as goal

abbrev pub invariant-loop-row : goal.invariant-loop-row
invariant-loop-row l = record {
  so_far : (r : Result ℤ Wide) → further whole_sum (size_fold (coefficient_at l.variable)) l.sum (drop l.row-index l.rows) r
      → further whole_sum (size_fold (coefficient_at l.variable)) (pos 0) l.rows r;
  in_range : InRange l.sum;
}
