use Rattle.std.proofs.Common.{drop, map, Result}
use Rattle.std.specs.Prelude.{ℤ, pos}
use Rattle.rg_integers.specs.Range.{InRange}
use Rattle.rg_integers.specs.declared.term.Wide.{Wide}
use Rattle.rg_folds.specs.Fold.{further, whole_sum}
use Rattle.rg_case_folds.specs.Spreading.{addend_fold}
use Rattle.rg_farkas.specs.View.{row_addend}
use Rattle.rg_farkas.proofs.sums.rows_sum.Given as goal

abbrev pub invariant-loop-row : goal.invariant-loop-row
invariant-loop-row l = record {
  so_far : (r : Result ℤ Wide) → further whole_sum addend_fold l.sum (drop l.row-index (map (row_addend l.state) l.rows)) r → further whole_sum addend_fold (pos 0) (map (row_addend l.state) l.rows) r;
  in_range : InRange l.sum;
}
