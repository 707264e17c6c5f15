use Rattle.std.proofs.Common.{drop, Result}
use Rattle.std.specs.Prelude.{ℤ}
use Rattle.rg_integers.specs.Range.{InRange}
use Rattle.rg_integers.specs.declared.term.Wide.{Wide}
use Rattle.rg_folds.specs.Fold.{further, whole_sum}
use Rattle.rg_case_folds.specs.Spreading.{addend_fold, leaving}
use Rattle.rg_farkas.specs.View.{arc_times}
use Rattle.rg_farkas.proofs.sums.leaving_sum.Given as goal

abbrev pub invariant-loop-k : goal.invariant-loop-k
invariant-loop-k l = record {
  so_far : (r : Result ℤ Wide) → further whole_sum addend_fold l.sum (leaving l.state (arc_times (drop l.k l.arcs) (drop l.k l.multipliers))) r
      → further whole_sum addend_fold l.start (leaving l.state (arc_times l.arcs l.multipliers)) r;
  in_range : InRange l.sum;
}
