use Rattle.std.proofs.Common.{◌≡◌, List, [], All, map, take, drop, reverse, length, Result}
use Rattle.rg_integers.specs.Range.{InRange}
use Rattle.rg_integers.specs.declared.term.Wide.{Wide}
use Rattle.rg_cert_meaning.specs.Expression.{Expression}
use Rattle.rg_cert_meaning.specs.declared.RowName.{RowName}
use Rattle.rg_case_folds.specs.Spreading.{ArcTimes, tree_fold}
use Rattle.rg_farkas.specs.View.{named_of, Tells, arc_times}
use Rattle.rg_farkas.proofs.sums.each_multiplier.Given as goal

abbrev pub invariant-loop-i : goal.invariant-loop-i
invariant-loop-i l = record {
  one_each : length l.multipliers.items ≡ length l.tree;
  in_range : All InRange l.multipliers.items;
  so_far : (expression : RowName → Expression) → All (Tells expression) l.rows → (r : Result (List ArcTimes) Wide)
      → tree_fold expression (map named_of l.rows) (arc_times (drop l.i l.tree) (drop l.i l.multipliers.items)) (reverse (take l.i l.tree)) r
      → tree_fold expression (map named_of l.rows) [] (reverse l.tree) r;
}
