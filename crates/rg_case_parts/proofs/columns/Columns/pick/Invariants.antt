use Rattle.std.proofs.Common.{◌≡◌, ◌++◌, map, drop}
use Rattle.std.specs.Prelude.{ℤ}
use Rattle.rg_theory.specs.declared.Class.{Class}
use Rattle.rg_theory.specs.System.{System, labels}
use Rattle.rg_folds.specs.Fold.{Ratio, whole}
use Rattle.rg_folds.specs.Substitution.{free_labels}
use Rattle.rg_case_folds.specs.Rewriting.{has_label, pick, columns_of}
use Rattle.rg_cycles.specs.View.{labels_of, cycle_of}
use Rattle.rg_case_parts.specs.ColumnViews.{AreColumns}
use Rattle.rg_case_parts.proofs.columns.Columns.pick.Given as goal

abbrev pub invariant-loop-index : goal.invariant-loop-index
invariant-loop-index g l = (lts : System) (class : Class) (show : g.row.T.Denot → Ratio) (z : ℤ) → labels lts ≡ labels_of l.basis → AreColumns lts class l.self → show l.fn.start ≡ whole z
    → map show l.numbers.items ++ pick (λ t. has_label t lts.arcs) (drop l.index (free_labels (labels_of l.basis) (cycle_of l.basis))) (drop l.index (map show l.free))
    ≡ columns_of lts (cycle_of l.basis) class z (map show l.free)
