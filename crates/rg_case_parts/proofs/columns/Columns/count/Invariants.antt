use Rattle.std.proofs.Common.{◌≡◌, ◌+◌, ◌≤◌, length, drop}
use Rattle.rg_theory.specs.declared.Class.{Class}
use Rattle.rg_theory.specs.System.{System, labels}
use Rattle.rg_folds.specs.Substitution.{free_labels}
use Rattle.rg_case_folds.specs.Rewriting.{has_label, column_count}
use Rattle.rg_cycles.specs.View.{labels_of, cycle_of}
use Rattle.rg_case_parts.specs.ColumnViews.{AreColumns}
use Rattle.rg_case_parts.proofs.Picking.{chosen}
use Rattle.rg_case_parts.proofs.columns.Columns.count.Given as goal

abbrev pub invariant-loop-label : goal.invariant-loop-label
invariant-loop-label l = record {
  total : (lts : System) (class : Class) → labels lts ≡ labels_of l.basis → AreColumns lts class l.self
      → l.count + length (chosen (λ t. has_label t lts.arcs) (drop l.label-index (free_labels (labels_of l.basis) (cycle_of l.basis))))
      ≡ column_count lts (cycle_of l.basis) class;
  few : l.count ≤ l.label-index + 1;
}
