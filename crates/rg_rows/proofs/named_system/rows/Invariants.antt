use Rattle.std.proofs.Common.{◌≡◌, map, drop, length, List, Result, All}
use Rattle.rg_integers.specs.declared.term.Wide.{Wide}
use Rattle.rg_folds.specs.Fold.{each}
use Rattle.rg_case_folds.specs.Rewriting.{KeptRow, column_count}
use Rattle.rg_cycles.specs.View.{cycle_of}
use Rattle.rg_folds.proofs.Folding.{behind}
use Rattle.rg_rows.specs.View.{kept_row, row_in, fold_of}
use Rattle.rg_rows.proofs.named_system.rows.Given as goal
use Rattle.rg_case_parts.specs.SettingViews.{shown_case}

abbrev pub invariant-loop-name : goal.invariant-loop-name
invariant-loop-name l = record {
  so_far : (r : Result (List KeptRow) Wide)
      → each (fold_of (shown_case l.c)) (drop l.name-index l.names) r
      → each (fold_of (shown_case l.c)) l.names (behind (map kept_row (map row_in l.rows.items)) r);
  one_each : All (λ r. length r.coeffs.items ≡ column_count l.c.setting.lts.now (cycle_of l.c.setting.basis.now) l.c.setting.class) (map row_in l.rows.items);
  few : length l.rows.items ≡ l.name-index;
}
