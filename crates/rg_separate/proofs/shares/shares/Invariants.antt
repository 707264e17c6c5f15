use Rattle.std.proofs.Common.{◌≡◌, map, drop, length, List, Result}
use Rattle.rg_integers.specs.declared.term.Wide.{Wide}
use Rattle.rg_folds.specs.Fold.{each}
use Rattle.rg_case_folds.specs.Rewriting.{CaseSystem}
use Rattle.rg_case_folds.specs.Spreading.{Share, share_fold}
use Rattle.rg_folds.proofs.Folding.{behind}
use Rattle.rg_branch.specs.View.{weight_of}
use Rattle.rg_rows.specs.Forms.{split_of}
use Rattle.rg_rows.specs.Shown.{ShowsCase}
use Rattle.rg_farkas.specs.Leaves.{share_of}
use Rattle.rg_separate.specs.Casing.{sides_among}
use Rattle.rg_separate.proofs.shares.shares.Given as goal

abbrev pub invariant-loop-row : goal.invariant-loop-row
invariant-loop-row l = record {
  so_far : (case : CaseSystem) → ShowsCase l.named case → (r : Result (List Share) Wide)
      → each (share_fold case l.above (sides_among (map split_of l.named.forms) l.above)) (drop l.row-index (map weight_of l.weights)) r
      → each (share_fold case l.above (sides_among (map split_of l.named.forms) l.above)) (map weight_of l.weights) (behind (map share_of l.shares.items) r);
  one_each : length l.shares.items ≡ l.row-index;
}
