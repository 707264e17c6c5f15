use Rattle.std.proofs.Common.{◌≡◌, ◌++◌, map, drop}
use Rattle.rg_theory.specs.System.{labels}
use Rattle.rg_case_parts.specs.SettingViews.{shown_case}
use Rattle.rg_folds.specs.Substitution.{dependent_labels}
use Rattle.rg_case_folds.specs.Spreading.{pairs_of}
use Rattle.rg_farkas.specs.Leaves.{share_of, said_in}
use Rattle.rg_farkas.specs.View.{counted_of, pair_count}
use Rattle.rg_farkas.proofs.counts.row_counts.Given as goal

abbrev pub invariant-loop-name : goal.invariant-loop-name
invariant-loop-name l =
    let s = shown_case l.c in
    map counted_of l.counts.items ++ map (pair_count s.tree (said_in s l.above)) (pairs_of (map share_of (drop l.name-index l.named)) (dependent_labels (labels s.lts) s.basis))
    ≡ map (pair_count s.tree (said_in s l.above)) (pairs_of (map share_of l.named) (dependent_labels (labels s.lts) s.basis))
