use Rattle.std.proofs.Common.{map, drop, ◌+◌, Result}
use Rattle.std.specs.Prelude.{pos}
use Rattle.rg_theory.specs.System.{labels}
use Rattle.rg_integers.specs.declared.term.Wide.{Wide}
use Rattle.rg_folds.specs.Fold.{further, joined, add, whole, Ratio, ratio_of}
use Rattle.rg_case_parts.specs.SettingViews.{shown_setting}
use Rattle.rg_farkas.specs.View.{counted_of, count_fold}
use Rattle.rg_farkas.proofs.chords.chord_sum.Given as goal

abbrev pub invariant-loop-pair : goal.invariant-loop-pair
invariant-loop-pair l =
    let s = shown_setting l.setting in
    (r : Result Ratio Wide) → further add (count_fold s.basis (labels s.lts + l.chord)) (ratio_of l.sum) (drop l.pair-index (map counted_of l.rest)) r
    → joined add (count_fold s.basis (labels s.lts + l.chord)) (whole (pos 0)) (map counted_of l.counts) r
