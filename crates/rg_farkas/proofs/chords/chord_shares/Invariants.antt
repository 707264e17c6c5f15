use Rattle.std.proofs.Common.{map, drop, List, ◌+◌, Result}
use Rattle.rg_theory.specs.System.{labels}
use Rattle.rg_integers.specs.declared.term.Wide.{Wide}
use Rattle.rg_folds.specs.Fold.{each, Ratio, ratio_of}
use Rattle.rg_case_parts.specs.SettingViews.{shown_setting}
use Rattle.rg_folds.proofs.Folding.{behind}
use Rattle.rg_farkas.specs.View.{counted_of, counts_fold}
use Rattle.rg_farkas.proofs.chords.chord_shares.Given as goal

abbrev pub invariant-loop-chord : goal.invariant-loop-chord
invariant-loop-chord l =
    let s = shown_setting l.setting in
    (r : Result (List Ratio) Wide) → each (λ c. counts_fold s.basis (map counted_of l.counts) (labels s.lts + c))
    (drop l.chord-index l.used) r → each (λ c. counts_fold s.basis (map counted_of l.counts) (labels s.lts + c)) l.used
    (behind (map ratio_of l.shares.items) r)
