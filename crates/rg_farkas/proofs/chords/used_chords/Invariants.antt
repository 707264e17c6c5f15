use Rattle.std.proofs.Common.{◌≡◌, ◌+◌, ◌-◌, ◌++◌, length}
use Rattle.rg_theory.specs.System.{labels}
use Rattle.rg_case_parts.specs.SettingViews.{shown_setting}
use Rattle.rg_folds.specs.Substitution.{is_in, numbers_where}
use Rattle.rg_case_folds.specs.Spreading.{used_chords}
use Rattle.rg_farkas.proofs.chords.used_chords.Given as goal

abbrev pub invariant-loop-chord : goal.invariant-loop-chord
invariant-loop-chord l =
    let s = shown_setting l.setting in
    l.used.items ++ numbers_where (λ c. is_in s.basis.members (labels s.lts + c)) l.chord (length s.basis.kept - l.chord) ≡ used_chords s.lts s.basis
