use Rattle.std.proofs.Common.{◌≡◌, ◌++◌, map, drop}
use Rattle.rg_case_parts.specs.SettingViews.{shown_setting}
use Rattle.rg_case_folds.specs.Spreading.{chord_arcs}
use Rattle.rg_farkas.proofs.Relations.{used_chord}
use Rattle.rg_farkas.proofs.chords.chord_arcs.Given as goal

abbrev pub invariant-loop-chord : goal.invariant-loop-chord
invariant-loop-chord l =
    let s = shown_setting l.setting in
    l.arcs.items ++ map (used_chord s.lts s.tree s.basis) (drop l.chord-index l.used) ≡ chord_arcs s.lts s.tree s.basis
