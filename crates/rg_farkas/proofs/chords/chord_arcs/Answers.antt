use Rattle.std.proofs.Common.{◌<◌, length, refl, subst, sym}
use Rattle.std.specs.Prelude.{slice_index}
use Rattle.std.proofs.lemmas.List.Elements.{Contains-get_or}
use Rattle.rg_case_parts.specs.SettingViews.{shown_setting}
use Rattle.rg_case_folds.specs.Spreading.{chord_arcs}
use Rattle.rg_farkas.proofs.Relations.{used_chord}
use Rattle.rg_case_folds.proofs.ChordRows.{kept_place as kept_index}
use Rattle.rg_farkas.proofs.ChordNumbers.{used_at}
use Rattle.rg_farkas.proofs.Steps.{mapped_next}
use Rattle.rg_farkas.proofs.chords.chord_arcs.Goals as goal

pub bounds-kept-chord : goal.bounds-kept-chord
bounds-kept-chord c =
    let s = shown_setting c.args.setting in
    subst (λ l. slice_index c.args.used.now c.loop-chord.chord-index < length l) (sym c.kept.ensures)
    (used_at s.lts s.basis c.args.used.now c.loop-chord.chord-index c.requires.used c.loop-chord-test.true).0

pub bounds-chords-index : goal.bounds-chords-index
bounds-chords-index c =
    let s = shown_setting c.args.setting in
    let i = slice_index c.args.used.now c.loop-chord.chord-index in
    let lt = (used_at s.lts s.basis c.args.used.now c.loop-chord.chord-index c.requires.used c.loop-chord-test.true).0 in
    rw (c.kept.ensures, c.chords.ensures, c.requires.tree.chords) (kept_index s.lts s.tree s.basis.kept (slice_index s.basis.kept i) c.requires.basis.kept (Contains-get_or s.basis.kept i 0 lt))

pub loop-chord-preserved : goal.loop-chord-preserved
loop-chord-preserved c =
    let s = shown_setting c.args.setting in
    rw c.in_ok-push.ensures.items
    (mapped_next (used_chord s.lts s.tree s.basis) c.args.used.now c.loop-chord.chord-index 0 c.loop-chord.arcs.items
    (chord_arcs s.lts s.tree s.basis) c.loop-chord.invariant c.loop-chord-test.true _
    (let k = c.kept.ensures in let a = c.chords.ensures in let t = c.requires.tree.chords in rw (k, a, t) refl))
