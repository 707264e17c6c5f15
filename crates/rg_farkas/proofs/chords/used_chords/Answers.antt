use Rattle.std.proofs.Common.{◌+◌, ◌<◌, length, ap, ap₂, subst, sym, ◌∙◌}
use Rattle.rg_theory.specs.System.{labels}
use Rattle.rg_case_parts.specs.SettingViews.{shown_setting}
use Rattle.rg_folds.specs.Substitution.{is_in}
use Rattle.rg_case_folds.specs.Spreading.{used_chords}
use Rattle.rg_folds.proofs.Folding.{number_taken, number_left}
use Rattle.rg_farkas.proofs.chords.used_chords.Goals as goal
use Rattle.rg_farkas.proofs.chords.used_chords.Goals.{then-is_member+in_ok-push, else-is_member}

pub loop-chord-preserved : goal.loop-chord-preserved
loop-chord-preserved c =
    let s = shown_setting c.args.setting in
    let lt = subst (λ l. c.loop-chord.chord < length l) c.kept.ensures c.loop-chord-test.true in
    let e = sym (c.is_member.ensures ∙ ap₂ is_in c.members.ensures (ap (λ n. n + c.loop-chord.chord) c.labels-labels.ensures.value)) in
    elim c.if-is_member.branch [
      | then-is_member+in_ok-push w ↦ rw (w.used-is, w.in_ok-push.ensures.items)
          (number_taken (λ u. is_in s.basis.members (labels s.lts + u))
          (length s.basis.kept) c.loop-chord.chord c.loop-chord.used.items
          (used_chords s.lts s.basis) c.loop-chord.invariant lt (e ∙ w.if-is_member.true))
      | else-is_member w ↦ rw w.used-is (number_left (λ u. is_in s.basis.members (labels s.lts + u))
          (length s.basis.kept) c.loop-chord.chord c.loop-chord.used.items
          (used_chords s.lts s.basis) c.loop-chord.invariant lt (e ∙ w.if-is_member.false))
    ]
