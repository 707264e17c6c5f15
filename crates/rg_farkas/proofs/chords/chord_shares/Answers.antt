use Rattle.std.proofs.Common.{rules, ◌≡◌, ◌+◌, Err, map}
use Rattle.rg_theory.specs.System.{labels}
use Rattle.rg_folds.specs.Fold.{ratio_of}
use Rattle.rg_case_parts.specs.SettingViews.{shown_setting}
use Rattle.rg_fraction.specs.declared.fold_stop.FoldStop.TheVariants as stop
use Rattle.rg_farkas.specs.View.{counted_of, counts_fold}
use Rattle.rg_case_folds.proofs.Items.{item_next, item_fails, items_end, map_push}
use Rattle.rg_farkas.proofs.chords.chord_shares.Goals as goal

pub returns-in_err-share : goal.returns-in_err-share
returns-in_err-share c =
    let s = shown_setting c.args.setting in
    let same : c.from_residual.result ≡ Err (stop.Wide c.in_err-share.field-0.0) = search rules in
    rw same (item_fails (λ u. counts_fold s.basis (map counted_of c.args.counts.now) (labels s.lts + u)) c.args.used.now
    c.loop-chord.chord-index 0 (map ratio_of c.loop-chord.shares.items) c.loop-chord.invariant c.loop-chord-test.true c.in_err-share.field-0.0 c.in_err-share.ensures)

pub loop-chord-preserved : goal.loop-chord-preserved
loop-chord-preserved c =
    let s = shown_setting c.args.setting in
    rw (map_push ratio_of c.loop-chord.shares.items c.push.new.self.items c.in_ok-share.share c.in_ok-push.ensures.items)
    (item_next (λ u. counts_fold s.basis (map counted_of c.args.counts.now) (labels s.lts + u)) c.args.used.now c.loop-chord.chord-index 0
    (map ratio_of c.loop-chord.shares.items) c.loop-chord.invariant c.loop-chord-test.true (ratio_of c.in_ok-share.share) c.in_ok-share.ensures)

pub returns : goal.returns
returns c =
    let s = shown_setting c.args.setting in
    items_end (λ u. counts_fold s.basis (map counted_of c.args.counts.now) (labels s.lts + u)) c.args.used.now c.loop-chord.chord-index 0
    (map ratio_of c.loop-chord.shares.items) c.loop-chord.invariant c.loop-chord-test.false
