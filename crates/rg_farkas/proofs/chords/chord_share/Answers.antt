use Rattle.std.proofs.Common.{rules, ◌≡◌, ◌+◌, Err, map}
use Rattle.rg_theory.specs.System.{labels}
use Rattle.rg_folds.specs.Fold.{ratio_of}
use Rattle.rg_case_parts.specs.SettingViews.{shown_setting}
use Rattle.rg_farkas.specs.View.{counted_of}
use Rattle.rg_farkas.proofs.ChordNumbers.{share_unsummed, share_made}
use Rattle.rg_farkas.proofs.chords.chord_share.Goals as goal

pub returns-in_err-sum : goal.returns-in_err-sum
returns-in_err-sum c =
    let s = shown_setting c.args.setting in
    let same : c.from_residual.result ≡ Err c.in_err-sum.field-0.0 = search rules in
    rw same (share_unsummed s.basis (map counted_of c.args.counts.now) (labels s.lts + c.args.chord) c.in_err-sum.field-0.0 c.in_err-sum.ensures)

pub returns : goal.returns
returns c =
    let s = shown_setting c.args.setting in
    rw c.opposite.ensures (share_made s.basis (map counted_of c.args.counts.now) (labels s.lts + c.args.chord) (ratio_of c.in_ok-sum.sum) c.in_ok-sum.ensures)
