use Rattle.std.proofs.Common.{rules, ◌≡◌, ◌+◌, Err, Ok, sym, ◌∙◌}
use Rattle.rg_theory.specs.System.{labels}
use Rattle.rg_integers.proofs.Casts.{zero_of_bits}
use Rattle.rg_folds.specs.Fold.{ratio_of}
use Rattle.rg_folds.proofs.FoldLemmas.{add_step}
use Rattle.rg_case_parts.specs.SettingViews.{shown_setting}
use Rattle.rg_farkas.specs.View.{count_fold}
use Rattle.rg_farkas.proofs.ChordNumbers.{IsDependent, first_count, rest_count, no_counts, first_fails, first_made, next_fails, next_unjoined, next_made, counts_end}
use Rattle.rg_cycles.proofs.AddsNothing.{plus_none}
use Rattle.rg_farkas.proofs.chords.chord_sum.Goals as goal
use Rattle.rg_farkas.proofs.chords.chord_sum.Goals.{then-numerator-ne0+in_ok-sum-2, else-numerator-ne0}

pub returns-in_default : goal.returns-in_default
returns-in_default c =
    let s = shown_setting c.args.setting in
    no_counts (count_fold s.basis (labels s.lts + c.args.chord)) c.args.counts.now c.new.result c.in_default.ensures.cases c.new.ensures

pub chord_term-requires-clause-label : goal.chord_term-requires-clause-label
chord_term-requires-clause-label c =
    let s = shown_setting c.args.setting in
    (first_count (IsDependent (labels s.lts) s.basis) c.args.counts.now c.in-Some.first.now c.in-Some.rest.now c.in-Some.ensures.cases.0 c.requires.counts).0

pub chord_term-requires-clause-dependent : goal.chord_term-requires-clause-dependent
chord_term-requires-clause-dependent c =
    let s = shown_setting c.args.setting in
    (first_count (IsDependent (labels s.lts) s.basis) c.args.counts.now c.in-Some.first.now c.in-Some.rest.now c.in-Some.ensures.cases.0 c.requires.counts).1

pub returns-in_err-sum : goal.returns-in_err-sum
returns-in_err-sum c =
    let s = shown_setting c.args.setting in
    let same : c.from_residual.result ≡ Err c.in_err-sum.field-0.0 = search rules in
    rw same (first_fails (count_fold s.basis (labels s.lts + c.args.chord)) c.args.counts.now c.in-Some.first.now c.in-Some.rest.now c.in-Some.ensures.cases.0
    c.in_err-sum.field-0.0 c.in_err-sum.ensures)

pub loop-pair-init : goal.loop-pair-init
loop-pair-init c =
    let s = shown_setting c.args.setting in
    first_made (count_fold s.basis (labels s.lts + c.args.chord)) c.args.counts.now c.in-Some.first.now c.in-Some.rest.now c.in-Some.ensures.cases.0 (ratio_of c.in_ok-sum.sum) c.in_ok-sum.ensures

pub chord_term-requires-in-loop-pair-clause-label : goal.chord_term-requires-in-loop-pair-clause-label
chord_term-requires-in-loop-pair-clause-label c =
    let s = shown_setting c.args.setting in
    (rest_count (IsDependent (labels s.lts) s.basis) c.args.counts.now c.in-Some.first.now c.in-Some.rest.now c.in-Some.ensures.cases.0
    c.requires.counts c.loop-pair.pair-index c.pair-item.result c.loop-pair-test.true c.pair-item.is).0

pub chord_term-requires-in-loop-pair-clause-dependent : goal.chord_term-requires-in-loop-pair-clause-dependent
chord_term-requires-in-loop-pair-clause-dependent c =
    let s = shown_setting c.args.setting in
    (rest_count (IsDependent (labels s.lts) s.basis) c.args.counts.now c.in-Some.first.now c.in-Some.rest.now c.in-Some.ensures.cases.0
    c.requires.counts c.loop-pair.pair-index c.pair-item.result c.loop-pair-test.true c.pair-item.is).1

pub returns-in_err-term : goal.returns-in_err-term
returns-in_err-term c =
    let s = shown_setting c.args.setting in
    let same : c.from_residual-in_err-term.result ≡ Err c.in_err-term.field-0.0 = search rules in
    rw same (next_fails (count_fold s.basis (labels s.lts + c.args.chord)) c.args.counts.now c.in-Some.rest.now c.loop-pair.pair-index
    c.pair-item.result c.loop-pair-test.true c.pair-item.is (ratio_of c.loop-pair.sum) c.loop-pair.invariant c.in_err-term.field-0.0 c.in_err-term.ensures)

pub returns-in_err-sum-2 : goal.returns-in_err-sum-2
returns-in_err-sum-2 c =
    let s = shown_setting c.args.setting in
    let same : c.from_residual-in_err-sum-2.result ≡ Err c.in_err-sum-2.field-0.0 = search rules in
    rw same (next_unjoined (count_fold s.basis (labels s.lts + c.args.chord)) c.args.counts.now c.in-Some.rest.now c.loop-pair.pair-index
    c.pair-item.result c.loop-pair-test.true c.pair-item.is (ratio_of c.loop-pair.sum) c.loop-pair.invariant
    (ratio_of c.in_ok-term.term) c.in_err-sum-2.field-0.0 c.in_ok-term.ensures
    (add_step c.loop-pair.sum c.in_ok-term.term (Err c.in_err-sum-2.field-0.0) c.in_err-sum-2.ensures))

pub loop-pair-preserved : goal.loop-pair-preserved
loop-pair-preserved c =
    let s = shown_setting c.args.setting in
    elim c.if-numerator-ne0.branch [
      | then-numerator-ne0+in_ok-sum-2 w ↦
          rw w.sum-is (next_made (count_fold s.basis (labels s.lts + c.args.chord)) c.args.counts.now c.in-Some.rest.now
          c.loop-pair.pair-index c.pair-item.result c.loop-pair-test.true c.pair-item.is (ratio_of c.loop-pair.sum) c.loop-pair.invariant
          (ratio_of c.in_ok-term.term) (ratio_of w.in_ok-sum-2.sum) c.in_ok-term.ensures
          (add_step c.loop-pair.sum c.in_ok-term.term (Ok w.in_ok-sum-2.sum) w.in_ok-sum-2.ensures))
      | else-numerator-ne0 w ↦
          let none = sym c.numerator.ensures.value ∙ zero_of_bits c.numerator.result c.numerator.ensures.in_range w.if-numerator-ne0.false in
          rw w.sum-is (next_made (count_fold s.basis (labels s.lts + c.args.chord)) c.args.counts.now c.in-Some.rest.now
          c.loop-pair.pair-index c.pair-item.result c.loop-pair-test.true c.pair-item.is (ratio_of c.loop-pair.sum) c.loop-pair.invariant
          (ratio_of c.in_ok-term.term) (ratio_of c.loop-pair.sum) c.in_ok-term.ensures (plus_none c.loop-pair.sum c.in_ok-term.term none))
    ]

pub returns : goal.returns
returns c =
    let s = shown_setting c.args.setting in
    counts_end (count_fold s.basis (labels s.lts + c.args.chord)) c.args.counts.now c.in-Some.rest.now c.loop-pair.pair-index (ratio_of c.loop-pair.sum) c.loop-pair.invariant c.loop-pair-test.false
