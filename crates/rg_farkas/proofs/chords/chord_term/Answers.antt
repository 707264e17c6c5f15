use Rattle.std.proofs.Common.{rules, ◌≡◌, ◌+◌, Err, ap, subst, refl, ◌∙◌}
use Rattle.std.specs.Prelude.{slice_index}
use Rattle.rg_theory.specs.System.{labels}
use Rattle.rg_integers.proofs.Casts.{back, zero_of_bits}
use Rattle.rg_integers.proofs.Order.{positive_differs}
use Rattle.rg_cycles.specs.Basis.{ShowsRelation, number_with}
use Rattle.rg_case_parts.specs.SettingViews.{shown_setting}
use Rattle.rg_folds.proofs.Folding.{whole_is}
use Rattle.rg_farkas.specs.View.{counted_of}
use Rattle.rg_farkas.proofs.ChordNumbers.{chord_number_is, count_first, count_made, number_in_range, no_count, no_number}
use Rattle.rg_farkas.proofs.chords.chord_term.Goals as goal

pub returns-then-pair-eq0 : goal.returns-then-pair-eq0
returns-then-pair-eq0 c =
    let s = shown_setting c.args.setting in
    let r = c.in-Some.relation.now in
    let shows = subst (λ k. ShowsRelation k s.basis c.args.pair.now.label r) c.requires.labels c.in-Some.ensures.exact.1 in
    let index = slice_index s.basis.kept c.args.chord in
    let number = chord_number_is (labels s.lts) c.requires.basis.0 s.basis c.args.pair.now.label c.args.chord r c.requires.basis.1 shows c.requires.chord c.requires.member in
    let none = zero_of_bits c.args.pair.now.count c.args.pair.now.in_range c.if-pair-eq0.true in
    no_count s.basis (labels s.lts + c.args.chord) (counted_of c.args.pair.now) c.args.pair.now.multiplier c.new.result
    (number_with r.chords.items index) r.d refl c.new.ensures (positive_differs r.d c.in-Some.ensures.in_range.positive) number shows.d none
    (number_in_range r.chords.items index c.in-Some.ensures.in_range.chords) c.in-Some.ensures.in_range.d

pub returns-in_err-product : goal.returns-in_err-product
returns-in_err-product c =
    let s = shown_setting c.args.setting in
    let same : c.from_residual.result ≡ Err c.in_err-product.field-0.0 = search rules in
    let n = back c.args.pair.now.count c.args.pair.now.in_range in
    let whole_count = whole_is c.new-count.result c.args.pair.now.count (rw n at c.new-count.ensures) in
    rw same (count_first s.basis (labels s.lts + c.args.chord) (counted_of c.args.pair.now) c.args.pair.now.multiplier c.new-count.result refl whole_count
    c.in_err-product.field-0.0 c.in_err-product.ensures.product)

pub returns-then-number-eq0 : goal.returns-then-number-eq0
returns-then-number-eq0 c =
    let s = shown_setting c.args.setting in
    let n = back c.args.pair.now.count c.args.pair.now.in_range in
    let whole_count = whole_is c.new-count.result c.args.pair.now.count (rw n at c.new-count.ensures) in
    let r = c.in-Some.relation.now in
    let shows = subst (λ k. ShowsRelation k s.basis c.args.pair.now.label r) c.requires.labels c.in-Some.ensures.exact.1 in
    let number = c.chord_number-number.ensures.value ∙ ap (λ l. number_with r.chords.items (slice_index l c.args.chord)) c.kept.ensures
    ∙ chord_number_is (labels s.lts) c.requires.basis.0 s.basis c.args.pair.now.label c.args.chord r c.requires.basis.1 shows
    c.requires.chord c.requires.member in
    let none = zero_of_bits c.chord_number-number.result c.chord_number-number.ensures.in_range c.if-number-eq0.true in
    no_number s.basis (labels s.lts + c.args.chord) (counted_of c.args.pair.now) c.args.pair.now.multiplier c.new-then-number-eq0.result
    c.chord_number-number.result r.d refl c.new-then-number-eq0.ensures (positive_differs r.d c.in-Some.ensures.in_range.positive) number shows.d c.new-count.result
    c.in_ok-product.product whole_count c.in_ok-product.ensures.product none

pub returns : goal.returns
returns c =
    let s = shown_setting c.args.setting in
    let n = back c.args.pair.now.count c.args.pair.now.in_range in
    let whole_count = whole_is c.new-count.result c.args.pair.now.count (rw n at c.new-count.ensures) in
    let r = c.in-Some.relation.now in
    let shows = subst (λ k. ShowsRelation k s.basis c.args.pair.now.label r) c.requires.labels c.in-Some.ensures.exact.1 in
    let number = c.chord_number-number.ensures.value ∙ ap (λ l. number_with r.chords.items (slice_index l c.args.chord)) c.kept.ensures
    ∙ chord_number_is (labels s.lts) c.requires.basis.0 s.basis c.args.pair.now.label c.args.chord r c.requires.basis.1 shows
    c.requires.chord c.requires.member in
    let z = back c.chord_number-number.result c.chord_number-number.ensures.in_range in
    let d = back r.d c.in-Some.ensures.in_range.d in
    count_made s.basis (labels s.lts + c.args.chord)
    (counted_of c.args.pair.now) c.args.pair.now.multiplier c.new-count.result c.new-2.result c.chord_number-number.result r.d refl whole_count
    (rw (z, d) at c.new-2.ensures) (positive_differs r.d c.in-Some.ensures.in_range.positive) number shows.d c.in_ok-product.product c.mul-2.result
    c.in_ok-product.ensures.product c.mul-2.ensures.product
