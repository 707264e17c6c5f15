use Rattle.std.proofs.Common.{◌+◌, ◌-◌, nat_lt, not, ◌&&◌, length, ap, sym, ◌∙◌}
use Rattle.std.specs.Prelude.{slice_index, pos}
use Rattle.std.specs.Ordering.{int_eq}
use Rattle.rg_integers.specs.Sum.{number_at}
use Rattle.rg_integers.proofs.Casts.{back, zero_of_bits}
use Rattle.rg_cycles.proofs.Numbers.{taken_more, left_more, differs_from_zero, is_chord, is_label, is_unused, chord_within}
use Rattle.rg_feasible.proofs.RowTerms.{shown_number}
use Rattle.rg_cycles.proofs.reading.chord_numbers.Goals as goal
use Rattle.rg_cycles.proofs.reading.chord_numbers.Goals.{then-member-labels+then-number-ne0+in_ok-push, else-member-labels, else-member-labels-via-then-member-labels+else-number-ne0, else-member-labels-via-else-member-labels}

pub bounds-kept-member : goal.bounds-kept-member
bounds-kept-member c = chord_within c.args.members.now c.args.labels (length c.args.kept.now) c.loop-index.index c.loop-index-test.true c.requires.rows c.if-member-labels.true

pub loop-index-preserved : goal.loop-index-preserved
loop-index-preserved c = λ k e.
    let p = c.loop-index.index in
    let m = slice_index c.args.members.now c.loop-index.index in
    let z = number_at c.args.numbers.now (c.loop-index.index + 2) in
    let r = c.requires.in_range (c.loop-index.index + 2) in
    let is = shown_number c.args.members.now k c.args.numbers.now c.loop-index.index e c.loop-index-test.true in
    let left = left_more (λ n. (slice_index c.args.kept.now (n - c.args.labels), k.coefficient n))
    (λ n. not (nat_lt n c.args.labels) && not (int_eq (k.coefficient n) (pos 0))) c.args.members.now c.loop-index.index c.loop-index.chords.items
    c.loop-index-test.true (c.loop-index.invariant k e) in
    elim c.if-member-labels.branch [
      | then-member-labels+then-number-ne0+in_ok-push w ↦ rw (w.chords-is, w.in_ok-push.ensures.items)
          (taken_more (λ n. (slice_index c.args.kept.now (n - c.args.labels), k.coefficient n))
          (λ n. not (nat_lt n c.args.labels) && not (int_eq (k.coefficient n) (pos 0))) c.args.members.now c.loop-index.index c.loop-index.chords.items
          c.loop-index-test.true (c.loop-index.invariant k e)
          (is_chord c.args.labels m (k.coefficient m) w.if-member-labels.true (λ q. differs_from_zero z r w.if-number-ne0.true (is ∙ q))) _
          (ap (λ y. (slice_index c.args.kept.now (m - c.args.labels), y)) (back z r ∙ is)))
      | else-member-labels w ↦ elim w.else-member-labels.branch [
        | else-member-labels-via-then-member-labels+else-number-ne0 w' ↦ rw w.chords-is (left (is_unused c.args.labels m (k.coefficient m) (sym is ∙ zero_of_bits z r w'.if-number-ne0.false)))
        | else-member-labels-via-else-member-labels w' ↦ rw w.chords-is (left (is_label c.args.labels m (k.coefficient m) w'.if-member-labels.false))
      ]
    ]
