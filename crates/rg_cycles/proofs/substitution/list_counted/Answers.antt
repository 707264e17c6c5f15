use Rattle.std.proofs.Common.{Bool, not, ◌&&◌, ap, sym, ◌∙◌, ◌<◌, ℕ}
use Rattle.std.specs.Prelude.{pos}
use Rattle.std.specs.Ordering.{int_eq}
use Rattle.std.specs.Int.{w128, cast_unsigned}
use Rattle.rg_integers.specs.Sum.{number_at}
use Rattle.rg_integers.proofs.Casts.{back, zero_of_bits}
use Rattle.rg_folds.specs.Substitution.{is_in}
use Rattle.rg_folds.proofs.Folding.{number_taken, number_left}
use Rattle.rg_cycles.specs.View.{labels_of, cycle_of, counted_labels}
use Rattle.rg_cycles.proofs.Counted.{is_counted, is_zero, is_inside}
use Rattle.rg_cycles.proofs.substitution.list_counted.Goals as goal
use Rattle.rg_cycles.proofs.substitution.list_counted.Goals.{then-counts-t-ne0+then-not-is_free+in_ok-push, else-counts-t-ne0, else-counts-t-ne0-via-then-counts-t-ne0+else-not-is_free, else-counts-t-ne0-via-else-counts-t-ne0}

pub loop-t-preserved : goal.loop-t-preserved
loop-t-preserved c =
    let n = labels_of c.args.basis.now in
    let counts = number_at c.args.counts.now in
    let test : ℕ → Bool = λ u. not (int_eq (counts u) (pos 0)) && not (is_in (cycle_of c.args.basis.now).members u) in
    let lt : c.loop-t.t < n = rw (sym c.requires.counts) c.loop-t-test.true in
    let z = back (counts c.loop-t.t) (c.requires.in_range c.loop-t.t c.loop-t-test.true) in
    elim c.if-counts-t-ne0.branch [
      | then-counts-t-ne0+then-not-is_free+in_ok-push w ↦ rw (w.counted-is, w.in_ok-push.ensures.items)
          (number_taken test n c.loop-t.t c.loop-t.counted.items (counted_labels c.args.basis.now counts) c.loop-t.invariant lt
          (is_counted (counts c.loop-t.t) _ (λ e. w.if-counts-t-ne0.true (ap (cast_unsigned w128) e)) (sym w.is_free.ensures ∙ w.if-not-is_free.true)))
      | else-counts-t-ne0 w ↦ rw w.counted-is
          (number_left test n c.loop-t.t c.loop-t.counted.items (counted_labels c.args.basis.now counts) c.loop-t.invariant lt
          (elim w.else-counts-t-ne0.branch [
            | else-counts-t-ne0-via-then-counts-t-ne0+else-not-is_free v ↦ is_inside (not (int_eq (counts c.loop-t.t) (pos 0))) _ (sym v.is_free.ensures ∙ v.if-not-is_free.false)
            | else-counts-t-ne0-via-else-counts-t-ne0 v ↦ is_zero (counts c.loop-t.t) _ (zero_of_bits (counts c.loop-t.t) (c.requires.in_range c.loop-t.t c.loop-t-test.true) v.if-counts-t-ne0.false)
          ]))
    ]
