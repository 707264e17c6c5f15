use Rattle.std.proofs.Common.{◌≡◌, ◌<◌, length, ap, refl, subst, sym, ◌∙◌}
use Rattle.std.specs.Prelude.{slice_index, pos, ◌+ℤ◌, ◌*ℤ◌}
use Rattle.std.proofs.lemmas.List.{length-map, get_or-map}
use Rattle.rg_integers.specs.Sum.{number_at}
use Rattle.rg_folds.specs.Fold.{whole}
use Rattle.rg_folds.specs.Substitution.{free_labels}
use Rattle.rg_cycles.specs.View.{labels_of, cycle_of}
use Rattle.rg_cycles.proofs.Folding.{free_below, leads_with, leads_end}
use Rattle.rg_cycles.specs.WholeSums.{numbers_of_label}
use Rattle.rg_cycles.proofs.WholeSteps.{sum_none, sum_more, label_is_short}
use Rattle.rg_cycles.proofs.Counted.{counted_start, other_below, other_outside}
use Rattle.rg_cycles.proofs.whole.add_labels.Goals as goal

pub loop-t-init : goal.loop-t-init
loop-t-init c = record {
  one_each = refl;
  adds = λ n lt.
      (let free = free_labels (labels_of c.args.basis.now) (cycle_of c.args.basis.now) in
      let below : n < length free = subst (λ m. n < m) (ap length c.requires.own ∙ length-map free (number_at c.args.counts.now)) lt in
      let own : number_at c.args.sums.now n ≡ number_at c.args.counts.now (slice_index free n) =
      ap (λ l. number_at l n) c.requires.own ∙ get_or-map (number_at c.args.counts.now) free n 0 (pos 0) below in
      let fits = c.requires.in_range (slice_index free n) (subst (λ m. slice_index free n < m) (sym c.requires.counts) (free_below (labels_of c.args.basis.now) (cycle_of c.args.basis.now) n below)) in
      counted_start c.args.basis.now c.args.counts.now n below (whole (number_at c.args.sums.now n)) c.args.others.now fits c.requires.others (ap whole own));
  sums = λ n lt.
      (let free = free_labels (labels_of c.args.basis.now) (cycle_of c.args.basis.now) in
      let below : n < length free = subst (λ m. n < m) (ap length c.requires.own ∙ length-map free (number_at c.args.counts.now)) lt in
      ap (λ l. number_at l n) c.requires.own ∙ get_or-map (number_at c.args.counts.now) free n 0 (pos 0) below
      ∙ sum_none c.args.basis.now (number_at c.args.counts.now) c.args.others.now n);
}

pub add_label-requires-clause-label : goal.add_label-requires-clause-label
add_label-requires-clause-label c = other_below c.args.basis.now c.args.counts.now c.args.others.now c.loop-t.t-index c.requires.others c.loop-t-test.true

pub add_label-requires-clause-one_each : goal.add_label-requires-clause-one_each
add_label-requires-clause-one_each c = c.loop-t.invariant.one_each ∙ ap length c.requires.own
    ∙ length-map (free_labels (labels_of c.args.basis.now) (cycle_of c.args.basis.now)) (number_at c.args.counts.now)

pub loop-t-preserved : goal.loop-t-preserved
loop-t-preserved c = record {
  one_each = c.add_label.ensures.one_each ∙ c.loop-t.invariant.one_each;
  adds = λ n lt.
      (let below : n < length c.loop-t.sums = subst (λ m. n < m) c.add_label.ensures.one_each lt in
      let free = free_labels (labels_of c.args.basis.now) (cycle_of c.args.basis.now) in
      leads_with (labels_of c.args.basis.now) (cycle_of c.args.basis.now) c.args.counts.now (slice_index free n) (whole (number_at c.loop-t.sums n)) c.args.others.now c.loop-t.t-index
      (c.loop-t.invariant.adds n below) c.loop-t-test.true (whole (number_at c.add_label.new.sums n)) (c.add_label.ensures.added c.if-not-add_label.false n below));
  sums = λ n lt.
      (let below : n < length c.loop-t.sums = subst (λ m. n < m) c.add_label.ensures.one_each lt in
      c.add_label.ensures.sums c.if-not-add_label.false n below
      ∙ ap (λ s. s +ℤ (number_at c.args.counts.now (slice_index c.args.others.now c.loop-t.t-index) *ℤ numbers_of_label c.args.basis.now (slice_index c.args.others.now c.loop-t.t-index) n))
      (c.loop-t.invariant.sums n below)
      ∙ sym (sum_more c.args.basis.now (number_at c.args.counts.now) c.args.others.now c.loop-t.t-index n));
}

pub returns-then-not-add_label-clause-stopped : goal.returns-then-not-add_label-clause-stopped
returns-then-not-add_label-clause-stopped c = λ _ short.
    c.add_label.ensures.stopped c.if-not-add_label.true
    (other_outside c.args.basis.now c.args.counts.now c.args.others.now c.loop-t.t-index c.requires.others c.loop-t-test.true)
    (label_is_short c.args.basis.now (number_at c.args.counts.now) c.args.others.now c.loop-t.t-index c.loop-t.sums c.requires.others short c.loop-t-test.true
    (c.loop-t.invariant.one_each ∙ ap length c.requires.own ∙ length-map (free_labels (labels_of c.args.basis.now) (cycle_of c.args.basis.now)) (number_at c.args.counts.now))
    c.loop-t.invariant.sums)

pub returns-clause-added : goal.returns-clause-added
returns-clause-added c = λ _ n lt.
    (let free = free_labels (labels_of c.args.basis.now) (cycle_of c.args.basis.now) in
    leads_end (labels_of c.args.basis.now) (cycle_of c.args.basis.now) c.args.counts.now (slice_index free n)
    (whole (number_at c.loop-t.sums n)) c.args.others.now c.loop-t.t-index (c.loop-t.invariant.adds n lt) c.loop-t-test.false)
