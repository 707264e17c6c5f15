use Rattle.std.proofs.Common.{rules, ◌≡◌, ◌<◌, Err, length, subst, sym}
use Rattle.std.specs.Prelude.{slice_index}
use Rattle.rg_integers.specs.Range.{InRange}
use Rattle.rg_integers.specs.Sum.{number_at}
use Rattle.rg_integers.proofs.Casts.{back}
use Rattle.rg_folds.specs.Fold.{ratio_of, shown_result}
use Rattle.rg_folds.specs.Substitution.{free_labels}
use Rattle.rg_cycles.specs.View.{labels_of, cycle_of}
use Rattle.rg_cycles.proofs.Folding.{free_below, leads_end, leads_with, passes_with, stepped}
use Rattle.rg_cycles.proofs.Counted.{counted_start, other_below, other_outside}
use Rattle.rg_folds.proofs.Folding.{whole_is}
use Rattle.rg_cycles.proofs.substitution.coefficient.Goals as goal
use Rattle.rg_cycles.proofs.substitution.coefficient.Goals.{in-Some+in_ok-sum, in_default}

pub bounds-counts-own : goal.bounds-counts-own
bounds-counts-own c = rw (c.free.ensures, c.requires.counts) (free_below (labels_of c.args.basis.now) (cycle_of c.args.basis.now) c.args.index c.requires.index)

pub loop-t-init : goal.loop-t-init
loop-t-init c =
    let f = slice_index (free_labels (labels_of c.args.basis.now) (cycle_of c.args.basis.now)) c.args.index in
    let fits = c.requires.in_range f (rw c.requires.counts (free_below (labels_of c.args.basis.now) (cycle_of c.args.basis.now) c.args.index c.requires.index)) in
    let z = back (number_at c.args.counts.now f) fits in
    let v = rw (c.free.ensures, z) at c.new-sum.ensures in
    counted_start c.args.basis.now c.args.counts.now c.args.index c.requires.index (ratio_of c.new-sum.result) c.args.others.now fits c.requires.others (whole_is c.new-sum.result _ v)

pub relation-requires : goal.relation-requires
relation-requires c = other_below c.args.basis.now c.args.counts.now c.args.others.now c.loop-t.t-index c.requires.others c.loop-t-test.true

pub bounds-counts-t : goal.bounds-counts-t
bounds-counts-t c = rw c.requires.counts (other_below c.args.basis.now c.args.counts.now c.args.others.now c.loop-t.t-index c.requires.others c.loop-t-test.true)

pub with_term-requires-clause-count_in_range : goal.with_term-requires-clause-count_in_range
with_term-requires-clause-count_in_range c =
    let t = slice_index c.args.others.now c.loop-t.t-index in
    let lt : t < length c.args.counts.now = rw c.requires.counts (other_below c.args.basis.now c.args.counts.now c.args.others.now c.loop-t.t-index c.requires.others c.loop-t-test.true) in
    let h = c.requires.in_range t lt in
    subst InRange (sym (back (number_at c.args.counts.now t) h)) h

pub returns-in_err-sum : goal.returns-in_err-sum
returns-in_err-sum c =
    let f = slice_index (free_labels (labels_of c.args.basis.now) (cycle_of c.args.basis.now)) c.args.index in
    let t = slice_index c.args.others.now c.loop-t.t-index in
    let same : c.from_residual.result ≡ Err c.in_err-sum.field-0.0 = search rules in
    let lt : t < length c.args.counts.now = rw c.requires.counts (other_below c.args.basis.now c.args.counts.now c.args.others.now c.loop-t.t-index c.requires.others c.loop-t-test.true) in
    let z = back (number_at c.args.counts.now t) (c.requires.in_range t lt) in
    let step = stepped (labels_of c.args.basis.now) (cycle_of c.args.basis.now) c.args.counts.now t c.args.index c.in-Some.relation.now _
    (ratio_of c.loop-t.sum) (shown_result ratio_of c.with_term.result) c.in-Some.ensures.exact.1 c.requires.index z c.with_term.ensures in
    rw same (passes_with (labels_of c.args.basis.now) (cycle_of c.args.basis.now) c.args.counts.now f
    (ratio_of c.loop-t.sum) c.args.others.now c.loop-t.t-index c.loop-t.invariant c.loop-t-test.true c.in_err-sum.field-0.0 (rw c.in_err-sum.was at step))

pub loop-t-preserved : goal.loop-t-preserved
loop-t-preserved c =
    let f = slice_index (free_labels (labels_of c.args.basis.now) (cycle_of c.args.basis.now)) c.args.index in
    let t = slice_index c.args.others.now c.loop-t.t-index in
    let lt : t < length c.args.counts.now = rw c.requires.counts (other_below c.args.basis.now c.args.counts.now c.args.others.now c.loop-t.t-index c.requires.others c.loop-t-test.true) in
    let z = back (number_at c.args.counts.now t) (c.requires.in_range t lt) in
    elim c.match-relation.branch [
      | in-Some+in_ok-sum w ↦
          let step = stepped (labels_of c.args.basis.now) (cycle_of c.args.basis.now) c.args.counts.now t c.args.index w.in-Some.relation.now _
          (ratio_of c.loop-t.sum) (shown_result ratio_of w.with_term.result) w.in-Some.ensures.exact.1 c.requires.index z w.with_term.ensures in
          rw w.sum-is (leads_with (labels_of c.args.basis.now) (cycle_of c.args.basis.now) c.args.counts.now f
          (ratio_of c.loop-t.sum) c.args.others.now c.loop-t.t-index c.loop-t.invariant c.loop-t-test.true (ratio_of w.in_ok-sum.sum) (rw w.in_ok-sum.was at step))
      | in_default w ↦ absurd (other_outside c.args.basis.now c.args.counts.now c.args.others.now c.loop-t.t-index c.requires.others c.loop-t-test.true w.in_default.ensures.exact)
    ]

pub returns : goal.returns
returns c = leads_end (labels_of c.args.basis.now) (cycle_of c.args.basis.now) c.args.counts.now _ (ratio_of c.loop-t.sum) c.args.others.now c.loop-t.t-index c.loop-t.invariant c.loop-t-test.false
