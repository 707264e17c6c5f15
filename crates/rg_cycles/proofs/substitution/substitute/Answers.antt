use Rattle.std.proofs.Common.{rules, ◌≡◌, ◌<◌, ◌≤◌, Err, map, length, ap, subst, ◌∙◌}
use Rattle.std.proofs.lemmas.List.{map-append}
use Rattle.rg_integers.specs.Sum.{number_at}
use Rattle.rg_folds.specs.Fold.{ratio_of}
use Rattle.rg_folds.specs.Substitution.{free_labels, coefficient_fold}
use Rattle.rg_fraction.specs.declared.fold_stop.FoldStop.TheVariants as stop
use Rattle.rg_cycles.specs.View.{labels_of, cycle_of}
use Rattle.rg_cycles.proofs.Folding.{index_next, index_fails, indices_end}
use Rattle.rg_cycles.proofs.substitution.substitute.Goals as goal

pub returns-in_err-sum : goal.returns-in_err-sum
returns-in_err-sum c =
    let same : c.from_residual-in_err-sum.result ≡ Err (stop.Wide c.in_err-sum.field-0.0) = search rules in
    let lt = subst (λ l. c.loop-index.index < length l) c.free-index-end.ensures c.loop-index-test.true in
    rw same (index_fails (coefficient_fold (labels_of c.args.basis.now) (cycle_of c.args.basis.now) (number_at c.args.counts.now))
    (free_labels (labels_of c.args.basis.now) (cycle_of c.args.basis.now)) c.loop-index.index
    (map ratio_of c.loop-index.coeffs.items) c.loop-index.invariant lt c.in_err-sum.field-0.0 c.in_err-sum.ensures)

pub loop-index-preserved : goal.loop-index-preserved
loop-index-preserved c =
    let lt = subst (λ l. c.loop-index.index < length l) c.free-index-end.ensures c.loop-index-test.true in
    let items : map ratio_of c.push.new.self.items ≡ _ = ap (map ratio_of) c.in_ok-push.ensures.items ∙ map-append ratio_of c.loop-index.coeffs.items _ in
    rw items (index_next (coefficient_fold (labels_of c.args.basis.now) (cycle_of c.args.basis.now) (number_at c.args.counts.now))
    (free_labels (labels_of c.args.basis.now) (cycle_of c.args.basis.now)) c.loop-index.index (map ratio_of c.loop-index.coeffs.items) c.loop-index.invariant lt
    (ratio_of c.in_ok-sum.sum) c.in_ok-sum.ensures)

pub returns : goal.returns
returns c =
    let past = subst (λ l. length l ≤ c.loop-index.index) c.free-index-end.ensures c.loop-index-test.false in
    indices_end (coefficient_fold (labels_of c.args.basis.now) (cycle_of c.args.basis.now) (number_at c.args.counts.now))
    (free_labels (labels_of c.args.basis.now) (cycle_of c.args.basis.now)) c.loop-index.index (map ratio_of c.loop-index.coeffs.items) c.loop-index.invariant past
