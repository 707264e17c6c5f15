use Rattle.std.proofs.Common.{◌≡◌, ◌<◌, rules, length, map, vec_len, ap, subst, sym, ◌∙◌, arith}
use Rattle.std.proofs.lemmas.List.{length-map}
use Rattle.rg_integers.specs.Sum.{number_at}
use Rattle.rg_folds.specs.Fold.{whole}
use Rattle.rg_folds.specs.Substitution.{free_labels, coefficient_fold}
use Rattle.rg_cycles.specs.View.{labels_of, cycle_of}
use Rattle.rg_cycles.proofs.WholeSteps.{each_of_all, written_back}
use Rattle.rg_cycles.proofs.whole.whole_sums.Goals as goal

pub returns-clause-sums : goal.returns-clause-sums
returns-clause-sums c =
    let n = labels_of c.args.basis.now in
    let cycle = cycle_of c.args.basis.now in
    let own : c.in-Some.sums.items ≡ map (number_at c.args.counts.now) (free_labels n cycle) = search rules in
    let one_each : length c.add_labels.new.sums ≡ length c.in-Some.sums.items = c.add_labels.ensures.one_each ∙ ap length c.deref_mut.ensures.value in
    let read : vec_len c.in-Some.sums ≡ length c.in-Some.sums.items = omega arith in
    let many = one_each ∙ ap length own ∙ length-map (free_labels n cycle) (number_at c.args.counts.now) in
    rw (c.in_ok-wide.ensures.same, c.deref-2.ensures.value, written_back c.add_labels.new.sums c.in-Some.sums.items c.in-Some.sums.len one_each read)
    (each_of_all (coefficient_fold n cycle (number_at c.args.counts.now)) (free_labels n cycle) whole c.add_labels.new.sums many
    (λ i lt. c.add_labels.ensures.added c.if-not-add_labels.false i (subst (λ m. i < m) (sym many) lt)))
