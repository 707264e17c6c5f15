use Rattle.std.proofs.Common.{◌<◌, subst, sym, ◌∙◌}
use Rattle.std.specs.Prelude.{FitsSigned}
use Rattle.std.specs.Int.{w64}
use Rattle.std.proofs.lemmas.Int.{to_z-of_z}
use Rattle.rg_integers.specs.Sum.{number_at}
use Rattle.rg_integers.proofs.Casts.{back}
use Rattle.rg_fraction.proofs.Ones.{is_one}
use Rattle.rg_cycles.specs.WholeSums.{LabelIsShort}
use Rattle.rg_cycles.proofs.WholeSteps.{label_added, label_numbers, short_as, step_as}
use Rattle.rg_cycles.proofs.whole.add_label.Goals as goal

pub returns-then-relation-eq1-clause-added : goal.returns-then-relation-eq1-clause-added
returns-then-relation-eq1-clause-added c = λ added n lt.
    (let rel = c.in-Some-Ok.relation.now in
    let d = is_one rel.d c.in-Some-Ok.ensures.in_range.d c.if-relation-eq1.true in
    let told = c.in-Some-Ok.ensures' {u = tt} in
    let same = told.1 ∙ back (number_at c.args.counts.now c.args.t) (c.requires.in_range c.args.t (subst (λ m. c.args.t < m) (sym c.requires.counts) c.requires.label)) in
    let k = to_z-of_z w64 c.in-Some-Ok.count (subst (FitsSigned w64) (sym told.1) told.0) in
    let step = c.add_times.ensures.added added n lt in
    label_added c.args.basis.now c.args.counts.now c.args.t n rel c.in-Some-Ok.count (number_at c.args.sums.now n) (number_at c.add_times.new.sums n) c.in-Some-Ok.ensures.exact.1
    (subst (λ m. n < m) c.requires.one_each lt) same d
    (rw (k, c.deref.ensures.value) at step))

pub returns-then-relation-eq1-clause-stopped : goal.returns-then-relation-eq1-clause-stopped
returns-then-relation-eq1-clause-stopped c = λ no out (short : LabelIsShort c.args.basis.now (number_at c.args.counts.now) c.args.t c.args.sums.now).
    (let rel = c.in-Some-Ok.relation.now in
    let told = c.in-Some-Ok.ensures' {u = tt} in
    let same = told.1 ∙ back (number_at c.args.counts.now c.args.t) (c.requires.in_range c.args.t (subst (λ m. c.args.t < m) (sym c.requires.counts) c.requires.label)) in
    let k = to_z-of_z w64 c.in-Some-Ok.count (subst (FitsSigned w64) (sym told.1) told.0) in
    let stopped = rw (k, c.deref.ensures.value) at c.add_times.ensures.stopped no in
    stopped (λ n lt. short_as (number_at c.args.sums.now n) same
    (label_numbers c.args.basis.now c.args.t n rel c.in-Some-Ok.ensures.exact.1 (subst (λ m. n < m) c.requires.one_each lt)) (short.terms n lt)))

pub returns-then-relation-eq1-clause-sums : goal.returns-then-relation-eq1-clause-sums
returns-then-relation-eq1-clause-sums c = λ added n lt.
    (let rel = c.in-Some-Ok.relation.now in
    let told = c.in-Some-Ok.ensures' {u = tt} in
    let same = told.1 ∙ back (number_at c.args.counts.now c.args.t) (c.requires.in_range c.args.t (subst (λ m. c.args.t < m) (sym c.requires.counts) c.requires.label)) in
    let k = to_z-of_z w64 c.in-Some-Ok.count (subst (FitsSigned w64) (sym told.1) told.0) in
    let step = rw (k, c.deref.ensures.value) at c.add_times.ensures.added added n lt in
    step_as (number_at c.args.sums.now n) same
    (label_numbers c.args.basis.now c.args.t n rel c.in-Some-Ok.ensures.exact.1 (subst (λ m. n < m) c.requires.one_each lt)) step.is)
