use Rattle.std.proofs.Common.{◌≡◌, ap, subst, sym, ◌∙◌}
use Rattle.std.specs.Prelude.{FitsSigned, ◌+ℤ◌, ◌*ℤ◌}
use Rattle.std.specs.Int.{w64}
use Rattle.std.proofs.lemmas.Int.{to_z-of_z}
use Rattle.rg_integers.proofs.Casts.{back, zero_of_bits}
use Rattle.rg_integers.proofs.Short.{short_in_range}
use Rattle.rg_cycles.specs.WholeSums.{StaysShort}
use Rattle.rg_cycles.proofs.WholeSteps.{zero_step, step_of_words, none_fits}
use Rattle.rg_cycles.proofs.whole.with_product.Goals as goal

pub returns-then-number-eq0-clause-some : goal.returns-then-number-eq0-clause-some
returns-then-number-eq0-clause-some c =
    rw (to_z-of_z w64 c.args.sum c.ranges.sum)
    (zero_step c.args.count c.args.number c.args.sum (zero_of_bits c.args.number c.requires c.if-number-eq0.true) (short_in_range c.args.sum c.ranges.sum))

pub returns-clause-some : goal.returns-clause-some
returns-clause-some c =
    let s = to_z-of_z w64 c.args.sum c.ranges.sum in
    let k = to_z-of_z w64 c.args.count c.ranges.count in
    let told = c.in-Ok.ensures {u = tt} in
    let same : c.in-Ok.number ≡ c.args.number = told.1 ∙ back c.args.number c.requires in
    let fits : FitsSigned w64 c.in-Ok.number = subst (FitsSigned w64) (sym told.1) told.0 in
    let n = to_z-of_z w64 c.in-Ok.number fits in
    let product = c.in_ok-checked_mul.ensures {u = tt} in
    let made = rw (k, n) at product in
    let p = to_z-of_z w64 c.in_ok-checked_mul.field-0 (subst (FitsSigned w64) (sym made.1) made.0) in
    step_of_words c.args.count c.args.number c.args.sum c.in-Ok.number c.in_ok-checked_mul.field-0 c.checked_add.result same c.ranges.sum made.0 made.1 (rw (s, p) at c.checked_add.ensures)

pub returns-clause-none : goal.returns-clause-none
returns-clause-none c =
    let s = to_z-of_z w64 c.args.sum c.ranges.sum in
    let k = to_z-of_z w64 c.args.count c.ranges.count in
    let told = c.in-Ok.ensures {u = tt} in
    let same : c.in-Ok.number ≡ c.args.number = told.1 ∙ back c.args.number c.requires in
    let n = to_z-of_z w64 c.in-Ok.number (subst (FitsSigned w64) (sym told.1) told.0) in
    let made = rw (k, n) at (c.in_ok-checked_mul.ensures {u = tt}) in
    let p = to_z-of_z w64 c.in_ok-checked_mul.field-0 (subst (FitsSigned w64) (sym made.1) made.0) in
    let product : c.in_ok-checked_mul.field-0 ≡ c.args.count *ℤ c.args.number = made.1 ∙ ap (λ m. c.args.count *ℤ m) same in
    none_fits c.checked_add.result (c.args.sum +ℤ c.in_ok-checked_mul.field-0) (rw (s, p) at c.checked_add.ensures)
    (λ (short : StaysShort c.args.count c.args.number c.args.sum). subst (λ m. FitsSigned w64 (c.args.sum +ℤ m)) (sym product) short.sum_fits)
