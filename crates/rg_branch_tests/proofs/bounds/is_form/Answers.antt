use Rattle.std.proofs.Common.{rules, ◌≡◌, refl, length}
use Rattle.std.specs.Prelude.{pos, ◌*ℤ◌, ◌≤ℤ◌, ◌<ℤ◌, All, FitsSigned}
use Rattle.std.specs.Int.{w128}
use Rattle.rg_integers.specs.Range.{InRange}
use Rattle.rg_integers.proofs.Casts.{casts}
use Rattle.rg_linear.specs.View.{linear_row}
use Rattle.rg_branch_tests.specs.Bounds.{AreTimes}
use Rattle.rg_branch_tests.proofs.Bounding.{form_asked, form_in_range}
use Rattle.rg_branch_tests.proofs.bounds.is_form.Goals as goal

pub returns-then-is_in_range-clause-form : goal.returns-then-is_in_range-clause-form
returns-then-is_in_range-clause-form c = λ e.
    let row = c.in-Some.ensures in
    let size : length c.args.form.now.coeffs.items ≡ c.args.system.now.columns = search rules in
    let positive : pos 0 <ℤ c.args.form.now.scale = search (rules, casts) in
    let ordered : c.args.form.now.low ≤ℤ c.args.form.now.high = search (rules, casts) in
    let not_negative : pos 0 ≤ℤ c.args.form.now.times = search (rules, casts) in
    let scale : FitsSigned w128 c.args.form.now.scale = search rules in
    let times : FitsSigned w128 c.args.form.now.times = search rules in
    let low : InRange (c.args.form.now.scale *ℤ c.args.form.now.low) = search (rules, casts) in
    let high : InRange (c.args.form.now.scale *ℤ c.args.form.now.high) = search (rules, casts) in
    let coeffs : All InRange c.args.form.now.coeffs.items = search rules in
    let are : AreTimes c.args.form.now.coeffs.items c.args.form.now.times (linear_row c.in-Some.row.now).coeffs = search (rules, casts) in
    form_asked c.args.system.now c.args.form.now c.in-Some.row.now _ row.within row.value c.args.before refl size positive ordered not_negative scale times low high coeffs are

pub returns-else-is_in_range-clause-no_form : goal.returns-else-is_in_range-clause-no_form
returns-else-is_in_range-clause-no_form c = λ e within is.
    let all = form_in_range c.args.system.now c.args.before c.args.form.now is in
    absurd (search rules)
