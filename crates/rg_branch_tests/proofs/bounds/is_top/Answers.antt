use Rattle.std.proofs.Common.{rules, ◌≡◌}
use Rattle.std.specs.Prelude.{pos, ◌*ℤ◌, ◌≤ℤ◌, ◌<ℤ◌, neg_ℤ}
use Rattle.rg_integers.proofs.Casts.{casts}
use Rattle.rg_linear.specs.View.{linear_row}
use Rattle.rg_branch_tests.specs.Bounds.{AreTimes}
use Rattle.rg_branch_tests.proofs.Bounding.{top_asked, top_times}
use Rattle.rg_branch_tests.proofs.bounds.is_top.Goals as goal

pub returns-then-row-most-clause-top : goal.returns-then-row-most-clause-top
returns-then-row-most-clause-top c = λ e.
    let row = c.in-Some.ensures in
    let positive : pos 0 <ℤ c.args.top.times = search (rules, casts) in
    let high : c.in-Some-scale_bound.high ≡ c.args.form.now.scale *ℤ c.args.form.now.high = search (rules, casts) in
    let most : c.in-Ok.most ≡ c.args.top.times *ℤ c.in-Some-scale_bound.high = search (rules, casts) in
    let constant : c.in-Some.row.now.constant ≤ℤ c.in-Ok.most = search (rules, casts) in
    let are : AreTimes (linear_row c.in-Some.row.now).coeffs (neg_ℤ c.args.top.times) c.args.form.now.coeffs.items = search (rules, casts) in
    top_asked c.args.system.now c.args.form.now c.in-Some.row.now _ row.within row.value c.args.top.times row.well_formed positive c.in-Some-scale_bound.high c.in-Ok.most high most c.in-Ok.ensures.in_range constant are

pub returns-then-row-most-clause-not_top : goal.returns-then-row-most-clause-not_top
returns-then-row-most-clause-not_top c = λ e is.
    let row = c.in-Some.ensures in
    let same = top_times c.args.system.now c.args.form.now c.in-Some.row.now _ row.within row.value c.args.top.times row.well_formed c.requires.form.one_each is in
    absurd (search (rules, casts))
