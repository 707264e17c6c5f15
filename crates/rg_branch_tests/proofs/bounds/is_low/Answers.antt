use Rattle.std.proofs.Common.{rules, ◌≡◌, refl, arith}
use Rattle.std.specs.Prelude.{◌*ℤ◌, ◌≤ℤ◌, ◌<ℤ◌, neg_ℤ}
use Rattle.std.proofs.lemmas.Int.{ints}
use Rattle.rg_integers.proofs.Casts.{casts}
use Rattle.rg_branch_tests.proofs.Bounding.{low_asked, low_met}
use Rattle.rg_branch_tests.proofs.bounds.is_low.Goals as goal

pub returns-clause-low : goal.returns-clause-low
returns-clause-low c = λ e.
    let row = c.in-Some.ensures in
    let product : c.in-Ok.product ≡ c.args.form.now.times *ℤ c.in-Some.row.now.constant = search (rules, casts) in
    let low : c.in-Some-scale_bound.low ≡ c.args.form.now.scale *ℤ c.args.form.now.low = search (rules, casts) in
    let least : c.in-Ok.product ≤ℤ neg_ℤ c.in-Some-scale_bound.low = search (rules, casts) in
    low_asked c.args.system.now c.args.form.now c.in-Some.row.now _ row.within row.value c.args.before refl c.in-Ok.product c.in-Some-scale_bound.low c.in-Ok.ensures.in_range product low least

pub returns-clause-not_low : goal.returns-clause-not_low
returns-clause-not_low c = λ e is.
    let row = c.in-Some.ensures in
    let product : c.in-Ok.product ≡ c.args.form.now.times *ℤ c.in-Some.row.now.constant = search (rules, casts) in
    let low : c.in-Some-scale_bound.low ≡ c.args.form.now.scale *ℤ c.args.form.now.low = search (rules, casts) in
    let more : neg_ℤ c.in-Some-scale_bound.low <ℤ c.in-Ok.product = search (rules, casts) in
    let met = (low_met c.args.system.now c.args.form.now c.in-Some.row.now _ row.within row.value c.args.before refl is).1 in
    absurd (omega (arith, ints))
