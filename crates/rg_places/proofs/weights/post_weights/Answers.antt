use Rattle.std.proofs.Common.{rules, ◌≡◌, ◌<◌, Err, arith, length}
use Rattle.std.specs.Prelude.{pos}
use Rattle.rg_integers.specs.Sum.{number_at}
use Rattle.rg_integers.proofs.Casts.{back}
use Rattle.rg_folds.specs.Fold.{whole_sum}
use Rattle.rg_case_folds.specs.Placing.{top_at}
use Rattle.rg_fraction.specs.declared.fold_stop.FoldStop.TheVariants as stop
use Rattle.rg_places.specs.PointValues.{ratios_of}
use Rattle.rg_places.proofs.Counting.{counted_next, counted_fails, counted_end}
use Rattle.rg_places.proofs.FractionSteps.{top_there}
use Rattle.rg_places.proofs.weights.post_weights.Goals as goal

pub returns-in_err-post : goal.returns-in_err-post
returns-in_err-post c =
    let same : c.from_residual-in_err-post.result ≡ Err (stop.Wide c.in_err-post.field-0.0) = search rules in
    let pre = back (number_at c.args.taken.now c.loop-u.u) (c.requires.in_range c.loop-u.u (pos 0) c.loop-u-test.true) in
    let lt : c.loop-u.u < length c.args.found.now = omega arith in
    let top = top_there c.args.found.now c.loop-u.u c.index-found-u.result lt c.index-found-u.is in
    let n = back c.numerator.result c.numerator.ensures.in_range in
    let made = rw (pre, n, c.numerator.ensures.value, top) at c.post_weight.ensures.value in
    rw same (counted_fails (λ u. whole_sum (number_at c.args.taken.now u) (top_at (ratios_of c.args.found.now) u))
    (length c.args.taken.now) c.loop-u.u c.loop-u.put.items c.loop-u.invariant c.loop-u-test.true c.in_err-post.field-0.0 (rw c.in_err-post.was at made))

pub loop-u-preserved : goal.loop-u-preserved
loop-u-preserved c =
    let pre = back (number_at c.args.taken.now c.loop-u.u) (c.requires.in_range c.loop-u.u (pos 0) c.loop-u-test.true) in
    let lt : c.loop-u.u < length c.args.found.now = omega arith in
    let top = top_there c.args.found.now c.loop-u.u c.index-found-u.result lt c.index-found-u.is in
    let n = back c.numerator.result c.numerator.ensures.in_range in
    let made = rw (pre, n, c.numerator.ensures.value, top) at c.post_weight.ensures.value in
    let post = back c.in_ok-post.post c.in_ok-post.ensures.in_range in
    rw (c.in_ok-push.ensures.items, post) (counted_next (λ u. whole_sum (number_at c.args.taken.now u) (top_at (ratios_of c.args.found.now) u))
    (length c.args.taken.now) c.loop-u.u c.loop-u.put.items c.loop-u.invariant c.loop-u-test.true c.in_ok-post.post (rw c.in_ok-post.was at made))

pub returns : goal.returns
returns c = counted_end (λ u. whole_sum (number_at c.args.taken.now u) (top_at (ratios_of c.args.found.now) u))
    (length c.args.taken.now) c.loop-u.u c.loop-u.put.items c.loop-u.invariant c.loop-u-test.false
