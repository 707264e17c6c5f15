use Rattle.std.proofs.Common.{rules, ◌≡◌, Err}
use Rattle.std.specs.Prelude.{pos}
use Rattle.std.specs.Int.{w128, cast_signed}
use Rattle.rg_integers.proofs.Casts.{back}
use Rattle.rg_farkas.proofs.RowSteps.{size_unmade, size_unjoined, size_next, size_ends}
use Rattle.rg_farkas.proofs.sizes.greatest_sizes.Goals as goal

pub returns-in_err-size : goal.returns-in_err-size
returns-in_err-size c =
    let same : c.from_residual.result ≡ Err c.in_err-size.field-0.0 = search rules in
    let m = back c.row-item.result.multiplier c.row-item.result.multiplier_in_range in
    let made = rw m at c.in_err-size.ensures.value in
    rw same (size_unmade (λ r. pos 3) c.args.rows.now c.loop-row.row-index c.row-item.result c.loop-row-test.true c.row-item.is
    (cast_signed w128 c.loop-row.sum-bits) c.loop-row.invariant.so_far c.in_err-size.field-0.0 made)

pub returns-in_err-sum : goal.returns-in_err-sum
returns-in_err-sum c =
    let same : c.from_residual-in_err-sum.result ≡ Err c.in_err-sum.field-0.0 = search rules in
    let m = back c.row-item.result.multiplier c.row-item.result.multiplier_in_range in
    let made = rw m at c.in_ok-size.ensures.value in
    let joins = rw (back c.in_ok-size.size c.in_ok-size.ensures.in_range) at c.in_err-sum.ensures.value in
    rw same (size_unjoined (λ r. pos 3) c.args.rows.now c.loop-row.row-index c.row-item.result c.loop-row-test.true c.row-item.is
    (cast_signed w128 c.loop-row.sum-bits) c.loop-row.invariant.so_far c.in_ok-size.size c.in_err-sum.field-0.0 made joins)

pub loop-row-preserved : goal.loop-row-preserved
loop-row-preserved c =
    let m = back c.row-item.result.multiplier c.row-item.result.multiplier_in_range in
    let made = rw m at c.in_ok-size.ensures.value in
    let joins = rw (back c.in_ok-size.size c.in_ok-size.ensures.in_range) at c.in_ok-sum.ensures.value in
    rw (back c.in_ok-sum.sum c.in_ok-sum.ensures.in_range) (record {
      so_far = size_next (λ r. pos 3) c.args.rows.now c.loop-row.row-index c.row-item.result c.loop-row-test.true c.row-item.is
          (cast_signed w128 c.loop-row.sum-bits) c.loop-row.invariant.so_far c.in_ok-size.size c.in_ok-sum.sum made joins;
      in_range = c.in_ok-sum.ensures.in_range;
    })

pub returns : goal.returns
returns c = size_ends (λ r. pos 3) c.args.rows.now c.loop-row.row-index (cast_signed w128 c.loop-row.sum-bits) c.loop-row.invariant.so_far c.loop-row-test.false
