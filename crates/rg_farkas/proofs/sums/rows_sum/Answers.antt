use Rattle.std.proofs.Common.{rules, ◌≡◌, Err, ◌∙◌}
use Rattle.std.specs.Int.{w128, cast_signed}
use Rattle.rg_integers.proofs.Casts.{back}
use Rattle.rg_farkas.proofs.RowSteps.{row_unmade, row_unjoined, row_next, row_ends}
use Rattle.rg_farkas.proofs.sums.rows_sum.Goals as goal

pub returns-in_err-product-clause-value : goal.returns-in_err-product-clause-value
returns-in_err-product-clause-value c =
    let same : c.from_residual.result ≡ Err c.in_err-product.field-0.0 = search rules in
    let m = back c.row-item.result.multiplier c.row-item.result.multiplier_in_range in
    let k = back c.coefficient-number.result c.coefficient-number.ensures.in_range ∙ c.coefficient-number.ensures.value in
    let made = rw (m, k) at c.in_err-product.ensures.value in
    rw same (row_unmade c.args.state c.args.rows.now c.loop-row.row-index c.row-item.result c.loop-row-test.true c.row-item.is
    (cast_signed w128 c.loop-row.sum-bits) c.loop-row.invariant.so_far c.in_err-product.field-0.0 made)

pub returns-in_err-sum-clause-value : goal.returns-in_err-sum-clause-value
returns-in_err-sum-clause-value c =
    let same : c.from_residual-in_err-sum.result ≡ Err c.in_err-sum.field-0.0 = search rules in
    let m = back c.row-item.result.multiplier c.row-item.result.multiplier_in_range in
    let k = back c.coefficient-number.result c.coefficient-number.ensures.in_range ∙ c.coefficient-number.ensures.value in
    let made = rw (m, k) at c.in_ok-product.ensures.value in
    let joins = rw (back c.in_ok-product.product c.in_ok-product.ensures.in_range) at c.in_err-sum.ensures.value in
    rw same (row_unjoined c.args.state c.args.rows.now c.loop-row.row-index c.row-item.result c.loop-row-test.true c.row-item.is
    (cast_signed w128 c.loop-row.sum-bits) c.loop-row.invariant.so_far c.in_ok-product.product c.in_err-sum.field-0.0 made joins)

pub loop-row-preserved : goal.loop-row-preserved
loop-row-preserved c =
    let m = back c.row-item.result.multiplier c.row-item.result.multiplier_in_range in
    let k = back c.coefficient-number.result c.coefficient-number.ensures.in_range ∙ c.coefficient-number.ensures.value in
    let made = rw (m, k) at c.in_ok-product.ensures.value in
    let joins = rw (back c.in_ok-product.product c.in_ok-product.ensures.in_range) at c.in_ok-sum.ensures.value in
    rw (back c.in_ok-sum.sum c.in_ok-sum.ensures.in_range) (record {
      so_far = row_next c.args.state c.args.rows.now c.loop-row.row-index c.row-item.result c.loop-row-test.true c.row-item.is
          (cast_signed w128 c.loop-row.sum-bits) c.loop-row.invariant.so_far c.in_ok-product.product c.in_ok-sum.sum made joins;
      in_range = c.in_ok-sum.ensures.in_range;
    })

pub returns-clause-value : goal.returns-clause-value
returns-clause-value c = row_ends c.args.state c.args.rows.now c.loop-row.row-index (cast_signed w128 c.loop-row.sum-bits) c.loop-row.invariant.so_far c.loop-row-test.false
