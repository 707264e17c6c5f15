use Rattle.std.proofs.Common.{◌<◌, length, arith}
use Rattle.rg_farkas.proofs.AddendSums.{row_added}
use Rattle.rg_farkas.proofs.summed.add_rows.Goals as goal

pub loop-row-preserved : goal.loop-row-preserved
loop-row-preserved c = record {
  added = λ q below. (let inside : q < length c.loop-row.sums = omega (arith, c.loop-row.auto.sums) in
      row_added q c.args.rows.now c.loop-row.row-index c.row-item.result _ _ _ c.loop-row-test.true c.row-item.is (c.loop-row.invariant.added q below)
      (c.add_row.ensures.added c.if-not-add_row.false q inside));
  in_range = c.add_row.ensures.in_range c.if-not-add_row.false;
}
