use Rattle.std.proofs.Common.{rules, ◌≡◌, ◌+◌, ◌<◌, ◌^◌, All, length, subst, refl, below_more}
use Rattle.rg_integers.specs.Range.{InRange}
use Rattle.rg_linear.specs.View.{linear_row}
use Rattle.rg_linear.proofs.KeptRows.{item_fine, all_fine}
use Rattle.rg_linear_tests.proofs.descents.is_well_formed.Goals as goal

pub loop-row-preserved : goal.loop-row-preserved
loop-row-preserved c =
    let size : length (linear_row c.row-item.result).coeffs ≡ c.args.columns = search rules in
    let constant : InRange c.row-item.result.constant = search rules in
    below_more _ _ c.loop-row.invariant
    (item_fine c.args.columns c.args.rows.now c.loop-row.row-index c.row-item.result c.loop-row-test.true c.row-item.is size
    (subst (All InRange) c.deref.ensures.value (c.if-not-is_in_range.ensures.0 refl)) constant)

pub returns : goal.returns
returns c = λ e.
    let few : c.args.columns + length c.args.rows.now < 2 ^ 32 = search rules in
    all_fine c.args.columns c.args.rows.now c.loop-row.row-index few c.loop-row-test.false c.loop-row.invariant
