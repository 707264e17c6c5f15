use Rattle.std.proofs.Common.{◌≡◌, ◌+◌, ◌*◌, ◌-◌, length, arith, refl, subst, ◌∙◌}
use Rattle.rg_linear.proofs.TableRows.{part_is, length-part, length-put-mid}
use Rattle.rg_revised.specs.Long.{RowCrossed, TableCrossed}
use Rattle.rg_revised.proofs.Crossed.{rows_crossed_more}
use Rattle.rg_revised.proofs.crossing.cross_table.Goals as goal

pub loop-t-preserved : goal.loop-t-preserved
loop-t-preserved c =
    let rows = c.loop-t.invariant in
    let old : length c.loop-t.crossed ≡ c.args.columns * length c.args.pivot.now.numbers.now = rows.same_length ∙ c.requires.size in
    let size = length-part (length c.args.pivot.now.numbers.now) c.loop-t.crossed c.cross_row.new.crossed c.args.columns c.loop-t.t old c.loop-t-test.true c.cross_row.auto.crossed in
    let is = part_is (length c.args.pivot.now.numbers.now) c.args.table.now c.args.table.now c.loop-t.t refl in
    let row = subst (λ x. RowCrossed c.args.pivot.now.numbers.now c.args.pivot.now.over c.args.pivot.now.p c.args.pivot.now.negative x c.cross_row.new.crossed) is c.cross_row.ensures in
    let k : (c.loop-t.t * length c.args.pivot.now.numbers.now + length c.args.pivot.now.numbers.now) - c.loop-t.t * length c.args.pivot.now.numbers.now
    ≡ length c.args.pivot.now.numbers.now = omega arith in
    rows_crossed_more (length c.args.pivot.now.numbers.now) c.args.pivot.now.numbers.now c.args.pivot.now.over c.args.pivot.now.p c.args.pivot.now.negative c.args.table.now c.loop-t.crossed
    c.cross_row.new.crossed c.loop-t.t c.args.columns _ rows c.requires.size c.loop-t-test.true k size row
    (length-put-mid (length c.args.pivot.now.numbers.now) c.loop-t.crossed c.cross_row.new.crossed c.args.columns c.loop-t.t _ old c.loop-t-test.true size k ∙ rows.same_length)

pub returns : goal.returns
returns c =
    let end : c.loop-t.t ≡ c.args.columns = omega arith in
    subst (TableCrossed (length c.args.pivot.now.numbers.now) c.args.pivot.now.numbers.now c.args.pivot.now.over c.args.pivot.now.p c.args.pivot.now.negative c.args.table.now c.loop-t.crossed) end
    c.loop-t.invariant
