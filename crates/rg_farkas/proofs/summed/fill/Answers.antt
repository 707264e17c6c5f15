use Rattle.std.proofs.Common.{◌≡◌, ◌+◌, ◌-◌, subst, arith}
use Rattle.std.specs.Int.{w128, cast_signed}
use Rattle.rg_integers.proofs.Casts.{back}
use Rattle.rg_farkas.proofs.Filling.{Filled, fill_start, fill_next, fill_end, sizes_positive}
use Rattle.rg_farkas.proofs.summed.fill.Goals as goal

pub loop-i-init : goal.loop-i-init
loop-i-init c =
    let sizes = sizes_positive c.args.rows.now 0 c.in-Ok.bound (omega arith) c.in-Ok.ensures in
    rw (back c.in-Ok.bound sizes.1) (fill_start c.args.rows.now c.args.tree.now c.args.sums.now c.add_rows.new.sums c.args.multipliers.now c.in-Ok.bound c.requires.zeros c.requires.unfilled
    c.in-Ok.ensures sizes.0 sizes.1 c.add_rows.auto.sums (c.add_rows.ensures.added c.if-not-add_rows.false) (c.add_rows.ensures.in_range c.if-not-add_rows.false))

pub loop-i-preserved : goal.loop-i-preserved
loop-i-preserved c =
    let back_one : c.loop-i.i ≡ c.loop-i.i - 1 + 1 = omega arith in
    let found = c.in-Some.ensures in
    let le = c.loop-i.auto.i in
    rw (back c.in-Some.multiplier found.in_range.2, back c.take_arc.new.bound found.in_range.1)
    (fill_next c.args.rows.now c.args.tree.now (c.loop-i.i - 1) record { from = 0; label = 0; to = 0 } c.loop-i.sums c.loop-i.multipliers (cast_signed w128 c.loop-i.bound-bits) (omega arith)
    (subst (λ n. Filled c.args.rows.now c.args.tree.now n c.loop-i.sums c.loop-i.multipliers (cast_signed w128 c.loop-i.bound-bits)) back_one c.loop-i.invariant)
    c.take_arc.new.sums c.take_arc.new.bound c.in-Some.multiplier c.take_arc.auto.sums found.within.0 found.within.1 found.added found.bound found.in_range.0 found.in_range.1 found.in_range.2)

pub returns-clause-comes : goal.returns-clause-comes
returns-clause-comes c = λ _. fill_end c.args.rows.now c.args.tree.now c.loop-i.sums c.loop-i.multipliers _ c.loop-i.i (omega arith) c.loop-i.invariant
