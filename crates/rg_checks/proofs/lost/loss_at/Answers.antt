use Rattle.rg_checks.proofs.Losing.{least_at, none_at_more, none_at}
use Rattle.std.proofs.Common.{arith}
use Rattle.rg_checks.proofs.lost.loss_at.Goals as goal

pub returns-in-Some-clause-least : goal.returns-in-Some-clause-least
returns-in-Some-clause-least c = least_at c.args.lts.now c.args.s c.loop-t.t c.in-Some.u c.in-Some.to c.loop-t.invariant c.in-Some.ensures.least

pub loop-t-preserved : goal.loop-t-preserved
loop-t-preserved c = none_at_more c.args.lts.now c.args.s c.loop-t.t c.loop-t.invariant c.in_default.ensures.none

pub returns-clause-none : goal.returns-clause-none
returns-clause-none c =
    none_at c.args.lts.now c.args.s c.loop-t.t c.labels-t-end.ensures.well_formed.in_range
    (let n = c.labels-t-end.ensures.value in let m = c.loop-t-test.false in omega (arith, n, m)) c.loop-t.invariant
