use Rattle.std.proofs.Common.{length, ap, subst, arith}
use Rattle.rg_theory.specs.System.{arc}
use Rattle.rg_checks.proofs.Forks.{NoneAdjacent, found, no_fork}
use Rattle.rg_checks.proofs.fork.least_fork.Goals as goal

pub returns-then-a-b-2-clause-least : goal.returns-then-a-b-2-clause-least
returns-then-a-b-2-clause-least c =
    found c.args.lts.now c.arcs-arcs.result.now c.loop-i.i (arc 0 0 0) c.arcs-arcs.ensures.value c.arcs-arcs.ensures.well_formed.arc_order c.loop-i.auto.i
    c.loop-i-test.true c.loop-i.invariant c.if-a-b.true c.if-a-b-2.true

pub returns-clause-none : goal.returns-clause-none
returns-clause-none c =
    no_fork c.args.lts.now c.loop-i.i c.arcs-arcs.ensures.well_formed.arc_order (subst (λ xs. NoneAdjacent xs c.loop-i.i) c.arcs-arcs.ensures.value c.loop-i.invariant)
    (let n = ap length c.arcs-arcs.ensures.value in omega (arith, c.loop-i-test.false))
