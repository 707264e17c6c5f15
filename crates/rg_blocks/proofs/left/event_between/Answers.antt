use Rattle.std.proofs.Common.{arith}
use Rattle.rg_theory.specs.Problem.{IsProblem}
use Rattle.rg_theory.specs.declared.Problem.TheVariants.{Event}
use Rattle.rg_blocks.proofs.LeftLemmas.{first_behind, first_event, events_before}
use Rattle.rg_blocks.proofs.left.event_between.Goals as goal

pub separates-requires-clause-problem : goal.separates-requires-clause-problem
separates-requires-clause-problem g c = (c.requires.state, omega arith, λ q. c.requires.no_arc c.loop-t.t q (omega arith) (omega arith))

pub returns-in-loop-t-clause-some : goal.returns-in-loop-t-clause-some
returns-in-loop-t-clause-some g c =
    let lts = c.args.lts.now in
    let kept = g.K.Keeping.places c.args.kept.now in
    let is : IsProblem lts (Event c.args.s c.loop-t.t) = (c.requires.state, omega arith, λ q. c.requires.no_arc c.loop-t.t q (omega arith) (omega arith)) in
    first_behind lts kept (Event c.args.s c.args.from) (Event c.args.s c.loop-t.t) (Event c.args.s c.loop-t.t)
    (events_before lts kept c.args.s c.args.from c.loop-t.t (omega arith)) c.loop-t.invariant
    (first_event lts kept c.args.s c.loop-t.t (is, λ sep. (let t = c.separates.ensures.1 sep in let f = c.if-separates.false in cc)))
