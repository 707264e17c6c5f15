use Rattle.rg_blocks.proofs.TakingLemmas.{solved_more, solved_ends, stands_next, left_over}
use Rattle.rg_blocks.proofs.taking.take_over.Goals as goal

pub returns-in-Some-2-clause-taken : goal.returns-in-Some-2-clause-taken
returns-in-Some-2-clause-taken g c =
    let lts = c.args.search.now.lts.now in
    let comes = g.S.Solving.comes c.args.search.now.solving.now in
    let before = g.K.Keeping.places c.args.progress.now.kept in
    let now = g.K.Keeping.places c.loop-s.progress.kept in
    let after = g.K.Keeping.places c.take.new.progress.kept in
    solved_ends lts comes before now after c.in_ok-refuted.field-0 _ c.loop-s.yielded _ c.in-Some.s c.in-Some-2.refuted
    (stands_next _ c.loop-s.yielded _ _ c.in-Some.s c.loop-s.invariant.2 c.in-Some.ensures.steps.0) c.in-Some-2.is c.loop-s.invariant.1 c.in_ok-refuted.ensures.taken

pub loop-s-preserved : goal.loop-s-preserved
loop-s-preserved g c =
    let lts = c.args.search.now.lts.now in
    let comes = g.S.Solving.comes c.args.search.now.solving.now in
    let before = g.K.Keeping.places c.args.progress.now.kept in
    let now = g.K.Keeping.places c.loop-s.progress.kept in
    let after = g.K.Keeping.places c.take.new.progress.kept in (
      c.in_ok-refuted.ensures.searching,
      solved_more lts comes before now after c.in_ok-refuted.field-0 c.loop-s.yielded c.in-Some.s c.in_default.is c.loop-s.invariant.1 c.in_ok-refuted.ensures.taken,
      left_over _ c.loop-s.yielded _ _ c.in-Some.s c.loop-s.invariant.2 c.in-Some.ensures.steps.0,
    )
