-- The arc where the earlier ones end is the first of its state and label, or there is none.
use Rattle.rg_lts.proofs.ArcOrder.{first_of_all}
use Rattle.rg_lts.proofs.lts.first_target.Goals as goal

pub returns-in-Some-clause-least : goal.returns-in-Some-clause-least
returns-in-Some-clause-least c =
    let index = c.first_index-index in
    λ other has. (first_of_all c.args.s c.args.t c.args.arcs.now index.result c.in-Some.a.now c.requires index.ensures.before
    index.ensures.behind c.in-Some.ensures.lookup.3 other has).2

pub returns-in_default-clause-none : goal.returns-in_default-clause-none
returns-in_default-clause-none c =
    let index = c.first_index-index in
    λ other has. c.if-a-t.false (first_of_all c.args.s c.args.t c.args.arcs.now index.result c.in-Some.a.now c.requires index.ensures.before
    index.ensures.behind c.in-Some.ensures.lookup.3 other has).1

pub returns-in_default-2-clause-none : goal.returns-in_default-2-clause-none
returns-in_default-2-clause-none c =
    let index = c.first_index-index in
    λ other has. c.if-a-s.false (first_of_all c.args.s c.args.t c.args.arcs.now index.result c.in-Some.a.now c.requires index.ensures.before
    index.ensures.behind c.in-Some.ensures.lookup.3 other has).0
