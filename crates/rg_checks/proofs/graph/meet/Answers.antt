-- A state that isn't met is met by the arc, and waits.
use Rattle.std.proofs.Common.{◌≡◌, ◌<◌, false, length, sym, ap, subst, ◌∙◌, arith}
use Rattle.std.proofs.lemmas.List.Elements.{All-contains}
use Rattle.rg_theory.specs.declared.Arc.{Arc}
use Rattle.rg_checks.specs.declared.graph.Graph.{Graph}
use Rattle.rg_checks.specs.Closure.{IsArcOf, IsGraph, follows, is_met, IsWalk, GoesOn}
use Rattle.rg_checks.proofs.Walking.{walk_more, goes_more, now_met}
use Rattle.rg_checks.proofs.graph.meet.Goals as goal
use Rattle.rg_checks.proofs.graph.meet.Goals.{After-is_met}

unmet : (c : After-is_met) → c.is_met.result ≡ false → is_met c.args.graph.initial c.args.walk.now.steps.items c.args.arc.now.to ≡ false
unmet c out = subst (λ xs. is_met c.args.graph.initial xs c.args.arc.now.to ≡ false) c.deref.ensures.value (sym c.is_met.ensures ∙ out)

entered_in_range : (g : Graph) (a : Arc) → IsGraph g → follows g a → a.to < g.states
entered_in_range g a is has = (All-contains (IsArcOf g) g.arcs.now a is.in_range has.0).2

pub is_met-requires : goal.is_met-requires
is_met-requires c =
    let to = entered_in_range c.args.graph c.args.arc.now c.requires.graph c.requires.follows in
    let n = c.requires.walk.long in
    let m = ap length c.deref.ensures.value in
    omega arith

pub index_mut-requires : goal.index_mut-requires
index_mut-requires c =
    let to = entered_in_range c.args.graph c.args.arc.now c.requires.graph c.requires.follows in
    let n = c.requires.walk.long in
    let m = c.args.walk.now.steps.ok.0 in
    omega arith

pub returns-clause-walk : goal.returns-clause-walk
returns-clause-walk c =
    let g = c.args.graph in
    let walk = c.args.walk.now in
    subst (IsWalk (follows g) g.states g.initial _) (sym c.in_ok-push.ensures.items)
    (walk_more (follows g) g.states g.initial walk.steps.items walk.waiting.items c.requires.walk c.args.arc.now c.requires.follows
    (entered_in_range g c.args.arc.now c.requires.graph c.requires.follows) c.requires.met (unmet (goal.at.returns-clause-walk c).After-is_met c.if-is_met.false))

pub returns-clause-goes_on : goal.returns-clause-goes_on
returns-clause-goes_on c =
    let g = c.args.graph in
    let walk = c.args.walk.now in
    subst (GoesOn g.initial walk.steps.items walk.waiting.items _) (sym c.in_ok-push.ensures.items)
    (goes_more (follows g) g.states g.initial walk.steps.items walk.waiting.items c.requires.walk c.args.arc.now c.requires.follows
    (entered_in_range g c.args.arc.now c.requires.graph c.requires.follows) c.requires.met (unmet (goal.at.returns-clause-goes_on c).After-is_met c.if-is_met.false))

pub returns-clause-meets : goal.returns-clause-meets
returns-clause-meets c =
    let g = c.args.graph in
    let walk = c.args.walk.now in
    now_met (follows g) g.states g.initial walk.steps.items walk.waiting.items c.requires.walk c.args.arc.now c.requires.follows
    (entered_in_range g c.args.arc.now c.requires.graph c.requires.follows) c.requires.met (unmet (goal.at.returns-clause-meets c).After-is_met c.if-is_met.false)
