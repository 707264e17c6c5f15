-- Where no state waits, the walk is over.
use Rattle.std.proofs.Common.{◌≡◌, [], append-nil, sym, subst, ◌∙◌}
use Rattle.std.proofs.lemmas.List.{nil_from_length}
use Rattle.rg_checks.specs.Closure.{follows, IsWalk}
use Rattle.rg_checks.proofs.Walking.{popped, followed_first, followed_more, closes, AreFollowed}
use Rattle.rg_checks.proofs.graph.closure.Goals as goal

pub loop-s-init : goal.loop-s-init
loop-s-init c = record {
  walk = c.in_ok-walk.ensures.walk;
  followed = followed_first (follows c.args.graph) c.args.graph.initial c.in_ok-walk.walk.steps.items c.in_ok-walk.walk.waiting.items c.in_ok-walk.ensures.waits c.in_ok-walk.ensures.alone;
}

pub follow-requires-clause-walk : goal.follow-requires-clause-walk
follow-requires-clause-walk c =
    let g = c.args.graph in
    (popped (follows g) g.states g.initial c.loop-s.walk.steps.items c.loop-s.walk.waiting.items c.pop.new.self.items c.in-Some.s c.in-Some.ensures.items c.loop-s.invariant.walk).0

pub follow-requires-clause-met : goal.follow-requires-clause-met
follow-requires-clause-met c =
    let g = c.args.graph in
    (popped (follows g) g.states g.initial c.loop-s.walk.steps.items c.loop-s.walk.waiting.items c.pop.new.self.items c.in-Some.s c.in-Some.ensures.items c.loop-s.invariant.walk).1

pub loop-s-preserved : goal.loop-s-preserved
loop-s-preserved c =
    let g = c.args.graph in
    let after = c.follow.new.walk in
    record {
      walk = c.in_ok-follow.ensures.walk;
      followed = followed_more (follows g) g.initial c.loop-s.walk.steps.items c.loop-s.walk.waiting.items c.pop.new.self.items c.in-Some.s after.steps.items after.waiting.items
          c.in-Some.ensures.items c.loop-s.invariant.followed c.in_ok-follow.ensures.goes_on c.in_ok-follow.ensures.all;
    }

pub returns : goal.returns
returns c =
    let g = c.args.graph in
    let steps = c.loop-s.walk.steps.items in
    let none : c.loop-s.walk.waiting.items ≡ [] =
    c.in_default.ensures.items ∙ append-nil c.pop.new.self.items ∙ nil_from_length c.pop.new.self.items (sym c.pop.new.self.ok.0 ∙ c.in_default.ensures.cases.1) in
    closes (follows g) g.states g.initial steps (subst (IsWalk (follows g) g.states g.initial steps) none c.loop-s.invariant.walk)
    (subst (AreFollowed (follows g) g.initial steps) none c.loop-s.invariant.followed)
