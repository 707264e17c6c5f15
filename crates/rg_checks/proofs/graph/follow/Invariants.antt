-- The states of the arcs so far are met.
use Rattle.rg_checks.specs.Closure.{follows}
use Rattle.rg_checks.proofs.Walking.{IsFollowing}
use Rattle.rg_checks.proofs.graph.follow.Given as goal

abbrev pub invariant-loop-arc : goal.invariant-loop-arc
invariant-loop-arc l =
    IsFollowing (follows l.graph) l.graph.states l.graph.initial l.initial.walk.steps.items l.initial.walk.waiting.items l.walk.steps.items l.walk.waiting.items l.arc-items l.arc-index
