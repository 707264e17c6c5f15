-- The walk goes on, and the arcs of each state that is met are followed, or it waits.
use Rattle.std.proofs.Common.{◌+◌, length, is_none, count_by}
use Rattle.rg_checks.specs.Closure.{follows, IsWalk}
use Rattle.rg_checks.proofs.Walking.{AreFollowed}
use Rattle.rg_checks.proofs.graph.closure.Given as goal

abbrev pub invariant-loop-s : goal.invariant-loop-s
invariant-loop-s l = record {
  walk : IsWalk (follows l.graph) l.graph.states l.graph.initial l.walk.steps.items l.walk.waiting.items;
  followed : AreFollowed (follows l.graph) l.graph.initial l.walk.steps.items l.walk.waiting.items;
}

abbrev pub decreases-loop-s : goal.decreases-loop-s
decreases-loop-s l = count_by is_none l.walk.steps.items + length l.walk.waiting.items
