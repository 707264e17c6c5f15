-- The lists of the labels so far are of the place too.
use Rattle.std.proofs.Common.{◌≡◌}
use Rattle.rg_net_verdict.specs.Flows.{AreFlowsAt}
use Rattle.rg_net_verdict.proofs.flow.add_place.Given as goal

abbrev pub invariant-loop-flow : goal.invariant-loop-flow
invariant-loop-flow l = (l.t ≡ l.flow-index) × AreFlowsAt l.net l.i l.t l.flows
