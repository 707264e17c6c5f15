-- The lists are of the places so far.
use Rattle.rg_net_verdict.specs.Flows.{AreFlowsBelow}
use Rattle.rg_net_verdict.proofs.flow.flows_of.Given as goal

abbrev pub invariant-loop-i : goal.invariant-loop-i
invariant-loop-i l = AreFlowsBelow l.net l.i l.flows.items
