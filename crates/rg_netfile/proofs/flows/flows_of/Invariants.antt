-- The flows have the places so far.
use Rattle.rg_netfile.proofs.FlowLists.{AreFlowsBelow}
use Rattle.rg_netfile.proofs.flows.flows_of.Given as goal

abbrev pub invariant-loop-i : goal.invariant-loop-i
invariant-loop-i l = AreFlowsBelow l.net l.i l.flows.items
