use Rattle.std.proofs.Common.{take}
use Rattle.std.specs.List.{flat_map}
use Rattle.rg_net_grammar.specs.View.{flows_in}
use Rattle.rg_netfile.specs.Contents.{steps_of_flow}
use Rattle.rg_netfile.specs.Built.{SameSize, Passes}
use Rattle.rg_netfile.proofs.filling.add_flows.Given as goal

-- the flows so far are added
abbrev pub invariant-loop-flow : goal.invariant-loop-flow
invariant-loop-flow l = record {
  same : SameSize l.fn.sums l.sums;
  passes : Passes l.known (flat_map steps_of_flow (flows_in l.bytes (take l.flow-index l.flows))) l.fn.sums l.sums;
}
