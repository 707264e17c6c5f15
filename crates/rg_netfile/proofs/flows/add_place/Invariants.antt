-- The flows of the labels so far have the place too.
use Rattle.std.proofs.Common.{◌≡◌}
use Rattle.rg_netfile.specs.ListedSets.{AreFlowsWith}
use Rattle.rg_netfile.proofs.flows.add_place.Given as goal

abbrev pub invariant-loop-flow : goal.invariant-loop-flow
invariant-loop-flow l = (l.t ≡ l.flow-index) × AreFlowsWith l.place l.i l.t l.fn.flows l.flows
