use Rattle.std.proofs.Common.{take}
use Rattle.rg_apt.specs.Contents.{state_fault}
use Rattle.rg_apt.specs.View.{state_in, states_in}
use Rattle.rg_apt.specs.Built.{HasStates}
use Rattle.rg_text.proofs.Left.{LeftAt}
use Rattle.rg_apt.proofs.building.add_states.Given as goal

-- the states so far are there, without a fault
abbrev pub invariant-loop-state : goal.invariant-loop-state
invariant-loop-state l = record {
  has : HasStates (states_in l.bytes (take l.state-index l.states)) l.builder;
  left : LeftAt (state_in l.bytes) state_fault l.states l.state-index;
}
