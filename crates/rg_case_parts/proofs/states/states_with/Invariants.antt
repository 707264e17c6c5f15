use Rattle.rg_case_parts.proofs.StatesWith.{StatesSoFar}
use Rattle.rg_case_parts.proofs.states.states_with.Given as goal

abbrev pub invariant-loop-a : goal.invariant-loop-a
invariant-loop-a l = StatesSoFar l.a-items l.t l.a-index l.found.items l.next
