use Rattle.rg_families.proofs.Counts.{grid_states, doubling_states, lock_states}
use Rattle.rg_families.proofs.laws.states_are_counted.Goals as goal

pub returns : goal.returns
returns c = record { grid = grid_states; doubling = doubling_states; lock = lock_states }
