use Rattle.rg_spanning.proofs.Orders.{order_once, order_states, order_every}
use Rattle.rg_spanning.proofs.laws.each_state_once.Goals as goal

pub returns-clause-once : goal.returns-clause-once
returns-clause-once c = order_once

pub returns-clause-states : goal.returns-clause-states
returns-clause-states c = λ lts grown s fine t has. order_states lts grown t s fine has

pub returns-clause-every : goal.returns-clause-every
returns-clause-every c = λ lts grown s all t lt. order_every lts grown t s all lt
