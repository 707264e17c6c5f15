-- What is found in the list of arcs is found in the system.
use Rattle.rg_lts.proofs.lts.Lts.arc_at.Goals as goal

pub returns-clause-least : goal.returns-clause-least
returns-clause-least c = rw (← c.self.view_is, ← c.deref.ensures.value) c.first_target.ensures.least

pub returns-clause-none : goal.returns-clause-none
returns-clause-none c = rw (← c.self.view_is, ← c.deref.ensures.value) c.first_target.ensures.none
