use Rattle.rg_top.proofs.GenerateOnce.{generate_once, generate_due}
use Rattle.rg_top.proofs.laws.generate_ends_once.Goals as goal

pub returns-clause-once : goal.returns-clause-once
returns-clause-once c = generate_once c.one_of_each.ensures.one

pub returns-clause-due : goal.returns-clause-due
returns-clause-due c = generate_due
