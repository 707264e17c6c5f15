use Rattle.rg_top.proofs.ConvertOnce.{convert_once, convert_due}
use Rattle.rg_top.proofs.laws.convert_ends_once.Goals as goal

pub returns-clause-once : goal.returns-clause-once
returns-clause-once c = convert_once

pub returns-clause-due : goal.returns-clause-due
returns-clause-due c = convert_due
