use Rattle.rg_revised.proofs.Extending.{come_back}
use Rattle.rg_revised.proofs.revised.Revised.restore.Goals as goal

pub returns-clause-point : goal.returns-clause-point
returns-clause-point c = λ system saved. come_back system c.args.saved c.restore.new.self c.restore.ensures.norm c.restore.ensures.relations saved
