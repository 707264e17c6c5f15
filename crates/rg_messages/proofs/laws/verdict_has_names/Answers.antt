use Rattle.rg_messages.proofs.Naming.{verdict_names}
use Rattle.rg_messages.proofs.laws.verdict_has_names.Goals as goal

pub returns : goal.returns
returns c = verdict_names
