use Rattle.rg_messages.proofs.ToldNames.{told_names}
use Rattle.rg_messages.proofs.compared.comparison_has_names.Goals as goal

pub returns : goal.returns
returns c = told_names
