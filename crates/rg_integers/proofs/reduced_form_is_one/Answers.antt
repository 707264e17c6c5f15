use Rattle.rg_integers.proofs.Values.{one_reduced_form}
use Rattle.rg_integers.proofs.reduced_form_is_one.Goals as goal

pub returns : goal.returns
returns c = one_reduced_form
