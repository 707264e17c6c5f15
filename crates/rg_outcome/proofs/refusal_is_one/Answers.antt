use Rattle.rg_outcome.proofs.FromKept.{refusal_stays}
use Rattle.rg_outcome.proofs.refusal_is_one.Goals as goal

pub returns : goal.returns
returns c = λ s kept problem trees fine numbers reachable is_tree is_basis regions. refusal_stays s fine numbers reachable is_tree is_basis kept problem trees regions
