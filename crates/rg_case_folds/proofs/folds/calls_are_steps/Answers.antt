use Rattle.rg_folds.proofs.FoldLemmas.{new_step, add_step, mul_step}
use Rattle.rg_case_folds.proofs.folds.calls_are_steps.Goals as goal

pub returns-clause-new : goal.returns-clause-new
returns-clause-new c = new_step

pub returns-clause-add : goal.returns-clause-add
returns-clause-add c = add_step

pub returns-clause-mul : goal.returns-clause-mul
returns-clause-mul c = mul_step
