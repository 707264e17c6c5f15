use Rattle.rg_folds.proofs.FoldLemmas.{quotient_one, term_one, add_one, mul_one, multiple_one}
use Rattle.rg_case_folds.proofs.folds.steps_are_one.Goals as goal

pub returns-clause-quotient : goal.returns-clause-quotient
returns-clause-quotient c = quotient_one

pub returns-clause-term : goal.returns-clause-term
returns-clause-term c = term_one

pub returns-clause-sum : goal.returns-clause-sum
returns-clause-sum c = add_one

pub returns-clause-product : goal.returns-clause-product
returns-clause-product c = mul_one

pub returns-clause-multiple : goal.returns-clause-multiple
returns-clause-multiple c = multiple_one
