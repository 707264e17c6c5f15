use Rattle.rg_blocks_tests.specs.Constant.{some_term}
use Rattle.rg_blocks_tests.proofs.answers.AnswersSolving.solve.Goals as goal

pub returns-in_default-clause-outcome : goal.returns-in_default-clause-outcome
returns-in_default-clause-outcome c = (some_term, tt)

pub returns-in-Some-TooWide-clause-outcome : goal.returns-in-Some-TooWide-clause-outcome
returns-in-Some-TooWide-clause-outcome c = (some_term, tt)
