use Rattle.rg_outcome.proofs.AnswerResults.{always_answered}
use Rattle.rg_outcome.proofs.Answers.{same_search, same_answer}
use Rattle.rg_outcome.proofs.outcome_is_one.Goals as goal

pub returns-clause-search : goal.returns-clause-search
returns-clause-search c = same_search

pub returns-clause-answer : goal.returns-clause-answer
returns-clause-answer c = λ lts class. same_answer lts class c.one_least_fork.ensures c.pruned_is_one.ensures

pub returns-clause-some : goal.returns-clause-some
returns-clause-some c = always_answered
