use Rattle.rg_outcome.proofs.Right.{search_right, answer_right}
use Rattle.rg_outcome.proofs.outcome_is_right.Goals as goal

pub returns-clause-search : goal.returns-clause-search
returns-clause-search c = λ lts class o fine numbers reachable searched. search_right lts class fine numbers reachable o searched

pub returns-clause-answer : goal.returns-clause-answer
returns-clause-answer c = answer_right
