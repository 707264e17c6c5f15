use Rattle.rg_cert.specs.Lines.{at_heading}
use Rattle.rg_cert.proofs.OneFault.{one_fault}
use Rattle.rg_cert.proofs.OneClaim.{one_claim, not_both}
use Rattle.rg_cert.proofs.SomeAnswer.{some_answer}
use Rattle.rg_cert.proofs.laws.one_answer.Goals as goal

pub returns-clause-some : goal.returns-clause-some
returns-clause-some c = some_answer

pub returns-clause-one_claim : goal.returns-clause-one_claim
returns-clause-one_claim c = one_claim

pub returns-clause-one_fault : goal.returns-clause-one_fault
returns-clause-one_fault c = λ bytes lts d e. one_fault lts at_heading bytes 1 d e

pub returns-clause-not_both : goal.returns-clause-not_both
returns-clause-not_both c = not_both
