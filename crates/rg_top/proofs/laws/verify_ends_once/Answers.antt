use Rattle.rg_top.proofs.VerifyOnce.{verify_once, verify_due}
use Rattle.rg_top.proofs.laws.verify_ends_once.Goals as goal

pub returns-clause-once : goal.returns-clause-once
returns-clause-once c = verify_once (record {
  one_claim = c.one_answer.ensures.one_claim;
  one_fault = c.one_answer.ensures.one_fault;
  not_both = c.one_answer.ensures.not_both;
  one_verdict = c.one_verdict.ensures.once;
})

pub returns-clause-due : goal.returns-clause-due
returns-clause-due c = verify_due
