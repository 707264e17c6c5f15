use Rattle.rg_top.proofs.CheckOnce.{check_once, check_due}
use Rattle.rg_top.proofs.laws.check_ends_once.Goals as goal

pub returns-clause-once : goal.returns-clause-once
returns-clause-once c = check_once (record {
  one_net = c.one_answer.ensures.one_net;
  one_fault = c.one_answer.ensures.one_fault;
  not_both = c.one_answer.ensures.not_both;
  one_verdict = c.verdict_is_one.ensures.once;
})

pub returns-clause-due : goal.returns-clause-due
returns-clause-due c = check_due (record {
  one_net = c.one_answer.ensures.one_net;
  one_fault = c.one_answer.ensures.one_fault;
  not_both = c.one_answer.ensures.not_both;
  one_verdict = c.verdict_is_one.ensures.once;
})
