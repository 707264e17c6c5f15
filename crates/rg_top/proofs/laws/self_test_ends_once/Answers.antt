use Rattle.rg_top.proofs.SelfTestOnce.{self_test_once, self_test_due}
use Rattle.rg_top.proofs.laws.self_test_ends_once.Goals as goal

pub returns-clause-once : goal.returns-clause-once
returns-clause-once c = self_test_once (record { system = c.one_of_each.ensures.one; out = c.outcome_is_one.ensures.answer })

pub returns-clause-due : goal.returns-clause-due
returns-clause-due c = self_test_due (record { system = c.one_of_each.ensures.one; out = c.outcome_is_one.ensures.answer })
