-- A net has one verdict, and always one.
use Rattle.rg_net_verdict.proofs.One.{one_verdict}
use Rattle.rg_net_verdict.proofs.SomeVerdict.{some_verdict}
use Rattle.rg_net_verdict.proofs.laws.verdict_is_one.Goals as goal

pub returns-clause-once : goal.returns-clause-once
returns-clause-once c = one_verdict c.one_first_flaw.ensures.once

pub returns-clause-some : goal.returns-clause-some
returns-clause-some c = some_verdict
