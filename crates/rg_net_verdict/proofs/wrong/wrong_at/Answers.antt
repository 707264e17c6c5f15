use Rattle.rg_net_verdict.specs.Verdict.{steps}
use Rattle.rg_net_verdict.proofs.wrong.wrong_at.Goals as goal

pub returns-in-Some-clause-none : goal.returns-in-Some-clause-none
returns-in-Some-clause-none c = steps c.in-Some.to c.in-Some.ensures.found (c.is_grown.ensures c.if-is_grown.true)

pub returns-in-Some-2-clause-none : goal.returns-in-Some-2-clause-none
returns-in-Some-2-clause-none c = steps c.in-Some.to c.in-Some.ensures.found (c.is_step.ensures.0 c.if-is_step.true)
