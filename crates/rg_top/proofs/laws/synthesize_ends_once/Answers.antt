use Rattle.rg_top.proofs.SynthesizeOnce.{synthesize_once, synthesize_due}
use Rattle.rg_top.proofs.laws.synthesize_ends_once.Goals as goal

pub returns-clause-once : goal.returns-clause-once
returns-clause-once c = synthesize_once c.outcome_is_one.ensures.answer

pub returns-clause-due : goal.returns-clause-due
returns-clause-due c = synthesize_due c.outcome_is_one.ensures.answer
