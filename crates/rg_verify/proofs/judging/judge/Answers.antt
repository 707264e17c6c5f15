use Rattle.rg_verify.proofs.Verdicts.{judged_event, event_in_range}
use Rattle.rg_verify.proofs.judging.judge.Goals as goal

pub event_verdict-requires-clause-in_range : goal.event_verdict-requires-clause-in_range
event_verdict-requires-clause-in_range c = event_in_range c.args.lts.now c.args.cert.now c.in-Event.s c.in-Event.t c.in-Event.case c.in-Event.is c.requires

pub returns-in-Event-clause-judged : goal.returns-in-Event-clause-judged
returns-in-Event-clause-judged c = judged_event c.args.lts.now c.args.cert.now c.in-Event.s c.in-Event.t c.in-Event.case c.event_verdict.result c.in-Event.is c.event_verdict.ensures
