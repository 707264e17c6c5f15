use Rattle.std.proofs.Common.{subst}
use Rattle.std.specs.Prelude.{IfSome, IfNone}
use Rattle.rg_synth.specs.Answer.{IsRightRefusal, IsUnrefused}
use Rattle.rg_split.proofs.round.take_round.Goals as goal

pub after_refusal-requires-clause-known : goal.after_refusal-requires-clause-known
after_refusal-requires-clause-known g c = (subst (λ r. IfSome r (λ p. IsRightRefusal c.args.now.system p.0 p.1.items)) c.in-Some.is c.in_ok-certificate.ensures.refused).places

pub after_refusal-requires-clause-answer : goal.after_refusal-requires-clause-answer
after_refusal-requires-clause-answer g c = (subst (λ r. IfSome r (λ p. IsRightRefusal c.args.now.system p.0 p.1.items)) c.in-Some.is c.in_ok-certificate.ensures.refused).out

pub after_refusal-requires-clause-right : goal.after_refusal-requires-clause-right
after_refusal-requires-clause-right g c = (subst (λ r. IfSome r (λ p. IsRightRefusal c.args.now.system p.0 p.1.items)) c.in-Some.is c.in_ok-certificate.ensures.refused).right

pub last_round-requires-clause-unrefused : goal.last_round-requires-clause-unrefused
last_round-requires-clause-unrefused g c = λ lives within. subst (λ r. IfNone r (IsUnrefused c.args.now.system)) c.in-None.is c.in_ok-certificate.ensures.not_refused
