-- A certificate has one verdict, and always one.
use Rattle.rg_verify.proofs.OneVerdict.{one_verdict}
use Rattle.rg_verify.proofs.SomeVerdict.{some_verdict}
use Rattle.rg_verify.proofs.laws.one_verdict.Goals as goal

pub returns-clause-once : goal.returns-clause-once
returns-clause-once c = one_verdict

pub returns-clause-some : goal.returns-clause-some
returns-clause-some c = some_verdict
