-- A first flaw is one, and decided.
use Rattle.rg_checks.proofs.FirstFlaws.{one_flaw, not_flawless, some_flaw}
use Rattle.rg_checks.proofs.laws.one_first_flaw.Goals as goal

pub returns-clause-once : goal.returns-clause-once
returns-clause-once c = one_flaw c.one_least_fork.ensures

pub returns-clause-apart : goal.returns-clause-apart
returns-clause-apart c = not_flawless

pub returns-clause-some : goal.returns-clause-some
returns-clause-some c = some_flaw
