use Rattle.rg_top.proofs.FactorOnce.{factor_once, factor_due}
use Rattle.rg_top.proofs.laws.factor_ends_once.Goals as goal

pub returns-clause-once : goal.returns-clause-once
returns-clause-once c =
    factor_once (record { one_flaw = c.one_first_flaw.ensures.once; one_factoring = c.factoring_is_one.ensures.once; out = c.outcome_is_one.ensures.answer })

pub returns-clause-due : goal.returns-clause-due
returns-clause-due c =
    factor_due (record { one_flaw = c.one_first_flaw.ensures.once; one_factoring = c.factoring_is_one.ensures.once; out = c.outcome_is_one.ensures.answer })
