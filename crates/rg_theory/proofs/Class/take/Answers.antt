use Rattle.std.proofs.Common.{refl}
use Rattle.rg_theory.proofs.ClassTexts.{repeated}
use Rattle.rg_theory.proofs.Class.take.Goals as goal

pub returns-then-has-clause-fault : goal.returns-then-has-clause-fault
returns-then-has-clause-fault c = λ before made. (refl, repeated c.args.self.now before c.in-Ok.condition c.args.word.now made c.if-has.ensures c.in-Ok.ensures.ok)

pub returns-in-Err-clause-fault : goal.returns-in-Err-clause-fault
returns-in-Err-clause-fault c = λ before made. c.in-Err.ensures.fault before
