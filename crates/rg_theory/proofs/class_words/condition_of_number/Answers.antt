use Rattle.std.proofs.Common.{inl, inr, refl}
use Rattle.rg_theory.proofs.ClassTexts.{refused_numeral}
use Rattle.rg_theory.proofs.class_words.condition_of_number.Goals as goal

pub returns-in-Err-clause-fault : goal.returns-in-Err-clause-fault
returns-in-Err-clause-fault c before =
    refused_numeral c.args.word.now c.in-Some.digits.now _ c.args.number c.in-Err.fault before c.requires.other
    (inl refl) c.in-Some.ensures.some c.in-Err.ensures.fault

pub returns-in-Err-numeral-clause-fault : goal.returns-in-Err-numeral-clause-fault
returns-in-Err-numeral-clause-fault c before =
    refused_numeral c.args.word.now c.in-Some-before.digits.now _ c.args.number c.in-Err-numeral.fault before c.requires.other
    (inr refl) c.in-Some-before.ensures.some c.in-Err-numeral.ensures.fault
