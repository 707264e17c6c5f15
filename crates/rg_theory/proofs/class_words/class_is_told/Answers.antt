use Rattle.rg_theory.proofs.ClassSome.{class_told}
use Rattle.rg_theory.proofs.ClassTold.{one_class, one_fault, not_both}
use Rattle.rg_theory.proofs.ClassWritten.{written}
use Rattle.rg_theory.proofs.ClassBytes.{named_bound}
use Rattle.rg_theory.proofs.class_words.class_is_told.Goals as goal

pub returns-clause-told : goal.returns-clause-told
returns-clause-told c = class_told

pub returns-clause-one_class : goal.returns-clause-one_class
returns-clause-one_class c = one_class

pub returns-clause-one_fault : goal.returns-clause-one_fault
returns-clause-one_fault c = one_fault

pub returns-clause-not_both : goal.returns-clause-not_both
returns-clause-not_both c = not_both

pub returns-clause-written : goal.returns-clause-written
returns-clause-written c = written

pub returns-clause-in_range : goal.returns-clause-in_range
returns-clause-in_range c = named_bound
