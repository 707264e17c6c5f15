use Rattle.rg_net_grammar.proofs.WholeTexts.{items_or_fault, one_meaning, one_first_fault, items_not_fault}
use Rattle.rg_net_grammar.proofs.laws.one_answer.Goals as goal

pub returns : goal.returns
returns c = record { some = items_or_fault; one_meaning = one_meaning; one_fault = one_first_fault; not_both = items_not_fault }
