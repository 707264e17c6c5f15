use Rattle.rg_netfile.proofs.WholeTexts.{answered, one_spelled, one_first_fault, spelled_or_fault}
use Rattle.rg_netfile.proofs.laws.one_answer.Goals as goal

pub returns : goal.returns
returns c = record { some = answered; one_net = one_spelled; one_fault = one_first_fault; not_both = spelled_or_fault }
