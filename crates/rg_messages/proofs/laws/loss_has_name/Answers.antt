use Rattle.rg_messages.proofs.laws.loss_has_name.Goals as goal

pub returns : goal.returns
returns c = record { label = λ lts t dead. dead.within; state = λ lts s lost. lost.within }
