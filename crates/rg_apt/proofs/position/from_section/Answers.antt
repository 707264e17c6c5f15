use Rattle.rg_apt.proofs.position.from_section.Goals as goal

pub returns-in-Word-clause-holds : goal.returns-in-Word-clause-holds
returns-in-Word-clause-holds c = λ bytes is. c.after_word.ensures.holds bytes

pub returns-in-Name-clause-holds : goal.returns-in-Name-clause-holds
returns-in-Name-clause-holds c = λ bytes is. c.after_name.ensures.holds bytes (is, c.in-Name.is)
