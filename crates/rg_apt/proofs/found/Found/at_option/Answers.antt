use Rattle.rg_apt.proofs.found.Found.at_option.Goals as goal

pub returns-in-Some-clause-names : goal.returns-in-Some-clause-names
returns-in-Some-clause-names c = c.mark.ensures.names c.args.bytes.now
