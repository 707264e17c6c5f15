use Rattle.rg_net_grammar.proofs.set_position.from_name.Goals as goal

pub returns-in-Star-clause-leads : goal.returns-in-Star-clause-leads
returns-in-Star-clause-leads c = rw c.in-Star.is (c.from_star.ensures.leads c.args.token)

pub returns-in-RightBrace-clause-holds : goal.returns-in-RightBrace-clause-holds
returns-in-RightBrace-clause-holds c = c.after_set.ensures.holds c.args.bytes.now
