use Rattle.rg_net_grammar.proofs.set_position.from_brace.Goals as goal

pub returns-in-RightBrace-clause-holds : goal.returns-in-RightBrace-clause-holds
returns-in-RightBrace-clause-holds c = λ bytes is. c.after_set.ensures.holds bytes
