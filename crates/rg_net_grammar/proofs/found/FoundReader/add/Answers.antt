use Rattle.rg_net_grammar.proofs.found.FoundReader.add.Goals as goal

pub returns-in-TypeName-clause-names : goal.returns-in-TypeName-clause-names
returns-in-TypeName-clause-names c = c.at_type.ensures.names c.args.bytes.now
