use Rattle.rg_net_grammar.proofs.Going.{goes_on}
use Rattle.rg_net_grammar.proofs.laws.tokens_go_on.Goals as goal

pub returns : goal.returns
returns c = goes_on
