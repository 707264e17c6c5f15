use Rattle.rg_cert.proofs.Words.{among_rest}
use Rattle.rg_cert.proofs.table.+is_one_of.Goals as goal

pub returns-else-eq : goal.returns-else-eq
returns-else-eq t c = among_rest c.args.words.now _ c.args.text.now c.eq.result c.is_one_of.result c.in-len1-up.len_at_least c.eq.ensures c.if-eq.false c.is_one_of.ensures
