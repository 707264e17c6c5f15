-- What is read at the index.
use Rattle.rg_lts.proofs.NameAt.{name_read, name_past}
use Rattle.rg_lts.proofs.slots.is_name_at.Goals as goal

pub returns-in-Some : goal.returns-in-Some
returns-in-Some c = name_read c.args.names.now c.args.index c.in-Some.there.now c.as_str.result.now c.args.name.now c.eq.result c.in-Some.ensures.lookup.3.0 c.in-Some.ensures.lookup.1
    c.as_str.ensures.value c.eq.ensures

pub returns-in-None : goal.returns-in-None
returns-in-None c = (λ t. absurd cc, λ is. absurd (name_past c.args.names.now c.args.index c.args.name.now c.in-None.ensures.lookup.3 is))
