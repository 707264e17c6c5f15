use Rattle.rg_verify.proofs.Arcs.{at_iff}
use Rattle.rg_verify.proofs.standing.has_arc_at.Goals as goal

pub returns : goal.returns
returns c = at_iff c.args.lts.now c.args.q c.args.t c.arc_at.result c.is_some.result c.arc_at.ensures.found c.arc_at.ensures.none c.is_some.ensures
