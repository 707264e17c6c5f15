use Rattle.rg_verify.proofs.Arcs.{found_iff}
use Rattle.rg_verify.proofs.standing.has_arc.Goals as goal

pub returns : goal.returns
returns c = found_iff c.args.arcs.now c.args.arc.now c.binary_search.result c.is_ok.result c.requires c.binary_search.ensures.bound c.binary_search.ensures.position c.is_ok.ensures.value
