use Rattle.std.proofs.Common.{sym}
use Rattle.rg_cycles.specs.View.{cycle_of}
use Rattle.rg_cycles.proofs.Labels.{in_set, not_in_set}
use Rattle.rg_cycles.proofs.substitution.is_free.Goals as goal

pub returns-in-Some : goal.returns-in-Some
returns-in-Some c = sym (not_in_set (cycle_of c.args.basis.now).members c.args.t c.in-Some.ensures.exact.0)

pub returns-in-None : goal.returns-in-None
returns-in-None c = sym (in_set (cycle_of c.args.basis.now).members c.args.t c.in-None.ensures.exact)
