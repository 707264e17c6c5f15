use Rattle.std.proofs.Common.{◌<◌, subst, sym}
use Rattle.rg_revised.proofs.Units.{unit_set}
use Rattle.rg_revised.proofs.starting.unit_row.Goals as goal

pub returns-clause-unit : goal.returns-clause-unit
returns-clause-unit c = unit_set c.clear.new.numbers c.args.t (subst (λ n. c.args.t < n) (sym c.clear.ensures.same_length) c.requires)
    (λ s lt. c.clear.ensures.zero s (subst (λ n. s < n) c.clear.ensures.same_length lt))
