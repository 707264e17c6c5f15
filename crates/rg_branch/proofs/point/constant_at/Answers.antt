use Rattle.std.proofs.Common.{ap, subst, sym}
use Rattle.rg_integers.specs.Range.{InRange}
use Rattle.rg_integers.proofs.Casts.{back}
use Rattle.rg_linear.specs.System.{LinearRow}
use Rattle.rg_branch.proofs.point.constant_at.Goals as goal

pub returns-clause-value : goal.returns-clause-value
returns-clause-value c =
    let is = ap (λ (r : LinearRow). r.constant) c.row.ensures.value in
    let h = subst InRange (sym is) (c.row.ensures.well_formed.constants c.args.row c.requires) in
    rw (back c.row.result.now.constant h) is

pub returns-clause-in_range : goal.returns-clause-in_range
returns-clause-in_range c =
    let h = subst InRange (sym (ap (λ (r : LinearRow). r.constant) c.row.ensures.value)) (c.row.ensures.well_formed.constants c.args.row c.requires) in
    rw (back c.row.result.now.constant h) h
