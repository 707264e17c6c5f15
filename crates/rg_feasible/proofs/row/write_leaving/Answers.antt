use Rattle.std.proofs.Common.{arith, subst, sym}
use Rattle.rg_feasible.specs.Renewal.{RowInRange}
use Rattle.rg_feasible.proofs.Moving.{in_range-moved}
use Rattle.rg_feasible.proofs.row.write_leaving.Goals as goal

pub returns-clause-in_range : goal.returns-clause-in_range
returns-clause-in_range c = subst RowInRange (sym c.move_number.ensures)
    (in_range-moved c.turn.new.row c.args.p c.args.q (omega (arith, c.turn.ensures.turned.same_length))
    (omega (arith, c.turn.ensures.turned.same_length)) c.turn.ensures.in_range)
