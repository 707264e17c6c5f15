use Rattle.std.proofs.Common.{arith, subst, sym}
use Rattle.rg_feasible.specs.Renewal.{RowInRange}
use Rattle.rg_feasible.proofs.Moving.{in_range-moved}
use Rattle.rg_feasible.proofs.row.exchange_row.Goals as goal
use Rattle.rg_feasible.proofs.row.exchange_row.Goals.{then-row-p-ne0+in-Ok, else-row-p-ne0}

pub returns-clause-in_range : goal.returns-clause-in_range
returns-clause-in_range c =
    let same = c.if-row-p-ne0.auto.row in
    let fits : RowInRange c.if-row-p-ne0.row = elim c.if-row-p-ne0.branch [
      | then-row-p-ne0+in-Ok w ↦ subst RowInRange (sym w.row-is) (λ n lt. w.reduce.ensures.in_range n (omega arith))
      | else-row-p-ne0 w ↦ subst RowInRange (sym w.row-is) c.requires.in_range
    ] in
    subst RowInRange (sym c.move_number.ensures) (in_range-moved c.if-row-p-ne0.row c.args.p c.args.q (omega arith) (omega arith) fits)
