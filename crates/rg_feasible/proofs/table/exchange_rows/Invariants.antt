use Rattle.std.proofs.Common.{◌≡◌, ℕ, ◌≤◌, length}
use Rattle.rg_feasible.specs.Renewal.{RowInRange, RowsExchanged}
use Rattle.rg_linear.specs.Table.{row_at}
use Rattle.rg_linear.proofs.MemberIndices.{AreBelow}
use Rattle.rg_feasible.proofs.table.exchange_rows.Given as goal

abbrev pub invariant-loop-w : goal.invariant-loop-w
invariant-loop-w l = record {
  rows : RowsExchanged l.members l.pivot (length l.pivot_row) l.pivot_row l.fn.table l.table l.p l.q l.w;
  in_range : RowInRange l.table;
  passed : AreBelow l.members l.next l.w;
  left : (v : ℕ) → l.w ≤ v → row_at (length l.pivot_row) l.table v ≡ row_at (length l.pivot_row) l.fn.table v;
}
