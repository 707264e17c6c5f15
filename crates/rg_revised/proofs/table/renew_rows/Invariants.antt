use Rattle.std.proofs.Common.{◌≡◌, ℕ, ◌≤◌, length}
use Rattle.std.specs.Prelude.{unsigned_abs}
use Rattle.rg_linear.specs.Table.{row_at}
use Rattle.rg_revised.specs.Rows.{TableRenewed}
use Rattle.rg_revised.specs.Supports.{AreSupports}
use Rattle.rg_revised.specs.Starting.{AreUnitWhereUnchanged}
use Rattle.rg_revised.proofs.table.renew_rows.Given as goal

abbrev pub invariant-loop-t : goal.invariant-loop-t
invariant-loop-t l = record {
  rows : TableRenewed (length l.pivot.numbers.now) l.pivot.numbers.now l.fn.table l.table l.pivot.p l.pivot.negative l.d.value (unsigned_abs l.most) l.t;
  left : (v : ℕ) → l.t ≤ v → row_at (length l.pivot.numbers.now) l.table v ≡ row_at (length l.pivot.numbers.now) l.fn.table v;
  supports : AreSupports (length l.pivot.numbers.now) l.fn.table l.fn.supports → AreSupports (length l.pivot.numbers.now) l.table l.supports;
  unit : AreUnitWhereUnchanged (length l.pivot.numbers.now) l.changed l.table;
}
