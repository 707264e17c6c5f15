use Rattle.std.proofs.Common.{◌≡◌, take}
use Rattle.rg_verify.proofs.Leftovers.{TellsFirst}
use Rattle.rg_verify.proofs.sums.Sums.first_nonzero.Given as goal

abbrev pub invariant-loop-variable : goal.invariant-loop-variable
invariant-loop-variable l = record {
  items : l.variable-items ≡ l.self.touched.items;
  found : TellsFirst l.self (take l.variable-index l.variable-items) l.first;
}
