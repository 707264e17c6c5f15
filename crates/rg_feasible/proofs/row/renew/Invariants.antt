use Rattle.rg_feasible.specs.Renewal.{RowInRange}
use Rattle.rg_feasible.proofs.Renewing.{RenewedBelow}
use Rattle.rg_feasible.proofs.row.renew.Given as goal

abbrev pub invariant-loop-e : goal.invariant-loop-e
invariant-loop-e l = record {
  renewed : RenewedBelow l.pivot l.fn.row l.row l.p l.e;
  in_range : RowInRange l.row;
}
