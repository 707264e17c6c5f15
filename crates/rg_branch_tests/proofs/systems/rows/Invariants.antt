use Rattle.std.proofs.Common.{◌≡◌, All, length}
use Rattle.rg_linear.specs.View.{linear_row}
use Rattle.rg_linear.proofs.KeptRows.{IsFine}
use Rattle.rg_branch_tests.proofs.systems.rows.Given as goal

abbrev pub invariant-loop-one : goal.invariant-loop-one
invariant-loop-one l = record {
  count : length l.rows.items ≡ l.one-index;
  fine : All (λ row. IsFine l.columns (linear_row row)) l.rows.items;
}
