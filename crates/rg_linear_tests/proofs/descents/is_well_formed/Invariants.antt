use Rattle.std.proofs.Common.{ℕ, ◌<◌}
use Rattle.rg_linear.specs.System.{row_at}
use Rattle.rg_linear.specs.View.{linear_system}
use Rattle.rg_linear.proofs.KeptRows.{IsFine}
use Rattle.rg_linear_tests.proofs.descents.is_well_formed.Given as goal

abbrev pub invariant-loop-row : goal.invariant-loop-row
invariant-loop-row l = (i : ℕ) → i < l.row-index → IsFine l.columns (row_at (linear_system l.columns l.rows) i)
