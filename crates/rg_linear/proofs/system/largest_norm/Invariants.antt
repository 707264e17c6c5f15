use Rattle.std.proofs.Common.{◌≡◌, map}
use Rattle.rg_linear.specs.Norm.{greatest, norm_at, kept_norm}
use Rattle.rg_linear.specs.View.{linear_row}
use Rattle.rg_linear.proofs.system.largest_norm.Given as goal

abbrev pub invariant-loop-row : goal.invariant-loop-row
invariant-loop-row l = l.largest ≡ kept_norm (greatest l.row-index (norm_at (map linear_row l.rows)))
