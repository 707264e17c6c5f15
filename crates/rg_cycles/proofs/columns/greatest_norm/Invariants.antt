use Rattle.std.proofs.Common.{ℕ, ◌^◌, ◌<◌, ◌≤◌}
use Rattle.std.specs.Prelude.{pos, slice_index}
use Rattle.rg_linear.specs.Norm.{row_norm}
use Rattle.rg_linear.specs.Cycle.{vector_at}
use Rattle.rg_cycles.proofs.columns.greatest_norm.Given as goal

abbrev pub invariant-loop-index : goal.invariant-loop-index
invariant-loop-index g l = l.greatest < 2 ^ 63 → (k : ℕ) → k < l.index-index → row_norm (vector_at (g.R.ChordRows.rows l.rows) (slice_index l.kept k)) (pos 0) ≤ l.greatest
