use Rattle.std.proofs.Common.{◌≡◌, ℕ, ◌<◌, length}
use Rattle.std.specs.Prelude.{slice_index}
use Rattle.rg_feasible.proofs.relation_table.number_columns.Given as goal

abbrev pub invariant-loop-column : goal.invariant-loop-column
invariant-loop-column l = record {
  same_length : length l.members ≡ length l.fn.members;
  done : (k : ℕ) → k < l.column → slice_index l.members k ≡ k;
}
