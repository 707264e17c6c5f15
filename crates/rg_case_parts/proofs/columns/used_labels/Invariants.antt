use Rattle.std.specs.Prelude.{◌≡◌, ℕ, ◌<◌, false, length, take, slice_index_or}
use Rattle.rg_theory.specs.System.{labels}
use Rattle.rg_case_folds.specs.Rewriting.{has_label}
use Rattle.rg_case_parts.proofs.columns.used_labels.Given as goal

abbrev pub invariant-loop-a : goal.invariant-loop-a
invariant-loop-a l = record {
  one_each : length l.used.items ≡ labels l.lts;
  each : (t : ℕ) → t < labels l.lts → slice_index_or l.used.items t false ≡ has_label t (take l.a-index l.lts.arcs);
}
