use Rattle.std.proofs.Common.{ℕ, ◌<◌, ◌≢◌}
use Rattle.std.specs.Prelude.{slice_index_or}
use Rattle.rg_rows.proofs.forms.index_of.Given as goal
use Rattle.rg_cert_meaning.specs.declared.RowName.{RowName}

abbrev pub invariant-loop-i : goal.invariant-loop-i
invariant-loop-i l = (k : ℕ) (d : RowName) → k < l.i → slice_index_or l.names k d ≢ l.name
