use Rattle.std.proofs.Common.{◌≡◌, ◌-◌, ◌++◌, false, map, length}
use Rattle.std.specs.Prelude.{slice_index_or}
use Rattle.rg_folds.specs.Substitution.{numbers_where}
use Rattle.rg_rows.specs.View.{users}
use Rattle.rg_rows.proofs.names.push_ups.Given as goal
use Rattle.rg_cert_meaning.specs.declared.RowName.TheVariants as row_name

abbrev pub invariant-loop-t : goal.invariant-loop-t
invariant-loop-t l = l.names.items ++ map row_name.Up (numbers_where (λ t. slice_index_or l.used t false) l.t (length l.used - l.t)) ≡ l.fn.names.items ++ map row_name.Up (users l.used)
