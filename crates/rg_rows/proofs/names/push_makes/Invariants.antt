use Rattle.std.proofs.Common.{◌≡◌, ◌-◌, ◌++◌, ◌==◌, ◌&&◌, not, false, map, length}
use Rattle.std.specs.Prelude.{slice_index_or}
use Rattle.rg_folds.specs.Substitution.{numbers_where}
use Rattle.rg_rows.specs.View.{makers}
use Rattle.rg_rows.proofs.names.push_makes.Given as goal
use Rattle.rg_cert_meaning.specs.declared.RowName.TheVariants as row_name

abbrev pub invariant-loop-u : goal.invariant-loop-u
invariant-loop-u l = l.names.items ++ map row_name.Makes
    (numbers_where (λ u. slice_index_or l.used u false && not (u == l.consumer)) l.u (length l.used - l.u))
    ≡ l.fn.names.items ++ map row_name.Makes (makers l.used l.consumer)
