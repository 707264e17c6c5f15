use Rattle.std.proofs.Common.{◌≡◌, ◌-◌, ◌++◌, not}
use Rattle.rg_cycles.specs.View.{cycle_of}
use Rattle.rg_folds.specs.Substitution.{is_in, numbers_where, dependent_labels}
use Rattle.rg_cycles.proofs.substitution.dependent.Given as goal

abbrev pub invariant-loop-t : goal.invariant-loop-t
invariant-loop-t l = l.dependent.items ++ numbers_where (λ u. not (is_in (cycle_of l.basis).members u)) l.t (l.labels - l.t) ≡ dependent_labels l.labels (cycle_of l.basis)
