use Rattle.std.proofs.Common.{◌≡◌, ◌-◌, ◌++◌, not, ◌&&◌}
use Rattle.std.specs.Prelude.{pos}
use Rattle.std.specs.Ordering.{int_eq}
use Rattle.rg_integers.specs.Sum.{number_at}
use Rattle.rg_folds.specs.Substitution.{is_in, numbers_where}
use Rattle.rg_cycles.specs.View.{labels_of, cycle_of, counted_labels}
use Rattle.rg_cycles.proofs.substitution.list_counted.Given as goal

abbrev pub invariant-loop-t : goal.invariant-loop-t
invariant-loop-t l = l.counted.items ++ numbers_where (λ u. not (int_eq (number_at l.counts u) (pos 0)) && not (is_in (cycle_of l.basis).members u)) l.t (labels_of l.basis - l.t)
    ≡ counted_labels l.basis (number_at l.counts)
