use Rattle.rg_folds.specs.Fold.{add, ratio_of}
use Rattle.rg_places.proofs.Renewing.{RenewedBefore}
use Rattle.rg_places.proofs.numbers.add_to_each.Given as goal

abbrev pub invariant-loop-k : goal.invariant-loop-k
invariant-loop-k l = RenewedBefore (λ m. add m (ratio_of l.by)) l.fn.numbers.items l.k l.raised.items
