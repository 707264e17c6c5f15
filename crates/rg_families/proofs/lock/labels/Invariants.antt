use Rattle.std.proofs.Common.{◌≡◌, ◌∷◌, []}
use Rattle.rg_families.specs.Named.{names_of, each_below}
use Rattle.rg_families.specs.Lock.{ask, get, put}
use Rattle.rg_families.proofs.lock.labels.Given as goal

abbrev pub invariant-loop-k : goal.invariant-loop-k
invariant-loop-k l = names_of l.names.items ≡ each_below l.k (λ k. ask k ∷ get k ∷ put k ∷ [])
