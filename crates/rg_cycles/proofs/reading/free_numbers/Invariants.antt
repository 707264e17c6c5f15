use Rattle.std.proofs.Common.{◌≡◌, nat_lt, map, filter, take}
use Rattle.rg_linear.specs.Dictionary.{Relation}
use Rattle.rg_linear.specs.Table.{numbers_of}
use Rattle.rg_cycles.proofs.reading.free_numbers.Given as goal

abbrev pub invariant-loop-index : goal.invariant-loop-index
invariant-loop-index l = (k : Relation) → l.numbers ≡ numbers_of l.members k → l.free.items ≡ map k.coefficient (filter (λ m. nat_lt m l.labels) (take l.index l.members))
