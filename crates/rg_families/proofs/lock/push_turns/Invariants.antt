use Rattle.std.proofs.Common.{◌≡◌, ◌++◌, map, get_or}
use Rattle.rg_families.specs.declared.lock.User.TheVariants.{Idle}
use Rattle.rg_families.specs.Named.{triple_of, each_below}
use Rattle.rg_families.specs.Lock.{turn}
use Rattle.rg_families.proofs.lock.push_turns.Given as goal

abbrev pub invariant-loop-k : goal.invariant-loop-k
invariant-loop-k l = map triple_of l.arcs.items ≡ map triple_of l.fn.arcs.items ++ each_below l.k (λ k. turn l.users k (get_or l.users k Idle))
