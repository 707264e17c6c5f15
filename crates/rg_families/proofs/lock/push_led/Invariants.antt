use Rattle.std.proofs.Common.{◌≡◌, ◌++◌, ◌∷◌, map, take}
use Rattle.rg_families.specs.Lock.{users_of}
use Rattle.rg_families.proofs.lock.push_led.Given as goal

abbrev pub invariant-loop-rest : goal.invariant-loop-rest
invariant-loop-rest l = users_of l.all.items ≡ users_of l.fn.all.items ++ map (◌∷◌ l.first) (take l.rest-index (users_of l.rests))
