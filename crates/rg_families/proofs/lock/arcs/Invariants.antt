use Rattle.std.proofs.Common.{◌≡◌, map, take}
use Rattle.std.specs.List.{flat_map}
use Rattle.rg_families.specs.Named.{triple_of}
use Rattle.rg_families.specs.Lock.{turns, users_of}
use Rattle.rg_families.proofs.lock.arcs.Given as goal

abbrev pub invariant-loop-users : goal.invariant-loop-users
invariant-loop-users l = map triple_of l.arcs.items ≡ flat_map turns (take l.users-index (users_of l.all))
