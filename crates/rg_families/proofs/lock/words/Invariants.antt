use Rattle.std.proofs.Common.{◌≡◌, map, take}
use Rattle.rg_families.specs.Named.{names_of}
use Rattle.rg_families.specs.Lock.{word, users_of}
use Rattle.rg_families.proofs.lock.words.Given as goal

abbrev pub invariant-loop-users : goal.invariant-loop-users
invariant-loop-users l = names_of l.names.items ≡ map word (take l.users-index (users_of l.all))
