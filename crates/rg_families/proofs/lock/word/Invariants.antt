use Rattle.std.proofs.Common.{◌≡◌, take}
use Rattle.std.specs.Prelude.{string_bytes}
use Rattle.rg_families.specs.Lock.{word}
use Rattle.rg_families.proofs.lock.word.Given as goal

abbrev pub invariant-loop-user : goal.invariant-loop-user
invariant-loop-user l = string_bytes l.name ≡ word (take l.user-index l.users)
