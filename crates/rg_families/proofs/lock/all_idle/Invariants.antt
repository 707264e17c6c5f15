use Rattle.std.proofs.Common.{◌≡◌, replicate}
use Rattle.std.specs.Prelude.{string_bytes}
use Rattle.rg_families.specs.declared.lock.User.TheVariants.{Idle}
use Rattle.rg_families.specs.Lock.{word}
use Rattle.rg_families.proofs.lock.all_idle.Given as goal

abbrev pub invariant-loop : goal.invariant-loop
invariant-loop l = string_bytes l.name ≡ word (replicate l.counter Idle)
