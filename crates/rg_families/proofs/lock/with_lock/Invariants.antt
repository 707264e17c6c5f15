use Rattle.std.proofs.Common.{◌≡◌}
use Rattle.rg_families.specs.Lock.{users_of, with_lock, without_lock}
use Rattle.rg_families.proofs.lock.with_lock.Given as goal

abbrev pub invariant-loop : goal.invariant-loop
invariant-loop l = record {
  with : users_of l.with_lock.items ≡ with_lock l.counter;
  without : users_of l.without_lock.items ≡ without_lock l.counter;
}
