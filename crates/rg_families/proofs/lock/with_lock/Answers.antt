use Rattle.std.proofs.Common.{ap, ◌∙◌}
use Rattle.rg_families.specs.Lock.{users_of}
use Rattle.rg_families.proofs.LockUsers.{with_made, without_made}
use Rattle.rg_families.proofs.lock.with_lock.Goals as goal

pub loop-preserved : goal.loop-preserved
loop-preserved c = record {
  with = with_made c.loop.counter (users_of c.new-with_more.result.items) (users_of c.push_led.new.all.items) (users_of c.push_led-in-loop.new.all.items) (users_of c.push_led-in-loop-2.new.all.items)
      (users_of c.deref.result.now) (users_of c.deref-in-loop.result.now) (users_of c.deref-in-loop-2.result.now) (ap users_of c.new-with_more.ensures.items)
      c.in_ok-push_led.ensures c.in_ok-push_led-2.ensures c.in_ok-push_led-3.ensures (ap users_of c.deref.ensures.value ∙ c.loop.invariant.with)
      (ap users_of c.deref-in-loop.ensures.value ∙ c.loop.invariant.with) (ap users_of c.deref-in-loop-2.ensures.value ∙ c.loop.invariant.without);
  without = without_made c.loop.counter (users_of c.new-without_more.result.items) (users_of c.push_led-in-loop-3.new.all.items) (users_of c.push_led-in-loop-4.new.all.items)
      (users_of c.deref-in-loop-3.result.now) (users_of c.deref-in-loop-4.result.now) (ap users_of c.new-without_more.ensures.items)
      c.in_ok-push_led-4.ensures c.in_ok-push_led-5.ensures (ap users_of c.deref-in-loop-3.ensures.value ∙ c.loop.invariant.without)
      (ap users_of c.deref-in-loop-4.ensures.value ∙ c.loop.invariant.without);
}
