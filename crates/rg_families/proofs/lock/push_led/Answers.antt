use Rattle.std.proofs.Common.{◌≡◌, ◌∷◌, ◌++◌, ap, ◌∙◌}
use Rattle.rg_families.specs.Lock.{users_of, items_of}
use Rattle.rg_families.proofs.Pushed.{pushed, one_taken}
use Rattle.rg_families.proofs.lock.push_led.Goals as goal

pub loop-rest-preserved : goal.loop-rest-preserved
loop-rest-preserved c =
    let rest = c.rest-item.result in
    let users = c.extend_from_slice.new.self in
    let led : users.items ≡ c.args.first ∷ rest.items =
    c.in_ok-extend_from_slice.ensures.items ∙ ap (λ l. l ++ c.deref.result.now) c.in_ok-users.ensures.items ∙ ap (λ l. c.args.first ∷ l) c.deref.ensures.value in
    one_taken items_of (◌∷◌ c.args.first) c.args.rests.now c.loop-rest.rest-index rest (users_of c.args.all.now.items) (users_of c.loop-rest.all.items) (users_of c.push.new.self.items)
    c.loop-rest-test.true c.rest-item.is (pushed items_of c.loop-rest.all.items c.push.new.self.items users (c.args.first ∷ rest.items) c.in_ok-push.ensures.items led) c.loop-rest.invariant
