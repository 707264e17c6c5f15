use Rattle.std.proofs.Common.{◌≤◌, ◌++◌, length, map, subst, sym, ap, ◌∙◌}
use Rattle.std.proofs.lemmas.List.Elements.{All-contains}
use Rattle.rg_families.specs.Named.{triple_of}
use Rattle.rg_families.specs.Lock.{most_lock, Users, users_of, items_of, turns}
use Rattle.rg_families.proofs.Pushed.{some_taken}
use Rattle.rg_families.proofs.Built.{item_there}
use Rattle.rg_families.proofs.lock.arcs.Goals as goal

pub push_turns-requires : goal.push_turns-requires
push_turns-requires c =
    let users = c.users-item.result in
    subst (λ (u : Users). length u ≤ most_lock) (sym c.deref.ensures.value)
    (All-contains (λ (u : Users). length u ≤ most_lock) (users_of c.args.all.now) users.items c.requires
    (item_there items_of c.args.all.now c.loop-users.users-index users c.loop-users-test.true c.users-item.is))

pub loop-users-preserved : goal.loop-users-preserved
loop-users-preserved c =
    some_taken items_of turns c.args.all.now c.loop-users.users-index c.users-item.result (map triple_of c.loop-users.arcs.items) (map triple_of c.push_turns.new.arcs.items)
    c.loop-users-test.true c.users-item.is (c.in_ok-push_turns.ensures ∙ ap (λ u. map triple_of c.loop-users.arcs.items ++ turns u) c.deref.ensures.value) c.loop-users.invariant
