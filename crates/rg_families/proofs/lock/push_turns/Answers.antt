use Rattle.std.proofs.Common.{map, get_or}
use Rattle.rg_families.specs.declared.lock.User.TheVariants.{Idle}
use Rattle.rg_families.specs.Named.{triple_of}
use Rattle.rg_families.specs.Lock.{turn}
use Rattle.rg_families.proofs.Lists.{some_more}
use Rattle.rg_families.proofs.lock.push_turns.Goals as goal

pub loop-k-preserved : goal.loop-k-preserved
loop-k-preserved c =
    some_more (map triple_of c.args.arcs.now.items) c.loop-k.k (λ k. turn c.args.users.now k (get_or c.args.users.now k Idle)) (map triple_of c.loop-k.arcs.items)
    (map triple_of c.push_turn.new.arcs.items) c.in_ok-push_turn.ensures c.loop-k.invariant
