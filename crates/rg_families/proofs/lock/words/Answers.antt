use Rattle.std.proofs.Common.{[], string_bytes, ap, ◌∙◌}
use Rattle.rg_families.specs.Named.{names_of}
use Rattle.rg_families.specs.Lock.{word, items_of}
use Rattle.rg_families.proofs.Pushed.{pushed, one_taken}
use Rattle.rg_families.proofs.lock.words.Goals as goal

pub loop-users-preserved : goal.loop-users-preserved
loop-users-preserved c =
    let users = c.users-item.result in
    one_taken items_of word c.args.all.now c.loop-users.users-index users [] (names_of c.loop-users.names.items) (names_of c.push.new.self.items) c.loop-users-test.true c.users-item.is
    (pushed string_bytes c.loop-users.names.items c.push.new.self.items c.in_ok-word.field-0 (word users.items) c.in_ok-push.ensures.items
    (c.in_ok-word.ensures ∙ ap word c.deref.ensures.value)) c.loop-users.invariant
