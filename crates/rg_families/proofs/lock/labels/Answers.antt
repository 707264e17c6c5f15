use Rattle.std.proofs.Common.{◌∷◌, [], string_bytes}
use Rattle.rg_families.specs.Named.{names_of}
use Rattle.rg_families.specs.Lock.{ask, get, put}
use Rattle.rg_families.proofs.Lists.{some_more}
use Rattle.rg_families.proofs.Pushed.{pushed, pushed_three}
use Rattle.rg_families.proofs.lock.labels.Goals as goal

pub loop-k-preserved : goal.loop-k-preserved
loop-k-preserved c =
    let k = c.loop-k.k in
    let first = c.push.new.self.items in
    let second = c.push-in-loop-k.new.self.items in
    let third = c.push-in-loop-k-2.new.self.items in
    some_more [] k (λ i. ask i ∷ get i ∷ put i ∷ []) (names_of c.loop-k.names.items) (names_of third)
    (pushed_three (names_of c.loop-k.names.items) (names_of first) (names_of second) (names_of third) (ask k) (get k) (put k)
    (pushed string_bytes c.loop-k.names.items first c.in_ok-ask.field-0 (ask k) c.in_ok-push.ensures.items c.in_ok-ask.ensures)
    (pushed string_bytes first second c.in_ok-get.field-0 (get k) c.in_ok-push-2.ensures.items c.in_ok-get.ensures)
    (pushed string_bytes second third c.in_ok-put.field-0 (put k) c.in_ok-push-3.ensures.items c.in_ok-put.ensures)) c.loop-k.invariant
