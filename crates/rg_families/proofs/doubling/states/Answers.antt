use Rattle.std.proofs.Common.{◌+◌, ◌∷◌, [], string_bytes}
use Rattle.rg_families.specs.Named.{names_of}
use Rattle.rg_families.specs.Doubling.{corner, middle}
use Rattle.rg_families.proofs.Lists.{some_more}
use Rattle.rg_families.proofs.Pushed.{pushed, pushed_two}
use Rattle.rg_families.proofs.doubling.states.Goals as goal

pub loop-i-preserved : goal.loop-i-preserved
loop-i-preserved c =
    let i = c.loop-i.i in
    let first = c.push-in-loop-i.new.self.items in
    let second = c.push-in-loop-i-2.new.self.items in
    some_more (corner 0 ∷ []) i (λ k. middle (k + 1) ∷ corner (k + 1) ∷ []) (names_of c.loop-i.names.items) (names_of second)
    (pushed_two (names_of c.loop-i.names.items) (names_of first) (names_of second) (middle (i + 1)) (corner (i + 1))
    (pushed string_bytes c.loop-i.names.items first c.in_ok-middle.field-0 (middle (i + 1)) c.in_ok-push-2.ensures.items c.in_ok-middle.ensures)
    (pushed string_bytes first second c.in_ok-corner-2.field-0 (corner (i + 1)) c.in_ok-push-3.ensures.items c.in_ok-corner-2.ensures)) c.loop-i.invariant
