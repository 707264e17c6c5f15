use Rattle.std.proofs.Common.{refl, sym}
use Rattle.rg_blocks_tests.proofs.places.is_stopped.Goals as goal

pub returns-then-stops : goal.returns-then-stops
returns-then-stops c = ((λ _. (c.loop-place.place-index, c.place-item.result, c.loop-place-test.true, sym c.place-item.is, c.stops.ensures.0 c.if-stops.true)), (λ _. refl))
