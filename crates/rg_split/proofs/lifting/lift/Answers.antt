use Rattle.std.proofs.Common.{ap, ◌∙◌}
use Rattle.rg_split.specs.Lifting.{with_copy}
use Rattle.rg_split.proofs.LiftedPlaces.{lifted_next}
use Rattle.rg_split.proofs.lifting.lift.Goals as goal

pub loop-place-preserved : goal.loop-place-preserved
loop-place-preserved c =
    lifted_next c.args.label c.loop-place.place-index c.args.places.now c.loop-place.lifted.items c.push.new.self.items c.place-item.result c.in_ok-new.field-0 c.loop-place-test.true c.place-item.is
    (c.in_ok-new.ensures ∙ c.in_ok-copy_weights.ensures ∙ ap (with_copy c.args.label) c.in_ok-place.ensures) c.loop-place.invariant c.in_ok-push.ensures.items
