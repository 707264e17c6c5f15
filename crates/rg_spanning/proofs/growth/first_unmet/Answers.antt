-- A state that is met joins those so far.
use Rattle.std.proofs.Common.{Contains, below_more}
use Rattle.rg_spanning.proofs.growth.first_unmet.Goals as goal

pub loop-s-preserved : goal.loop-s-preserved
loop-s-preserved c = below_more (λ r. Contains c.args.growth.now.order.items r) _ c.loop-s.invariant (c.is_met.ensures.0 c.if-not-is_met.false)
