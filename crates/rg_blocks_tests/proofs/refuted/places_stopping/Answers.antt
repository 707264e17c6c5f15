use Rattle.rg_blocks_tests.proofs.ConstantLemmas.{one_more}
use Rattle.rg_blocks_tests.proofs.refuted.places_stopping.Goals as goal

pub loop-t-preserved : goal.loop-t-preserved
loop-t-preserved c =
    one_more c.args.lts.now c.loop-t.places.items c.push.new.self.items c.in-Ok.place c.loop-t.invariant c.in-Ok.ensures.empty.constant c.in-Ok-push.ensures.items
