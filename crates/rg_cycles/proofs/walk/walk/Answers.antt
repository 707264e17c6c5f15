use Rattle.std.proofs.Common.{refl, arith}
use Rattle.rg_linear.specs.Cycle.{CycleOutcome.free_set}
use Rattle.rg_cycles.proofs.Steps.{start_ahead, start_walk, end_walk}
use Rattle.rg_cycles.proofs.walk.walk.Goals as goal

pub loop-i-init : goal.loop-i-init
loop-i-init c = record {
  shape = record { columns = refl; rows = refl; room = refl };
  whole = λ system h. h;
  ahead = start_ahead c.args.dictionary.now c.requires.start;
  walk = start_walk c.args.dictionary.now c.requires.start;
}

pub returns-clause-ends : goal.returns-clause-ends
returns-clause-ends c = λ system h.
    let now = c.loop-i.invariant.whole system h in
    (now, c.loop-i.invariant.walk system (free_set c.loop-i.dictionary.members) h (end_walk c.loop-i.dictionary c.loop-i.i system now (let e = c.loop-i.invariant.shape.rows in omega arith)))
