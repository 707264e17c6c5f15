use Rattle.std.proofs.Common.{◌<◌, ◌≡◌, length, length-set, refl, arith, ◌∙◌}
use Rattle.std.specs.Prelude.{pos}
use Rattle.rg_linear.proofs.TableRows.{below_set}
use Rattle.rg_revised.proofs.long_reading.clear_long.Goals as goal

pub loop-s-preserved : goal.loop-s-preserved
loop-s-preserved c =
    let lt : c.loop-s.s < length c.loop-s.sums = omega arith in
    record {
      same_length = length-set c.loop-s.sums c.loop-s.s _ ∙ c.loop-s.invariant.same_length;
      done = below_set (λ k z. z ≡ pos 0) c.loop-s.sums c.loop-s.s (pos 0) lt c.loop-s.invariant.done refl;
    }
