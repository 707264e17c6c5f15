-- All labels of the pairs so far lead on to pairs.
use Rattle.std.proofs.Common.{◌-◌}
use Rattle.rg_theory.specs.System.{states}
use Rattle.rg_iso.specs.Pairing.{pairs_in, IsFollowedTo}
use Rattle.rg_iso.proofs.comparing.walk.Given as goal

abbrev pub invariant-loop-index : goal.invariant-loop-index
invariant-loop-index l = IsFollowedTo l.a l.b (pairs_in l.pairing) l.index 0

abbrev pub decreases-loop-index : goal.decreases-loop-index
decreases-loop-index l = states l.a - l.index
