-- The labels so far lead on to pairs.
use Rattle.std.proofs.Common.{◌<◌, length}
use Rattle.rg_iso.specs.Pairing.{pairs_in, IsFollowedTo}
use Rattle.rg_iso.proofs.comparing.follow.Given as goal

abbrev pub invariant-loop-t : goal.invariant-loop-t
invariant-loop-t l = record {
  within : l.index < length l.pairing.order.items;
  followed : IsFollowedTo l.a l.b (pairs_in l.pairing) l.index l.t;
}
