use Rattle.std.proofs.Common.{◌≡◌, length, vec_len}
use Rattle.rg_theory.specs.System.{states}
use Rattle.rg_prune.proofs.Asking.{AskedSoFar}
use Rattle.rg_prune.proofs.pruning.drop_unneeded.Given as goal

abbrev pub invariant-loop-place : goal.invariant-loop-place
invariant-loop-place l = record {
  asked : AskedSoFar l.lts l.fn.places.items l.places.items l.all_firsts.items l.left.items l.separated;
  one_each : length l.tokens.items ≡ states l.lts;
}

abbrev pub decreases-loop-place : goal.decreases-loop-place
decreases-loop-place l = vec_len l.places
