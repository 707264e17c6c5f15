use Rattle.std.proofs.Common.{◌≡◌, map, take}
use Rattle.rg_net.specs.Shown.{shown_place}
use Rattle.rg_prune.proofs.pruning.compact_all.Given as goal

abbrev pub invariant-loop-place : goal.invariant-loop-place
invariant-loop-place l = l.all.items ≡ map shown_place (take l.place-index l.places)
