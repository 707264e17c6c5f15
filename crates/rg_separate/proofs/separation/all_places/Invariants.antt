use Rattle.std.proofs.Common.{◌≡◌, map, take}
use Rattle.rg_net.specs.Shown.{shown_place}
use Rattle.rg_separate.proofs.separation.all_places.Given as goal

abbrev pub invariant-loop-place : goal.invariant-loop-place
invariant-loop-place l = map shown_place l.all.items ≡ take l.place-index l.places
