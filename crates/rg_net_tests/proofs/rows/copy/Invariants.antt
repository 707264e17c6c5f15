use Rattle.std.proofs.Common.{◌≡◌, map, take}
use Rattle.rg_net.specs.Shown.{shown_place}
use Rattle.rg_net_tests.proofs.rows.copy.Given as goal

-- the copies of the places before this one
abbrev pub invariant-loop-place : goal.invariant-loop-place
invariant-loop-place l = map shown_place l.copies.items ≡ map shown_place (take l.place-index l.places)
