use Rattle.std.proofs.Common.{◌≡◌, map, take}
use Rattle.rg_split.specs.Lifting.{with_copy}
use Rattle.rg_split.proofs.lifting.lift.Given as goal

abbrev pub invariant-loop-place : goal.invariant-loop-place
invariant-loop-place l = l.lifted.items ≡ take l.place-index (map (with_copy l.label) l.places)
