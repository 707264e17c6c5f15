use Rattle.std.proofs.Common.{◌≡◌, take}
use Rattle.rg_separate.specs.Keeping.{IsKeeping}
use Rattle.rg_separate.proofs.kept.Kept.known.Given as goal

abbrev pub invariant-loop-place : goal.invariant-loop-place
invariant-loop-place l = record {
  keeping : IsKeeping l.lts l.kept;
  places : l.kept.places.items ≡ take l.place-index l.places;
}
