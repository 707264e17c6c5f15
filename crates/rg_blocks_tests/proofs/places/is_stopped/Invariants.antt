use Rattle.std.specs.List.{AllWithin}
use Rattle.rg_blocks_tests.specs.Constant.{RegionStops}
use Rattle.rg_blocks_tests.proofs.places.is_stopped.Given as goal

abbrev pub invariant-loop-place : goal.invariant-loop-place
invariant-loop-place l = AllWithin (λ r. ¬ RegionStops l.t r) l.kept 0 l.place-index
