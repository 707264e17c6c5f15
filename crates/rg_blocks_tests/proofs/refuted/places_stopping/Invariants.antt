use Rattle.std.proofs.Common.{All}
use Rattle.rg_blocks_tests.specs.Constant.{RegionIsConstant}
use Rattle.rg_blocks_tests.proofs.refuted.places_stopping.Given as goal

abbrev pub invariant-loop-t : goal.invariant-loop-t
invariant-loop-t l = All (RegionIsConstant l.lts) l.places.items
