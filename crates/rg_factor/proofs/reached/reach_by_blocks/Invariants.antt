use Rattle.std.proofs.Common.{◌==◌, map, filter, slice_index}
use Rattle.std.specs.List.{range_with_len, AllZip}
use Rattle.rg_product.specs.Factoring.{AreReachedBy}
use Rattle.rg_factor.specs.Blocks.{block_at}
use Rattle.rg_factor.proofs.reached.reach_by_blocks.Given as goal

abbrev pub invariant-loop-t : goal.invariant-loop-t
invariant-loop-t l = AllZip (AreReachedBy l.lts) (map (block_at l.leasts) (filter (λ t. slice_index l.leasts t == t) (range_with_len 0 l.t))) (map (λ r. r.items) l.all.items)
