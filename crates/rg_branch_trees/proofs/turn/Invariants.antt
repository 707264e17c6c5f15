use Rattle.std.proofs.Common.{◌≡◌, ◌≤◌, length, take}
use Rattle.rg_branch_trees.specs.Turning.{turned}
use Rattle.rg_branch_trees.proofs.turn.Given as goal

abbrev pub invariant-loop-depth : goal.invariant-loop-depth
invariant-loop-depth g l = record {
  within : l.depth ≤ length l.above.items;
  past : turned (take l.depth l.above.items) ≡ turned l.fn.above.items;
}

abbrev pub decreases-loop-depth : goal.decreases-loop-depth
decreases-loop-depth g l = l.depth
