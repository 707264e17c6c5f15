-- The tree grows, and the states before the index are settled.
use Rattle.std.proofs.Common.{◌-◌, ◌≤◌, length}
use Rattle.rg_theory.specs.System.{states}
use Rattle.rg_spanning.specs.Growing.{IsGrowing, IsSettled}
use Rattle.rg_spanning.proofs.growth.grow_tree.Given as goal

abbrev pub invariant-loop-index : goal.invariant-loop-index
invariant-loop-index l = record {
  growing : IsGrowing l.lts l.growth.order.items l.growth.arcs.items l.growth.entries.items;
  settled : IsSettled l.lts l.growth.order.items l.index;
  within : l.index ≤ length l.growth.order.items;
}

abbrev pub decreases-loop-index : goal.decreases-loop-index
decreases-loop-index l = states l.lts - l.index
