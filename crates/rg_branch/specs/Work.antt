-- How much of a tree is left to do, a number that no code computes.
use Rattle.std.specs.Prelude.{ℕ, ◌+◌, ◌^◌, if◌then◌else◌, List, [], ◌∷◌, ◌++◌, reverse}
use Rattle.rg_branch_trees.specs.Trees.{high_side}
use Rattle.rg_linear.specs.Branching.{Form, SplitSide}
use Rattle.rg_linear.specs.Room.{room}

-- the high sides of the splits whose low side is on the way, innermost first
abbrev pub pending : List Form → List SplitSide → ℕ
pending forms [] = 0
pending forms (side ∷ outer) = (if side.high then 0 else 3 ^ room forms (reverse outer ++ high_side side.form side.at ∷ [])) + pending forms outer

-- the node below the splits, and those
abbrev pub work : List Form → List SplitSide → ℕ
work forms above = 3 ^ room forms above + pending forms (reverse above)
