-- The way through a tree of splits in preorder.
use Rattle.std.specs.Prelude.{true, List, [], ◌∷◌, reverse, if◌then◌else◌}
use Rattle.rg_branch_trees.specs.declared.Side.{Side}

-- the sides above the next node where a tree is done, innermost first: the innermost low side becomes the high one
abbrev pub turned_back : {F : Type 0} → List (Side F) → List (Side F)
turned_back [] = []
turned_back (side ∷ outer) = if side.high then turned_back outer else (record side { high = true } ∷ outer)

-- the same, outermost first
abbrev pub turned : {F : Type 0} → List (Side F) → List (Side F)
turned above = reverse (turned_back (reverse above))
