-- Trees of splits, and their nodes in preorder.
use Rattle.std.specs.Prelude.{List, [], ◌∷◌, ◌++◌, true, false, ℤ}
use Rattle.rg_branch_trees.specs.declared.Side.{Side}

-- a tree of splits, with L at its leaves; each split is on a form at a number, and has a low and a high side
pub data Tree (L F : Type 0) : Type 0 where
  leaf : L → Tree L F
  split : F → ℤ → Tree L F → Tree L F → Tree L F

-- a node of a tree, without what is below it
pub data TreeNode (L F : Type 0) : Type 0 where
  leaf_node : L → TreeNode L F
  split_node : F → ℤ → TreeNode L F

-- each split, then its low side, then its high side
abbrev pub preorder : {L F : Type 0} → Tree L F → List (TreeNode L F)
preorder (leaf l) = leaf_node l ∷ []
preorder (split form at low high) = split_node form at ∷ (preorder low ++ preorder high)

abbrev pub low_side : {F : Type 0} → F → ℤ → Side F
low_side form at = record { form = form; at = at; high = false }

abbrev pub high_side : {F : Type 0} → F → ℤ → Side F
high_side form at = record { form = form; at = at; high = true }

-- a node of a tree: the sides above it, outermost first, and what it is
pub record PlacedNode (L F : Type 0) : Type 0 where
  pub above : List (Side F)
  pub node : TreeNode L F

-- the nodes in preorder of a tree below the sides
abbrev pub placed_nodes : {L F : Type 0} → List (Side F) → Tree L F → List (PlacedNode L F)
placed_nodes above (leaf l) = record { above = above; node = leaf_node l } ∷ []
placed_nodes above (split form at low high) =
    record { above = above; node = split_node form at }
    ∷ (placed_nodes (above ++ low_side form at ∷ []) low ++ placed_nodes (above ++ high_side form at ∷ []) high)
