-- The nodes of a tree in preorder tell the tree.
use Rattle.std.proofs.Common.{◌≡◌, List, [], ◌∷◌, ◌++◌, append-nil, append_assoc, refl, sym, ap, ◌∙◌}
use Rattle.rg_branch_trees.specs.Trees.{Tree.leaf, Tree.split, preorder}
use Rattle.rg_cert_meaning.specs.Refutes.{Tree}
use Rattle.rg_cert_data.specs.Trees.{TreeNode, IsWholeTree, joined, trees_of, first_tree, tree_of}

-- the first of the trees that stand one after the other
pub trees_preorder : (tree : Tree) (more : List TreeNode) → trees_of (preorder tree ++ more) ≡ tree ∷ trees_of more
trees_preorder (leaf rows) more = refl
trees_preorder (split form at low high) more =
    ap (λ nodes. joined form at (trees_of nodes)) (append_assoc (preorder low) (preorder high) more)
    ∙ ap (joined form at) (trees_preorder low (preorder high ++ more) ∙ ap (λ trees. low ∷ trees) (trees_preorder high more))

-- the tree that whole nodes are
pub tree_is : (nodes : List TreeNode) (tree : Tree) → IsWholeTree nodes tree → tree_of nodes ≡ tree
tree_is nodes tree is = ap tree_of (is ∙ sym (append-nil (preorder tree))) ∙ ap first_tree (trees_preorder tree [])

-- nodes are those of one tree at most
pub one_tree : (nodes : List TreeNode) (a b : Tree) → IsWholeTree nodes a → IsWholeTree nodes b → a ≡ b
one_tree nodes a b x y = sym (tree_is nodes a x) ∙ tree_is nodes b y

-- nodes of some whole tree are those of the tree that they are
pub whole_is : (nodes : List TreeNode) (tree : Tree) → IsWholeTree nodes tree → IsWholeTree nodes (tree_of nodes)
whole_is nodes tree is = is ∙ ap preorder (sym (tree_is nodes tree is))
