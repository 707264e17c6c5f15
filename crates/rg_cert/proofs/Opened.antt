-- Nodes that go on to a whole tree.
use Rattle.std.proofs.Common.{ℕ, suc, List, [], ◌∷◌, ◌++◌, append-nil, append_assoc, refl, sym, ap, ◌∙◌, arith}
use Rattle.std.specs.List.{flat_map}
use Rattle.std.specs.Prelude.{ℤ}
use Rattle.rg_cert_meaning.specs.declared.Form.{Form}
use Rattle.rg_branch_trees.specs.Trees.{Tree.leaf, Tree.split, TreeNode.leaf_node, TreeNode.split_node, preorder}
use Rattle.rg_cert_meaning.specs.Refutes.{NamedRow, Tree}
use Rattle.rg_cert_data.specs.Trees.{TreeNode, IsWholeTree}
use Rattle.rg_cert.specs.Drafts.{IsOpen}

-- no node yet, and one tree due
pub open_start : IsOpen [] 1
open_start [] one = absurd (omega (arith, one))
open_start (tree ∷ []) one = (tree, append-nil (preorder tree))
open_start (tree ∷ next ∷ more) one = absurd (omega (arith, one))

-- a leaf is a tree
pub open_leaf : (nodes : List TreeNode) (rows : List NamedRow) (due : ℕ) → IsOpen nodes (suc due) → IsOpen (nodes ++ leaf_node rows ∷ []) due
open_leaf nodes rows due is trees long =
    let whole = is (leaf rows ∷ trees) (ap suc long) in
    (whole.0, append_assoc nodes (leaf_node rows ∷ []) (flat_map preorder trees) ∙ whole.1)

-- a split makes one tree of two
pub open_split : (nodes : List TreeNode) (form : Form) (at : ℤ) (due : ℕ) → IsOpen nodes (suc due) → IsOpen (nodes ++ split_node form at ∷ []) (suc (suc due))
open_split nodes form at due is [] long = absurd (omega (arith, long))
open_split nodes form at due is (tree ∷ []) long = absurd (omega (arith, long))
open_split nodes form at due is (low ∷ high ∷ more) long =
    let whole = is (split form at low high ∷ more) (omega (arith, long)) in (
      whole.0,
      append_assoc nodes (split_node form at ∷ []) (flat_map preorder (low ∷ high ∷ more))
          ∙ ap (λ l. nodes ++ split_node form at ∷ l) (sym (append_assoc (preorder low) (preorder high) (flat_map preorder more))) ∙ whole.1,
    )

-- where no tree is due the nodes are a whole one
pub open_whole : (nodes : List TreeNode) → IsOpen nodes 0 → (tree : Tree) × IsWholeTree nodes tree
open_whole nodes is = let whole = is [] refl in (whole.0, sym (append-nil nodes) ∙ whole.1)
