-- The trees of certificates, and the lists of nodes that write them down.
use Rattle.std.specs.Prelude.{◌≡◌, List, [], ◌∷◌, ◌++◌, map, ℤ}
use Rattle.rg_cert_meaning.specs.declared.RowName.{RowName}
use Rattle.rg_cert_meaning.specs.declared.Form.{Form}
use Rattle.rg_branch_trees.specs.Trees as splits
use Rattle.rg_branch_trees.specs.Trees.{Tree.leaf, Tree.split, TreeNode.leaf_node, TreeNode.split_node, preorder}
use Rattle.rg_cert_meaning.specs.Refutes.{NamedRow, Tree}
use Rattle.rg_cert_data.specs.declared.certificate.Node.{Node}
use Rattle.rg_cert_data.specs.declared.certificate.Node.TheVariants.{Leaf, Split}
use Rattle.rg_cert_data.specs.declared.certificate.Case.{Case}

-- a node of a tree
abbrev pub TreeNode : Type 0
TreeNode = splits.TreeNode (List NamedRow) Form

-- the nodes are those of one whole tree
abbrev pub IsWholeTree : List TreeNode → Tree → Type 0
IsWholeTree nodes tree = nodes ≡ preorder tree

-- the first two trees become the sides of a split
abbrev pub joined : Form → ℤ → List Tree → List Tree
joined form at (low ∷ high ∷ more) = split form at low high ∷ more
joined form at trees = trees

-- the trees whose nodes are listed one after the other
abbrev pub trees_of : List TreeNode → List Tree
trees_of [] = []
trees_of (leaf_node rows ∷ more) = leaf rows ∷ trees_of more
trees_of (split_node form at ∷ more) = joined form at (trees_of more)

abbrev pub first_tree : List Tree → Tree
first_tree [] = leaf []
first_tree (tree ∷ more) = tree

-- the tree that nodes are, where they are those of one whole tree
abbrev pub tree_of : List TreeNode → Tree
tree_of nodes = first_tree (trees_of nodes)

-- rows and nodes of the code in the words of the definitions
abbrev pub named_row : RowName × ℤ → NamedRow
named_row r = record { multiplier = r.1; name = r.0 }

abbrev pub node_of : Node → TreeNode
node_of (Leaf rows) = leaf_node (map named_row rows.items)
node_of (Split form at) = split_node form at

-- the nodes of a case
abbrev pub nodes_of : Case → List TreeNode
nodes_of case = map node_of case.nodes.items
