-- The walk over the nodes of a tree: which trees are due after each node, and what their leaves are.
use Rattle.std.proofs.Common.{◌≡◌, ℕ, ◌+◌, ◌<◌, Bool, true, false, if◌then◌else◌, List, [], ◌∷◌, ◌++◌, Some, length, take, drop, reverse, slice_get, get_or, All, append_assoc, append-nil, refl, sym, subst, ap, ap₂, ◌∙◌, ℤ}
use Rattle.std.specs.List.{flat_map}
use Rattle.std.proofs.lemmas.List.{length-append, reverse-append}
use Rattle.std.proofs.lemmas.List.Elements.{All-contains, Contains-get_or, Contains-append_left, Contains-append_right, All-head, All-tail, All-nil, All-cons, All-push}
use Rattle.rg_theory.specs.System.{System}
use Rattle.rg_theory.specs.declared.Class.{Class}
use Rattle.rg_theory.specs.declared.Problem.{Problem}
use Rattle.rg_cert_meaning.specs.Row.{FormStands, RowStands, row_expression, Side}
use Rattle.rg_branch_trees.specs.Trees.{Tree.leaf, Tree.split, TreeNode.leaf_node, TreeNode.split_node, preorder, low_side, high_side, placed_nodes}
use Rattle.rg_branch_trees.specs.Turning.{turned_back, turned}
use Rattle.rg_branch_trees.proofs.Turning.{turned_low, turned_high}
use Rattle.rg_cert_meaning.specs.Refutes.{NamedRow, LeafRefutes, Tree, TreeRefutes}
use Rattle.rg_cert_data.specs.declared.certificate.Case.{Case}
use Rattle.rg_cert_data.specs.declared.certificate.Node.{Node}
use Rattle.rg_cert_data.specs.Certificates.{case_tree, IsWhole, IsNodeOf, IsTreeOf}
use Rattle.rg_cert_data.specs.Trees.{TreeNode, node_of}
use Rattle.rg_verify.specs.declared.verdict.Defect.{Defect}
use Rattle.rg_verify.specs.declared.verdict.Defect.TheVariants.{WrongForm}
use Rattle.rg_verify.specs.Judged.{IsReached, PlacedNode, HoldsAt, NodeHolds, IsDefectOf, IsNodeDefect, IsDefectIn}
use Rattle.rg_verify.proofs.Places.{image_at}
use Rattle.rg_verify.specs.Sides.{IsSideOf}
use Rattle.rg_cert_meaning.specs.declared.Form.{Form}

-- ---- the sides above the next node

-- they are sides of the system
back_sides : (lts : System) (sides : List Side) → All (IsSideOf lts) sides → All (IsSideOf lts) (turned_back sides)
back_sides lts [] each = each
back_sides lts (side ∷ outer) each = by side.high (back_sides lts outer (All-tail (IsSideOf lts) side outer each))
  where
    by : (b : Bool) → All (IsSideOf lts) (turned_back outer) → All (IsSideOf lts) (if b then turned_back outer else (record side { high = true } ∷ outer))
    by true ih = ih
    by false ih = All-cons (IsSideOf lts) (record side { high = true }) outer (All-head (IsSideOf lts) side outer each) (All-tail (IsSideOf lts) side outer each)

all_reverse : {X : Type 0} (P : X → Type 0) (xs : List X) → All P xs → All P (reverse xs)
all_reverse P [] each = each
all_reverse P (x ∷ xs) each = subst (All P) (sym (reverse-append (x ∷ []) xs)) (All-push P (reverse xs) x (all_reverse P xs (All-tail P x xs each)) (All-head P x xs each))

turned_sides : (lts : System) (above : List Side) → All (IsSideOf lts) above → All (IsSideOf lts) (turned above)
turned_sides lts above each = all_reverse (IsSideOf lts) (turned_back (reverse above)) (back_sides lts (reverse above) (all_reverse (IsSideOf lts) above each))

-- ---- the trees that are due

-- the nodes of trees one after another, where the first stands below the sides
abbrev pub nodes_due : List Side → List Tree → List PlacedNode
nodes_due above [] = []
nodes_due above (tree ∷ more) = placed_nodes above tree ++ nodes_due (turned above) more

-- a split: its two sides are due before the rest
pub past_split : (above : List Side) (form : Form) (at : ℤ) (due : List Tree) (rest : List TreeNode) → split_node form at ∷ rest ≡ flat_map preorder due
    → (later : List Tree) × (rest ≡ flat_map preorder later) × (nodes_due above due ≡ record { above = above; node = split_node form at } ∷ nodes_due (above ++ low_side form at ∷ []) later)
past_split above form at [] rest is = absurd cc
past_split above form at (leaf rows ∷ more) rest is = absurd cc
past_split above form at (split form' at' low high ∷ more) rest is = (
  low ∷ high ∷ more,
  (let e = append_assoc (preorder low) (preorder high) (flat_map preorder more) in let f : rest ≡ (preorder low ++ preorder high) ++ flat_map preorder more = cc in f ∙ e),
  (let u : form ≡ form' = cc in let v : at ≡ at' = cc in rw (← u, ← v) nodes),
)
  where
    nodes : nodes_due above (split form at low high ∷ more) ≡ record { above = above; node = split_node form at } ∷ nodes_due (above ++ low_side form at ∷ []) (low ∷ high ∷ more)
    nodes =
        let here : PlacedNode = record { above = above; node = split_node form at } in
        let sides : turned above ≡ turned (turned (above ++ low_side form at ∷ [])) = sym (ap turned (turned_low above form at) ∙ turned_high above form at) in
        ap (λ ls. here ∷ ls)
        (append_assoc (placed_nodes (above ++ low_side form at ∷ []) low) (placed_nodes (above ++ high_side form at ∷ []) high) (nodes_due (turned above) more)
        ∙ ap (λ ls. placed_nodes (above ++ low_side form at ∷ []) low ++ ls)
        (ap₂ ◌++◌ (ap (λ ss. placed_nodes ss high) (sym (turned_low above form at))) (ap (λ ss. nodes_due ss more) sides)))

-- a leaf: the rest is due
pub past_leaf : (above : List Side) (rows : List NamedRow) (due : List Tree) (rest : List TreeNode) → leaf_node rows ∷ rest ≡ flat_map preorder due
    → (later : List Tree) × (rest ≡ flat_map preorder later) × (nodes_due above due ≡ record { above = above; node = leaf_node rows } ∷ nodes_due (turned above) later)
past_leaf above rows [] rest is = absurd cc
past_leaf above rows (split form at low high ∷ more) rest is = absurd cc
past_leaf above rows (leaf rows' ∷ more) rest is = (
  more,
  cc,
  (let u : rows ≡ rows' = cc in ap (λ rs. record { above = above; node = leaf_node rs } ∷ nodes_due (turned above) more) (sym u)),
)

-- where no node is left, no tree is due
pub none_due : (due : List Tree) → [] ≡ flat_map preorder due → due ≡ []
none_due [] is = refl
none_due (leaf rows ∷ more) is = absurd cc
none_due (split form at low high ∷ more) is = absurd cc

-- ---- all nodes

pub both_parts : {X : Type 0} (P : X → Type 0) (xs ys : List X) → All P (xs ++ ys) → All P xs × All P ys
both_parts P xs ys each = (
  λ k d lt. All-contains P (xs ++ ys) (get_or xs k d) each (Contains-append_left xs ys _ (Contains-get_or xs k d lt)),
  λ k d lt. All-contains P (xs ++ ys) (get_or ys k d) each (Contains-append_right xs ys _ (Contains-get_or ys k d lt)),
)

pub tree_refutes : (lts : System) (class : Class) (problem : Problem) (number : ℕ) (above : List Side) (tree : Tree)
    → All (NodeHolds lts class problem number) (placed_nodes above tree) → TreeRefutes lts class problem number above tree
tree_refutes lts class problem number above (leaf rows) each = All-head (NodeHolds lts class problem number) (record { above = above; node = leaf_node rows }) [] each
tree_refutes lts class problem number above (split form at low high) each =
    let P = NodeHolds lts class problem number in
    let here : PlacedNode = record { above = above; node = split_node form at } in
    let left = placed_nodes (above ++ low_side form at ∷ []) low in
    let right = placed_nodes (above ++ high_side form at ∷ []) high in
    let parts = both_parts P left right (All-tail P here (left ++ right) each) in (
      All-head P here (left ++ right) each,
      tree_refutes lts class problem number
          (above ++ low_side form at ∷ []) low parts.0,
      tree_refutes lts class problem number (above ++ high_side form at ∷ []) high parts.1,
    )

-- the item after those that pass
at_place : {X : Type 0} (before after : List X) (x : X) → slice_get (before ++ (x ∷ after)) (length before) ≡ Some x
at_place [] after x = refl
at_place (y ∷ before) after x = at_place before after x

front : {X : Type 0} (before after : List X) → take (length before) (before ++ after) ≡ before
front [] after = refl
front (y ∷ before) after = ap (λ ys. y ∷ ys) (front before after)

reached_after : {X : Type 0} (P : X → Type 0) (xs before after : List X) (x : X) → xs ≡ before ++ (x ∷ after) → All P before → IsReached P xs (length before) x
reached_after P xs before after x is each = record {
  here = ap (λ ys. slice_get ys (length before)) is ∙ at_place before after x;
  before = subst (All P) (sym (ap (take (length before)) is ∙ front before (x ∷ after))) each;
}

-- ---- the walk

-- at a node: the trees that are due, and the nodes passed, which hold
pub record IsAtNode (lts : System) (class : Class) (problem : Problem) (number : ℕ) (tree : Tree) (nodes : List TreeNode) (node : ℕ) (above : List Side) : Type 0 where
  pub due : List Tree
  pub rest : drop node nodes ≡ flat_map preorder due
  pub passed : List PlacedNode
  pub count : length passed ≡ node
  pub whole : placed_nodes [] tree ≡ passed ++ nodes_due above due
  pub hold : All (NodeHolds lts class problem number) passed
  pub sides : All (IsSideOf lts) above

pub at_first : (lts : System) (class : Class) (problem : Problem) (number : ℕ) (tree : Tree) (nodes : List TreeNode) → nodes ≡ preorder tree → IsAtNode lts class problem number tree nodes 0 []
at_first lts class problem number tree nodes whole = record {
  due = tree ∷ [];
  rest = whole ∙ sym (append-nil (preorder tree));
  passed = [];
  count = refl;
  whole = sym (append-nil (placed_nodes [] tree));
  hold = All-nil _;
  sides = All-nil _;
}

module _ (lts : System) (class : Class) (problem : Problem) (number : ℕ) (tree : Tree) (nodes : List TreeNode) (node : ℕ) (above : List Side)
    (at_node : IsAtNode lts class problem number tree nodes node above) where
  -- the node after those passed
  after : (n : TreeNode) (later : List Tree) (next : List Side) → drop (node + 1) nodes ≡ flat_map preorder later
      → nodes_due above at_node.due ≡ record { above = above; node = n } ∷ nodes_due next later
      → HoldsAt lts class problem number above n → All (IsSideOf lts) next → IsAtNode lts class problem number tree nodes (node + 1) next
  after n later next rest past holds sides =
      let here : PlacedNode = record { above = above; node = n } in
      record {
        due = later;
        rest = rest;
        passed = at_node.passed ++ here ∷ [];
        count = length-append at_node.passed (here ∷ []) ∙ ap (λ k. k + 1) at_node.count;
        whole = at_node.whole ∙ ap (λ ls. at_node.passed ++ ls) past ∙ sym (append_assoc at_node.passed (here ∷ []) (nodes_due next later));
        hold = All-push (NodeHolds lts class problem number) at_node.passed here at_node.hold holds;
        sides = sides;
      }

  -- the node is the first that doesn't hold
  found : (n : TreeNode) (defect : Defect) (later : List Tree) (next : List Side)
      → nodes_due above at_node.due ≡ record { above = above; node = n } ∷ nodes_due next later → IsNodeDefect lts class problem number above n defect
      → IsDefectIn lts class problem number tree node defect
  found n defect later next past wrong =
      let here : PlacedNode = record { above = above; node = n } in (
        here,
        subst (λ k. IsReached (NodeHolds lts class problem number) (placed_nodes [] tree) k here) at_node.count
            (reached_after (NodeHolds lts class problem number) (placed_nodes [] tree) at_node.passed (nodes_due next later) here (at_node.whole ∙ ap (λ ls. at_node.passed ++ ls) past) at_node.hold),
        wrong,
      )

  pub after_split : (form : Form) (at : ℤ) → drop node nodes ≡ split_node form at ∷ drop (node + 1) nodes → IsSideOf lts (low_side form at) → FormStands class form
      → IsAtNode lts class problem number tree nodes (node + 1) (above ++ low_side form at ∷ [])
  after_split form at is side stands =
      let past = past_split above form at at_node.due (drop (node + 1) nodes) (sym is ∙ at_node.rest) in
      after (split_node form at) past.0 (above ++ low_side form at ∷ []) past.1 past.2 stands (All-push (IsSideOf lts) above (low_side form at) at_node.sides side)

  pub after_leaf : (rows : List NamedRow) → drop node nodes ≡ leaf_node rows ∷ drop (node + 1) nodes
      → LeafRefutes (RowStands lts class problem number above) (row_expression lts class problem number above) rows
      → IsAtNode lts class problem number tree nodes (node + 1) (turned above)
  after_leaf rows is refutes =
      let past = past_leaf above rows at_node.due (drop (node + 1) nodes) (sym is ∙ at_node.rest) in
      after (leaf_node rows) past.0 (turned above) past.1 past.2 refutes (turned_sides lts above at_node.sides)

  pub found_at : (rows : List NamedRow) (defect : Defect) → drop node nodes ≡ leaf_node rows ∷ drop (node + 1) nodes
      → IsDefectOf lts (RowStands lts class problem number above) (row_expression lts class problem number above) rows defect
      → IsDefectIn lts class problem number tree node defect
  found_at rows defect is wrong =
      let past = past_leaf above rows at_node.due (drop (node + 1) nodes) (sym is ∙ at_node.rest) in
      found (leaf_node rows) defect past.0 (turned above) past.2 wrong

  pub found_split : (form : Form) (at : ℤ) → drop node nodes ≡ split_node form at ∷ drop (node + 1) nodes → ¬ FormStands class form → IsDefectIn lts class problem number tree node WrongForm
  found_split form at is none =
      let past = past_split above form at at_node.due (drop (node + 1) nodes) (sym is ∙ at_node.rest) in
      found (split_node form at) WrongForm past.0 (above ++ low_side form at ∷ []) past.2 (refl, none)

  pub at_last : drop node nodes ≡ [] → TreeRefutes lts class problem number [] tree
  at_last is =
      let none = none_due at_node.due (sym is ∙ at_node.rest) in
      let all = at_node.whole ∙ ap (λ due. at_node.passed ++ nodes_due above due) none ∙ append-nil at_node.passed in
      tree_refutes lts class problem number [] tree (subst (All (NodeHolds lts class problem number)) (sym all) at_node.hold)

-- ---- the nodes of a case

-- the numbers of each node of a case are in range
pub node_in_range : (lts : System) (case : Case) (i : ℕ) (x : Node) → IsWhole case → IsTreeOf lts (case_tree case) → i < length case.nodes.items
    → x ≡ get_or case.nodes.items i x → IsNodeOf lts (node_of x)
node_in_range lts case i x whole each lt is =
    subst (λ (y : Node). IsNodeOf lts (node_of y)) (sym is) (image_at (IsNodeOf lts) node_of case.nodes.items i x (subst (All (IsNodeOf lts)) (sym whole) each) lt)
