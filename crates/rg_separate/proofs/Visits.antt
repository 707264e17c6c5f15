-- The way through a tree of splits, node by node in preorder.
use Rattle.std.proofs.Common.{◌≡◌, ◌≢◌, ◌⊎◌, inl, inr, ℕ, ◌+◌, ◌^◌, ◌<◌, Bool, true, false, ◌==◌, if◌then◌else◌, List, [], ◌∷◌, ◌++◌, map, length, length-append, All, refl, ap, ap₂, sym, subst, ◌∙◌, eqb-true, arith}
use Rattle.std.specs.Prelude.{ℤ, pos, ◌+ℤ◌, ◌≤ℤ◌, ◌<ℤ◌}
use Rattle.std.proofs.lemmas.Bool.{cases_eq}
use Rattle.std.proofs.lemmas.Int.{ints}
use Rattle.std.proofs.lemmas.List.{map-append, length-map}
use Rattle.std.proofs.lemmas.List.Elements.{All-nil, All-cons, All-append, All-push, All-head, All-tail, All-weaker}
use Rattle.rg_linear.specs.System.{LinearSystem}
use Rattle.rg_linear.specs.Descent.{DescentFromStart, Outcome.point, multiplier_of}
use Rattle.rg_branch_trees.specs.Trees.{Tree.leaf, Tree.split, low_side, high_side, TreeNode.leaf_node, TreeNode.split_node, preorder, placed_nodes}
use Rattle.rg_branch_trees.specs.Turning.{turned}
use Rattle.rg_branch_trees.proofs.Turning.{turned_low, turned_high}
use Rattle.rg_linear.specs.Branching.{Form, form_at, SplitSide, Weight, SplitTree, side_row, node_system}
use Rattle.rg_linear.specs.Branching.{FirstFraction, BranchOutcome, BranchOutcome.found, BranchOutcome.tree, BranchOutcome.stopped, IsEnd, BranchFrom, BranchFrom.passes}
use Rattle.rg_linear.specs.Branching.{BranchFrom.refutes, BranchFrom.whole, BranchFrom.low_ends, BranchFrom.high_ends, BranchFrom.both_refuted, Branching, AreBounded}
use Rattle.rg_linear.specs.Branching.{low_end, high_end, low_at, high_at}
use Rattle.rg_linear.specs.Room.{room}
use Rattle.rg_linear.proofs.Refuting.{refuted_is_sound}
use Rattle.rg_linear.proofs.Endings.{Within, within_start, within_low, within_high, split_within, gap-low, gap-high}
use Rattle.rg_case_folds.specs.Shown.{HasLeaf}
use Rattle.rg_branch.specs.Asked.{IsSideOf, AreSidesOf}
use Rattle.rg_separate.specs.Casing.{Visit, next_sides, VisitStands}

-- ---- each node stands below the sides to which the way has gone on

abbrev pub Follows : List SplitSide → List Visit → List SplitSide → Type 0
Follows start [] end = start ≡ end
Follows start (v ∷ more) end = (v.above ≡ start) × Follows (next_sides v.above v.node) more end

follows_append : (start middle end : List SplitSide) (xs ys : List Visit) → Follows start xs middle → Follows middle ys end → Follows start (xs ++ ys) end
follows_append start middle end [] ys e h = subst (λ s. Follows s ys end) (sym e) h
follows_append start middle end (v ∷ xs) ys (e, more) h = (e, follows_append (next_sides v.above v.node) middle end xs ys more h)

pub tree_follows : (above : List SplitSide) (t : SplitTree) → Follows above (placed_nodes above t) (turned above)
tree_follows above (leaf weights) = (refl, refl)
tree_follows above (split f u low high) = (
  refl,
  follows_append (above ++ low_side f u ∷ []) (above ++ high_side f u ∷ []) (turned above) (placed_nodes (above ++ low_side f u ∷ []) low) (placed_nodes (above ++ high_side f u ∷ []) high)
      (subst (Follows (above ++ low_side f u ∷ []) (placed_nodes (above ++ low_side f u ∷ []) low)) (turned_low above f u) (tree_follows (above ++ low_side f u ∷ []) low))
      (subst (Follows (above ++ high_side f u ∷ []) (placed_nodes (above ++ high_side f u ∷ []) high)) (turned_high above f u) (tree_follows (above ++ high_side f u ∷ []) high)),
)

pub nodes_visited : (above : List SplitSide) (t : SplitTree) → map (λ v. v.node) (placed_nodes above t) ≡ preorder t
nodes_visited above (leaf weights) = refl
nodes_visited above (split f u low high) =
    ap (λ nodes. split_node f u ∷ nodes)
    (map-append (λ (v : Visit). v.node) (placed_nodes (above ++ low_side f u ∷ []) low) (placed_nodes (above ++ high_side f u ∷ []) high)
    ∙ ap₂ (λ xs ys. xs ++ ys) (nodes_visited (above ++ low_side f u ∷ []) low) (nodes_visited (above ++ high_side f u ∷ []) high))

-- ---- a leaf that is visited is a leaf of the tree

abbrev pub IsLeafOf : List SplitSide → SplitTree → Visit → Type 0
IsLeafOf above t v = (weights : List Weight) → v.node ≡ leaf_node weights → HasLeaf above t v.above weights

pub leaves_visited : (above : List SplitSide) (t : SplitTree) → All (IsLeafOf above t) (placed_nodes above t)
leaves_visited above (leaf weights) = All-cons (IsLeafOf above (leaf weights)) (record { above = above; node = leaf_node weights }) []
    (λ out e. (refl, (let same : out ≡ weights = cc in same))) (All-nil (IsLeafOf above (leaf weights)))
leaves_visited above (split f u low high) =
    let t = split f u low high in
    All-cons (IsLeafOf above t) (record { above = above; node = split_node f u })
    (placed_nodes (above ++ low_side f u ∷ []) low ++ placed_nodes (above ++ high_side f u ∷ []) high) (λ out e. absurd cc)
    (All-append (IsLeafOf above t) (placed_nodes (above ++ low_side f u ∷ []) low) (placed_nodes (above ++ high_side f u ∷ []) high)
    (All-weaker (IsLeafOf (above ++ low_side f u ∷ []) low) (IsLeafOf above t) (λ v is out e. inl (is out e))
    (placed_nodes (above ++ low_side f u ∷ []) low) (leaves_visited (above ++ low_side f u ∷ []) low))
    (All-weaker (IsLeafOf (above ++ high_side f u ∷ []) high) (IsLeafOf above t) (λ v is out e. inr (is out e))
    (placed_nodes (above ++ high_side f u ∷ []) high) (leaves_visited (above ++ high_side f u ∷ []) high)))

-- ---- the splits on a form stay between its bounds

low_kept : (forms : List Form) (f : ℕ) (above : List SplitSide) (x : ℤ) → All (IsSideOf forms) above → (form_at forms f).low ≤ℤ x → (form_at forms f).low ≤ℤ low_end x f above
low_kept forms f [] x all le = le
low_kept forms f (side ∷ above) x all le = low_kept forms f above _ (All-tail (IsSideOf forms) side above all) (go (cases_eq side.form f))
  where
    is : IsSideOf forms side
    is = All-head (IsSideOf forms) side above all

    pick : (b h : Bool) → (b ≡ true → (form_at forms f).low ≤ℤ side.at) → (form_at forms f).low ≤ℤ (if b then (if h then side.at +ℤ pos 1 else x) else x)
    pick true true at = let l = at refl in omega (arith, ints)
    pick true false at = le
    pick false h at = le

    go : (side.form ≡ f) ⊎ (side.form ≢ f) → (form_at forms f).low ≤ℤ (if side.form == f then (if side.high then side.at +ℤ pos 1 else x) else x)
    go (inl e) = pick (side.form == f) side.high (λ t. subst (λ g. (form_at forms g).low ≤ℤ side.at) e is.low)
    go (inr ne) = pick (side.form == f) side.high (λ t. absurd (ne (eqb-true side.form f t)))

high_kept : (forms : List Form) (f : ℕ) (above : List SplitSide) (x : ℤ) → All (IsSideOf forms) above → x ≤ℤ (form_at forms f).high → high_end x f above ≤ℤ (form_at forms f).high
high_kept forms f [] x all le = le
high_kept forms f (side ∷ above) x all le = high_kept forms f above _ (All-tail (IsSideOf forms) side above all) (go (cases_eq side.form f))
  where
    is : IsSideOf forms side
    is = All-head (IsSideOf forms) side above all

    pick : (b h : Bool) → (b ≡ true → side.at <ℤ (form_at forms f).high) → (if b then (if h then x else side.at) else x) ≤ℤ (form_at forms f).high
    pick true true at = le
    pick true false at = let l = at refl in omega (arith, ints)
    pick false h at = le

    go : (side.form ≡ f) ⊎ (side.form ≢ f) → (if side.form == f then (if side.high then x else side.at) else x) ≤ℤ (form_at forms f).high
    go (inl e) = pick (side.form == f) side.high (λ t. subst (λ g. side.at <ℤ (form_at forms g).high) e is.high)
    go (inr ne) = pick (side.form == f) side.high (λ t. absurd (ne (eqb-true side.form f t)))

-- ---- each node of a tree with which a branching ends stands

module _ (system : LinearSystem) (forms : List Form) (bounded : AreBounded system forms) (small : system.columns + length system.rows + room forms [] < 2 ^ 32) where
  few_above : (above : List SplitSide) → AreSidesOf forms above → length above < 2 ^ 32
  few_above above asked = let few = asked.few in omega arith

  -- a split has its number between the form's bounds, and the sides below it stand
  module _ (above : List SplitSide) (within : Within system forms above) (asked : AreSidesOf forms above) (members : List ℕ) (f : ℕ) (u : ℤ)
      (d : DescentFromStart (node_system system forms above) (point members)) (first : FirstFraction system forms above members f u) where
    interval : (low_at forms above f ≤ℤ u) × (u <ℤ high_at forms above f)
    interval = split_within system forms above members f u bounded.positive within d first

    low_bound : (form_at forms f).low ≤ℤ u
    low_bound = let i = interval.0 in let k = low_kept forms f above (form_at forms f).low asked.each (omega (arith, ints)) in omega (arith, ints)

    high_bound : u <ℤ (form_at forms f).high
    high_bound = let i = interval.1 in let k = high_kept forms f above (form_at forms f).high asked.each (omega (arith, ints)) in omega (arith, ints)

    low_asked : AreSidesOf forms (above ++ low_side f u ∷ [])
    low_asked = record {
      each = All-push (IsSideOf forms) above (low_side f u) asked.each (record { form = first.within; low = low_bound; high = high_bound });
      few = (let e = length-append above (low_side f u ∷ []) in let r = gap-low forms above f u first.within interval.0 interval.1 in let few = asked.few in omega arith);
    }

    high_asked : AreSidesOf forms (above ++ high_side f u ∷ [])
    high_asked = record {
      each = All-push (IsSideOf forms) above (high_side f u) asked.each (record { form = first.within; low = low_bound; high = high_bound });
      few = (let e = length-append above (high_side f u ∷ []) in let r = gap-high forms above f u first.within interval.0 interval.1 in let few = asked.few in omega arith);
    }

  abbrev TreeStands : List SplitSide → BranchOutcome → Type 0
  TreeStands above (found members sides) = Unit {0}
  TreeStands above (tree t) = All (VisitStands system forms) (placed_nodes above t)
  TreeStands above (stopped sides w) = Unit {0}

  no_tree : (above : List SplitSide) (o : BranchOutcome) → IsEnd o → TreeStands above o
  no_tree above (found members sides) end = tt
  no_tree above (tree t) end = absurd end
  no_tree above (stopped sides w) end = tt

  tree_stands : (above : List SplitSide) (o : BranchOutcome) → Within system forms above → AreSidesOf forms above → BranchFrom system forms above o → TreeStands above o
  tree_stands above o within asked (passes w d) = tt
  tree_stands above o within asked (refutes members fixed i k d row) =
      let node = node_system system forms above in
      let few : length node.rows < 2 ^ 32 = (let e = length-append system.rows (map (side_row forms) above) in let g = length-map above (side_row forms) in let h = asked.few in omega arith) in
      All-cons (VisitStands system forms) _ [] (record {
        sides = asked;
        few = few_above above asked;
        node = record { multiplier = multiplier_of node k i; weights_are = refl; refute = refuted_is_sound node members fixed i k d row; few = few };
      }) (All-nil (VisitStands system forms))
  tree_stands above o within asked (whole members d all) = tt
  tree_stands above o within asked (low_ends members f u d first low end) = no_tree above o end
  tree_stands above o within asked (high_ends members f u t d first low high end) = no_tree above o end
  tree_stands above o within asked (both_refuted members f u t t' d first low high) =
      let a = tree_stands (above ++ low_side f u ∷ []) (tree t) (within_low system forms above within f u) (low_asked above within asked members f u d first) low in
      let b = tree_stands (above ++ high_side f u ∷ []) (tree t') (within_high system forms above within f u) (high_asked above within asked members f u d first) high in
      All-cons (VisitStands system forms) (record { above = above; node = split_node f u }) (placed_nodes (above ++ low_side f u ∷ []) t ++ placed_nodes (above ++ high_side f u ∷ []) t')
      (record { sides = asked; few = few_above above asked; node = (first.within, low_bound above within asked members f u d first) })
      (All-append (VisitStands system forms) (placed_nodes (above ++ low_side f u ∷ []) t) (placed_nodes (above ++ high_side f u ∷ []) t') a b)

  pub visits_stand : (t : SplitTree) → Branching system forms (tree t) → All (VisitStands system forms) (placed_nodes [] t)
  visits_stand t b = tree_stands [] (tree t) (within_start system forms bounded) (record { each = All-nil (IsSideOf forms); few = omega arith }) b
