-- The way from the root to a node, with the trees that are done beside it.
use Rattle.std.proofs.Common.{◌≡◌, ◌⊎◌, inl, inr, ⊎_elim, ℕ, zero, suc, ◌+◌, ◌^◌, ◌<◌, ◌≤◌, List, [], ◌∷◌, ◌++◌, map, reverse, length, length-append, append_assoc, All, ap, refl, subst, sym, ◌∙◌, arith}
use Rattle.std.specs.Prelude.{ℤ, ◌≤ℤ◌, ◌<ℤ◌}
use Rattle.std.proofs.lemmas.List.{reverse-append}
use Rattle.std.proofs.lemmas.List.Elements.{All-append, All-nil}
use Rattle.rg_fraction.specs.declared.fraction.Fraction.{Fraction}
use Rattle.rg_linear.specs.System.{LinearSystem}
use Rattle.rg_linear.specs.Descent.{WideAt, Outcome.wide, DescentFromStart}
use Rattle.rg_branch_trees.specs.Trees.{Tree.split, low_side, high_side, Tree.leaf, TreeNode.leaf_node, TreeNode.split_node, preorder}
use Rattle.rg_branch_trees.specs.Turning.{turned_back, turned}
use Rattle.rg_linear.specs.Branching.{Form, SplitSide, SplitTree, Weight, node_system, BranchOutcome}
use Rattle.rg_linear.specs.Branching.{BranchOutcome.found, BranchOutcome.tree, BranchOutcome.stopped, IsEnd, BranchFrom, BranchFrom.passes, BranchFrom.refutes}
use Rattle.rg_linear.specs.Branching.{BranchFrom.whole, BranchFrom.low_ends, BranchFrom.high_ends, BranchFrom.both_refuted, Branching, AreBounded, low_at, high_at}
use Rattle.rg_linear.specs.Room.{room}
use Rattle.rg_branch.specs.View.{TreeNode}
use Rattle.rg_branch.specs.Asked.{IsSideOf, AreSidesOf}
use Rattle.rg_branch.specs.Answer.{IsFractionAt, IsWholePoint, IsRefutedWith, IsFoundPoint, IsSplitTree}
use Rattle.rg_branch.specs.Work.{pending, work}
use Rattle.rg_linear.proofs.Stacks.{power_positive, power-less}
use Rattle.rg_linear.proofs.Endings.{Within, within_start, within_low, within_high, split_within, gap-low, gap-high}

-- a split on the way, which goes to its low side, or to its high side where the low one is refuted
pub data Step : Type 0 where
  goes_low : ℕ → ℤ → Step
  goes_high : ℕ → ℤ → SplitTree → Step

abbrev pub side_of_step : Step → SplitSide
side_of_step (goes_low f u) = low_side f u
side_of_step (goes_high f u t) = high_side f u

abbrev pub nodes_of_step : Step → List TreeNode
nodes_of_step (goes_low f u) = split_node f u ∷ []
nodes_of_step (goes_high f u t) = split_node f u ∷ preorder t

-- the sides on the way, outermost first, where the way has its innermost step first
abbrev pub sides_on : List Step → List SplitSide
sides_on [] = []
sides_on (s ∷ way) = sides_on way ++ side_of_step s ∷ []

-- the nodes that are done: the splits on the way, and the low sides that are refuted
abbrev pub nodes_on : List Step → List TreeNode
nodes_on [] = []
nodes_on (s ∷ way) = nodes_on way ++ nodes_of_step s

abbrev pub StepStands : LinearSystem → List Form → List SplitSide → Step → Type 0
StepStands system forms above (goes_low f u) = IsFractionAt system forms above f u
StepStands system forms above (goes_high f u t) = IsFractionAt system forms above f u × BranchFrom system forms (above ++ low_side f u ∷ []) (tree t)

abbrev pub WayStands : LinearSystem → List Form → List Step → Type 0
WayStands system forms [] = Unit {0}
WayStands system forms (s ∷ way) = StepStands system forms (sides_on way) s × WayStands system forms way

-- ---- the outcome at the root

-- an end is that of the whole
pub end_up : (system : LinearSystem) (forms : List Form) (way : List Step) (o : BranchOutcome) → IsEnd o → WayStands system forms way
    → BranchFrom system forms (sides_on way) o → Branching system forms o
end_up system forms [] o end stands b = b
end_up system forms (goes_low f u ∷ way) o end (s, stands) b = end_up system forms way o end stands (low_ends s.members f u s.outcome s.first b end)
end_up system forms (goes_high f u t ∷ way) o end ((s, low), stands) b = end_up system forms way o end stands (high_ends s.members f u t s.outcome s.first low b end)

-- the sides on the way, innermost first
abbrev pub sides_back : List Step → List SplitSide
sides_back way = map side_of_step way

-- the tree that is done at the end of the way makes the whole tree
pub record IsDone (system : LinearSystem) (forms : List Form) (way : List Step) (t : SplitTree) : Type 0 where
  pub whole : SplitTree
  pub outcome : Branching system forms (tree whole)
  pub nodes : preorder whole ≡ nodes_on way ++ preorder t
  pub none : turned_back (sides_back way) ≡ []

-- what is still to do behind it
abbrev pending_on : List Form → List Step → ℕ
pending_on forms [] = 0
pending_on forms (goes_low f u ∷ way) = 3 ^ room forms (sides_on way ++ high_side f u ∷ []) + pending_on forms way
pending_on forms (goes_high f u t ∷ way) = pending_on forms way

abbrev work_on : List Form → List Step → ℕ
work_on forms way = 3 ^ room forms (sides_on way) + pending_on forms way

-- or the way goes on in a high side
pub record GoesOn (system : LinearSystem) (forms : List Form) (way : List Step) (t : SplitTree) : Type 0 where
  pub next : List Step
  pub stands : WayStands system forms next
  pub nodes : nodes_on next ≡ nodes_on way ++ preorder t
  pub turned_is : turned_back (sides_back way) ≡ sides_back next
  pub some : 0 < length next
  pub less : work_on forms next ≤ pending_on forms way

pub climb : (system : LinearSystem) (forms : List Form) (way : List Step) (t : SplitTree) → WayStands system forms way
    → BranchFrom system forms (sides_on way) (tree t) → IsDone system forms way t ⊎ GoesOn system forms way t
climb system forms [] t stands b = inl (record { whole = t; outcome = b; nodes = refl; none = refl })
climb system forms (goes_low f u ∷ way) t (s, stands) b = inr (record {
  next = goes_high f u t ∷ way;
  stands = ((s, b), stands);
  nodes = sym (append_assoc (nodes_on way) (split_node f u ∷ []) (preorder t));
  turned_is = refl;
  some = omega arith;
  less = omega arith;
})
climb system forms (goes_high f u l ∷ way) t ((s, low), stands) b = ⊎_elim
    (λ d. inl (record { whole = d.whole; outcome = d.outcome; nodes = d.nodes ∙ joined; none = d.none }))
    (λ g. inr (record { next = g.next; stands = g.stands; nodes = g.nodes ∙ joined; turned_is = g.turned_is; some = g.some; less = g.less }))
    (climb system forms way (split f u l t) stands (both_refuted s.members f u l t s.outcome s.first low b))
  where
    joined : nodes_on way ++ preorder (split f u l t) ≡ (nodes_on way ++ split_node f u ∷ preorder l) ++ preorder t
    joined = sym (append_assoc (nodes_on way) (split_node f u ∷ preorder l) (preorder t))

-- ---- what the code sees

reverse_back : (way : List Step) → reverse (sides_on way) ≡ sides_back way
reverse_back [] = refl
reverse_back (s ∷ way) = reverse-append (sides_on way) (side_of_step s ∷ []) ∙ ap (λ xs. side_of_step s ∷ xs) (reverse_back way)

back_reverse : (way : List Step) → reverse (sides_back way) ≡ sides_on way
back_reverse [] = refl
back_reverse (s ∷ way) = reverse-append (side_of_step s ∷ []) (sides_back way) ∙ ap (λ xs. xs ++ side_of_step s ∷ []) (back_reverse way)

turned_none : (way : List Step) → turned_back (sides_back way) ≡ [] → turned (sides_on way) ≡ []
turned_none way e = ap (λ xs. reverse (turned_back xs)) (reverse_back way) ∙ ap reverse e

turned_next : (way next : List Step) → turned_back (sides_back way) ≡ sides_back next → turned (sides_on way) ≡ sides_on next
turned_next way next e = ap (λ xs. reverse (turned_back xs)) (reverse_back way) ∙ ap reverse e ∙ back_reverse next

-- ---- the work that is left

pending_is : (forms : List Form) (way : List Step) → pending forms (sides_back way) ≡ pending_on forms way
pending_is forms [] = refl
pending_is forms (goes_low f u ∷ way) =
    let e = ap (λ above. 3 ^ room forms (above ++ high_side f u ∷ [])) (back_reverse way) in
    let ih = pending_is forms way in
    omega arith
pending_is forms (goes_high f u t ∷ way) = let ih = pending_is forms way in omega arith

work_is : (forms : List Form) (way : List Step) → work forms (sides_on way) ≡ work_on forms way
work_is forms way = let e = ap (pending forms) (reverse_back way) ∙ pending_is forms way in omega arith

power_two : (a b r : ℕ) → a < r → b < r → 3 ^ a + 3 ^ b < 3 ^ r
power_two a b r ha hb = let x = power-less a r ha in let y = power-less b r hb in let p = power_positive r in omega arith

-- ---- where the forms lie between their bounds

module _ (system : LinearSystem) (forms : List Form) (bounded : AreBounded system forms) where
  pub way_within : (way : List Step) → WayStands system forms way → Within system forms (sides_on way)
  way_within [] stands = within_start system forms bounded
  way_within (goes_low f u ∷ way) (s, stands) = within_low system forms (sides_on way) (way_within way stands) f u
  way_within (goes_high f u t ∷ way) ((s, low), stands) = within_high system forms (sides_on way) (way_within way stands) f u

  interval : (way : List Step) (f : ℕ) (u : ℤ) → WayStands system forms way → IsFractionAt system forms (sides_on way) f u
      → (low_at forms (sides_on way) f ≤ℤ u) × (u <ℤ high_at forms (sides_on way) f)
  interval way f u stands s = split_within system forms (sides_on way) s.members f u bounded.positive (way_within way stands) s.outcome s.first

  room_low : (way : List Step) (f : ℕ) (u : ℤ) → WayStands system forms way → IsFractionAt system forms (sides_on way) f u → room forms (sides_on way ++ low_side f u ∷ []) < room forms (sides_on way)
  room_low way f u stands s = let i = interval way f u stands s in gap-low forms (sides_on way) f u s.side.form i.0 i.1

  room_high : (way : List Step) (f : ℕ) (u : ℤ) → WayStands system forms way → IsFractionAt system forms (sides_on way) f u
      → room forms (sides_on way ++ high_side f u ∷ []) < room forms (sides_on way)
  room_high way f u stands s = let i = interval way f u stands s in gap-high forms (sides_on way) f u s.side.form i.0 i.1

  few_sides : (way : List Step) → WayStands system forms way → length (sides_on way) + room forms (sides_on way) < 1 + room forms []
  few_sides [] stands = omega arith
  few_sides (goes_low f u ∷ way) (s, stands) =
      let e = length-append (sides_on way) (low_side f u ∷ []) in
      let r = room_low way f u stands s in
      let ih = few_sides way stands in
      omega arith
  few_sides (goes_high f u t ∷ way) ((s, low), stands) =
      let e = length-append (sides_on way) (high_side f u ∷ []) in
      let r = room_high way f u stands s in
      let ih = few_sides way stands in
      omega arith

  one_side : (side : SplitSide) → IsSideOf forms side → All (IsSideOf forms) (side ∷ [])
  one_side side is zero d lt = is
  one_side side is (suc k) d lt = absurd (omega arith)

  each_side : (way : List Step) → WayStands system forms way → All (IsSideOf forms) (sides_on way)
  each_side [] stands = All-nil (IsSideOf forms)
  each_side (goes_low f u ∷ way) (s, stands) = All-append (IsSideOf forms) (sides_on way) (low_side f u ∷ []) (each_side way stands) (one_side (low_side f u) s.side)
  each_side (goes_high f u t ∷ way) ((s, low), stands) =
      All-append (IsSideOf forms) (sides_on way) (high_side f u ∷ []) (each_side way stands)
      (one_side (high_side f u) (record { form = s.side.form; low = s.side.low; high = s.side.high }))

  pub sides_asked : (way : List Step) → WayStands system forms way → AreSidesOf forms (sides_on way)
  sides_asked way stands = record { each = each_side way stands; few = few_sides way stands }

  -- a split leaves less to do
  pub split_falls : (way : List Step) (f : ℕ) (u : ℤ) → WayStands system forms way → IsFractionAt system forms (sides_on way) f u
      → work forms (sides_on way ++ low_side f u ∷ []) < work forms (sides_on way)
  split_falls way f u stands s =
      let a = work_is forms way in
      let b = work_is forms (goes_low f u ∷ way) in
      let p = power_two _ _ _ (room_low way f u stands s) (room_high way f u stands s) in
      omega arith

-- and so does a tree that is done
pub turn_falls : (system : LinearSystem) (forms : List Form) (way : List Step) (t : SplitTree) → (g : GoesOn system forms way t) → work forms (sides_on g.next) < work forms (sides_on way)
turn_falls system forms way t g =
    let a = work_is forms way in
    let b = work_is forms g.next in
    let p = power_positive (room forms (sides_on way)) in
    let l = g.less in
    omega arith

-- ---- what the loop knows

-- the splits above the node and the nodes that are done are those of a way that stands
pub record IsPath (system : LinearSystem) (forms : List Form) (above : List SplitSide) (nodes : List TreeNode) : Type 0 where
  pub way : List Step
  pub sides : above ≡ sides_on way
  pub nodes_are : nodes ≡ nodes_on way
  pub stands : WayStands system forms way

pub path_start : (system : LinearSystem) (forms : List Form) (above : List SplitSide) (nodes : List TreeNode) → above ≡ [] → nodes ≡ [] → IsPath system forms above nodes
path_start system forms above nodes e f = record { way = []; sides = e; nodes_are = f; stands = tt }

pub path_sides : (system : LinearSystem) (forms : List Form) (above : List SplitSide) (nodes : List TreeNode) → AreBounded system forms → IsPath system forms above nodes → AreSidesOf forms above
path_sides system forms above nodes bounded p = subst (AreSidesOf forms) (sym p.sides) (sides_asked system forms bounded p.way p.stands)

pub path_stopped : (system : LinearSystem) (forms : List Form) (above : List SplitSide) (nodes : List TreeNode) (w : WideAt)
    → IsPath system forms above nodes → DescentFromStart (node_system system forms above) (wide w) → Branching system forms (stopped above w)
path_stopped system forms above nodes w p d = end_up system forms p.way (stopped above w) tt p.stands (subst (λ xs. BranchFrom system forms xs (stopped above w)) p.sides (passes w d))

pub path_found : (system : LinearSystem) (forms : List Form) (above : List SplitSide) (nodes : List TreeNode) (values : List Fraction)
    → IsPath system forms above nodes → IsWholePoint system forms above values → IsFoundPoint system forms above values
path_found system forms above nodes values p w = record {
  members = w.members;
  outcome = end_up system forms p.way (found w.members above) tt p.stands (subst (λ xs. BranchFrom system forms xs (found w.members above)) p.sides (whole w.members w.outcome w.all));
  values_are = w.values_are;
}

module _ (system : LinearSystem) (forms : List Form) (above : List SplitSide) (nodes : List TreeNode) (bounded : AreBounded system forms) (p : IsPath system forms above nodes) where
  pub path_split : (f : ℕ) (u : ℤ) → IsFractionAt system forms above f u → IsPath system forms (above ++ low_side f u ∷ []) (nodes ++ split_node f u ∷ [])
  path_split f u s = record {
    way = goes_low f u ∷ p.way;
    sides = ap (λ xs. xs ++ low_side f u ∷ []) p.sides;
    nodes_are = ap (λ xs. xs ++ split_node f u ∷ []) p.nodes_are;
    stands = (subst (λ xs. IsFractionAt system forms xs f u) p.sides s, p.stands);
  }

  pub path_split_falls : (f : ℕ) (u : ℤ) → IsFractionAt system forms above f u → work forms (above ++ low_side f u ∷ []) < work forms above
  path_split_falls f u s = subst (λ xs. work forms (xs ++ low_side f u ∷ []) < work forms xs) (sym p.sides)
      (split_falls system forms bounded p.way f u p.stands (subst (λ xs. IsFractionAt system forms xs f u) p.sides s))

-- behind a leaf the tree is whole
pub record IsLast (system : LinearSystem) (forms : List Form) (above : List SplitSide) (nodes : List TreeNode) : Type 0 where
  pub tree_is : IsSplitTree system forms nodes
  pub none : turned above ≡ []

-- or the way goes on
pub record HasNext (system : LinearSystem) (forms : List Form) (above : List SplitSide) (nodes : List TreeNode) : Type 0 where
  pub next : IsPath system forms (turned above) nodes
  pub some : 0 < length (turned above)
  pub less : work forms (turned above) < work forms above

some_sides : (way : List Step) → 0 < length way → 0 < length (sides_on way)
some_sides [] lt = absurd (omega arith)
some_sides (s ∷ way) lt = let e = length-append (sides_on way) (side_of_step s ∷ []) in omega arith

module _ (system : LinearSystem) (forms : List Form) (above : List SplitSide) (nodes : List TreeNode) (weights : List Weight) (p : IsPath system forms above nodes) where
  pub path_leaf : IsRefutedWith (node_system system forms above) weights → IsLast system forms above (nodes ++ leaf_node weights ∷ []) ⊎ HasNext system forms above (nodes ++ leaf_node weights ∷ [])
  path_leaf r = ⊎_elim (λ d. inl (last d)) (λ g. inr (further g)) (climb system forms p.way (leaf weights) p.stands (subst (λ xs. BranchFrom system forms xs (tree (leaf weights))) p.sides done))
    where
      done : BranchFrom system forms above (tree (leaf weights))
      done = subst (λ ws. BranchFrom system forms above (tree (leaf ws))) (sym r.weights_are) (refutes r.members r.fixed r.i r.k r.outcome r.row)

      last : IsDone system forms p.way (leaf weights) → IsLast system forms above (nodes ++ leaf_node weights ∷ [])
      last d = record {
        tree_is = record { whole = d.whole; outcome = d.outcome; nodes_are = ap (λ xs. xs ++ leaf_node weights ∷ []) p.nodes_are ∙ sym d.nodes };
        none = ap turned p.sides ∙ turned_none p.way d.none;
      }

      further : GoesOn system forms p.way (leaf weights) → HasNext system forms above (nodes ++ leaf_node weights ∷ [])
      further g =
          let e : turned above ≡ sides_on g.next = ap turned p.sides ∙ turned_next p.way g.next g.turned_is in
          record {
            next = record { way = g.next; sides = e; nodes_are = ap (λ xs. xs ++ leaf_node weights ∷ []) p.nodes_are ∙ sym g.nodes; stands = g.stands };
            some = subst (λ xs. 0 < length xs) (sym e) (some_sides g.next g.some);
            less = subst (λ xs. work forms xs < work forms above) (sym e) (subst (λ xs. work forms (sides_on g.next) < work forms xs) (sym p.sides) (turn_falls system forms p.way (leaf weights) g));
          }
