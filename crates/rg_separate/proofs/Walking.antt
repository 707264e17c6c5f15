-- The nodes that are made on the way through a tree, and the tree that they are.
use Rattle.std.proofs.Common.{◌≡◌, ◌⊎◌, inl, inr, ⊎_elim, ℕ, zero, suc, ◌+◌, ◌<◌, ◌≤◌, Bool, true, false, List, [], ◌∷◌, ◌++◌, map, length, length-append, get_or, append_assoc, append-nil, All, Ok, Err, refl, ap, ap₂, sym, subst, ◌∙◌, arith}
use Rattle.std.specs.Prelude.{ℤ, slice_index_or}
use Rattle.std.proofs.lemmas.List.{map-append, length-map, get_or_default}
use Rattle.std.proofs.Math.Seq.{get_or-append_seam}
use Rattle.std.proofs.lemmas.List.Elements.{All-nil, All-push, All-head, All-tail}
use Rattle.rg_cert_meaning.specs.Row.{FormStands, Side}
use Rattle.rg_cert_meaning.specs.declared.Form.{Form}
use Rattle.rg_theory.specs.System.{System}
use Rattle.rg_theory.specs.declared.Class.{Class}
use Rattle.rg_theory.specs.declared.Problem.{Problem}
use Rattle.rg_branch_trees.specs.Trees.{Tree.leaf, Tree.split, low_side, high_side, TreeNode.leaf_node, TreeNode.split_node, preorder, placed_nodes}
use Rattle.rg_cert_meaning.specs.Refutes.{Tree, TreeRefutes}
use Rattle.rg_integers.specs.declared.term.Wide.{Wide}
use Rattle.rg_linear.specs.Branching.{SplitSide, Weight, SplitTree, BranchOutcome.tree, Branching, AreBounded}
use Rattle.rg_linear.specs.Room.{room}
use Rattle.rg_case_folds.specs.Rewriting.{split_forms, CaseSystem, rows_of}
use Rattle.rg_case_folds.proofs.Forms.{IsSplitOf, split_is, start_split}
use Rattle.rg_case_folds.specs.Shown.{HasLeaf, named_side, named_sides}
use Rattle.rg_cert_data.specs.declared.certificate.Case.{Case}
use Rattle.rg_cert_data.specs.Trees as reasons
use Rattle.rg_cert_data.specs.Trees.{nodes_of}
use Rattle.rg_cert_data.specs.Certificates.{IsNodeOf, case_tree}
use Rattle.rg_cert_data.proofs.Trees.{tree_is}
use Rattle.rg_branch.specs.View.{TreeNode}
use Rattle.rg_branch.specs.Answer.{IsSplitTree}
use Rattle.rg_outcome.specs.Casing.{spread_tree, CaseResult.passes, CaseComes, CaseComes.is_refuted, CaseComes.leaf_passes}
use Rattle.rg_rows.specs.Shared.{NamedRows}
use Rattle.rg_rows.specs.Shown.{ShowsCase}
use Rattle.rg_case_parts.specs.SettingViews.{shown_case}
use Rattle.rg_separate.specs.declared.case.CaseAnswer.TheVariants as answer
use Rattle.rg_case_parts.specs.declared.setting.CaseSetting.{CaseSetting}
use Rattle.rg_cert_data.specs.declared.wide_at.Stage.TheVariants.{Spread}
use Rattle.rg_separate.specs.Casing.{IsNamedSystem, forms_in, Visit, next_sides, VisitStands, IsMadeOf, LeafPasses}
use Rattle.rg_separate.specs.Passing.{passed_at}
use Rattle.rg_separate.specs.Deciding.{RefutesCase, CaseComesTo}
use Rattle.rg_separate.proofs.Visits.{Follows, tree_follows, nodes_visited, IsLeafOf, leaves_visited, visits_stand}
use Rattle.rg_cert_meaning.specs.declared.Form.TheVariants as split_form

-- ---- the form of a split stands in the class

held_or : (P : Form → Type 0) (xs : List Form) (f : ℕ) (d : Form) → All P xs → P d → P (slice_index_or xs f d)
held_or P [] f d all h = h
held_or P (x ∷ xs) zero d all h = All-head P x xs all
held_or P (x ∷ xs) (suc f) d all h = held_or P xs f d (All-tail P x xs all) h

pub form_stands : (lts : System) (class : Class) (problem : Problem) (f : ℕ) → FormStands class (slice_index_or (split_forms lts class problem) f (split_form.Tokens 0))
form_stands lts class problem f = held_or (FormStands class) (split_forms lts class problem) f (split_form.Tokens 0)
    (λ i d lt. by (get_or (split_forms lts class problem) i d)
    (split_is lts class problem (get_or (split_forms lts class problem) i d)
    (i, lt, get_or_default (split_forms lts class problem) i (get_or (split_forms lts class problem) i d) d lt))) tt
  where
    by : (split : Form) → IsSplitOf lts class problem split → FormStands class split
    by (split_form.Tokens q) h = tt
    by (split_form.Effect t) h = tt
    by split_form.Start splits = (start_split class problem splits).0

-- ---- nodes beside the visits of which they are made

module _ (c : CaseSetting) (named : NamedRows) where
  abbrev pub AreMadeOf : List Visit → List reasons.TreeNode → Type 0
  AreMadeOf [] [] = Unit {0}
  AreMadeOf [] (n ∷ nodes) = ⊥
  AreMadeOf (v ∷ more) [] = ⊥
  AreMadeOf (v ∷ more) (n ∷ nodes) = IsMadeOf c named v.above v.node n × AreMadeOf more nodes

  made_more : (vs : List Visit) (nodes : List reasons.TreeNode) (v : Visit) (n : reasons.TreeNode) → AreMadeOf vs nodes → IsMadeOf c named v.above v.node n → AreMadeOf (vs ++ v ∷ []) (nodes ++ n ∷ [])
  made_more [] [] v n made is = (is, tt)
  made_more [] (m ∷ nodes) v n made is = absurd made
  made_more (w ∷ vs) [] v n made is = absurd made
  made_more (w ∷ vs) (m ∷ nodes) v n (here, made) is = (here, made_more vs nodes v n made is)

  -- the nodes of two lists of visits
  made_apart : (xs ys : List Visit) (nodes : List reasons.TreeNode) → AreMadeOf (xs ++ ys) nodes
      → (front : List reasons.TreeNode) × (back : List reasons.TreeNode) × (nodes ≡ front ++ back) × AreMadeOf xs front × AreMadeOf ys back
  made_apart [] ys nodes made = ([], nodes, refl, tt, made)
  made_apart (v ∷ xs) ys [] made = absurd made
  made_apart (v ∷ xs) ys (n ∷ nodes) (here, made) =
      let (front, back, e, a, b) = made_apart xs ys nodes made in
      (n ∷ front, back, ap (λ ns. n ∷ ns) e, (here, a), b)

  -- the nodes of a tree are those of a tree that refutes, which has the leaves of all the multipliers
  pub record IsTreeMade (above : List SplitSide) (t : SplitTree) (nodes : List reasons.TreeNode) : Type 0 where
    pub made : Tree
    pub nodes_are : nodes ≡ preorder made
    pub refutes : TreeRefutes c.setting.lts.now c.setting.class c.problem c.number (named_sides c.setting.lts.now c.setting.class c.problem above) made
    pub spreads : (case : CaseSystem) → ShowsCase named case → spread_tree (shown_case c) case above t (Ok made)

  pub tree_made : (above : List SplitSide) (t : SplitTree) (nodes : List reasons.TreeNode) → AreMadeOf (placed_nodes above t) nodes → IsTreeMade above t nodes
  tree_made above (leaf weights) [] made = absurd made
  tree_made above (leaf weights) (leaf_node rows ∷ []) (here, made) =
      record { made = leaf rows; nodes_are = refl; refutes = here.refutes; spreads = λ case shows. (rows, here.spreads case shows, refl) }
  tree_made above (leaf weights) (split_node form at ∷ []) (here, made) = absurd here
  tree_made above (leaf weights) (n ∷ m ∷ nodes) (here, made) = absurd made
  tree_made above (split f u low high) [] made = absurd made
  tree_made above (split f u low high) (leaf_node rows ∷ nodes) (here, made) = absurd here
  tree_made above (split f u low high) (split_node form at ∷ nodes) ((by_name, number_is), made) =
      let (front, back, e, a, b) = made_apart (placed_nodes (above ++ low_side f u ∷ []) low) (placed_nodes (above ++ high_side f u ∷ []) high) nodes made in
      let one = tree_made (above ++ low_side f u ∷ []) low front a in
      let two = tree_made (above ++ high_side f u ∷ []) high back b in
      record {
        made = split form at one.made two.made;
        nodes_are = ap (λ ns. split_node form at ∷ ns) (e ∙ ap₂ (λ xs ys. xs ++ ys) one.nodes_are two.nodes_are);
        refutes = (
          subst (FormStands c.setting.class) (sym by_name) (form_stands c.setting.lts.now c.setting.class c.problem f),
          subst (λ sides. TreeRefutes c.setting.lts.now c.setting.class c.problem c.number sides one.made) (below (low_side f u) false by_name number_is refl refl refl) one.refutes,
          subst (λ sides. TreeRefutes c.setting.lts.now c.setting.class c.problem c.number sides two.made) (below (high_side f u) true by_name number_is refl refl refl) two.refutes,
        );
        spreads = λ case shows. (one.made, two.made, one.spreads case shows, two.spreads case shows, ap₂ (λ g z. split g z one.made two.made) by_name number_is);
      }
    where
      below : (side : SplitSide) (is_high : Bool) → form ≡ slice_index_or (split_forms c.setting.lts.now c.setting.class c.problem) f (split_form.Tokens 0) → at ≡ u
          → side.form ≡ f → side.at ≡ u → side.high ≡ is_high → named_sides c.setting.lts.now c.setting.class c.problem
          (above ++ side ∷ []) ≡ named_sides c.setting.lts.now c.setting.class c.problem above ++ record { form = form; at = at; high = is_high } ∷ []
      below side is_high by_name number_is e g h =
          map-append (named_side c.setting.lts.now c.setting.class c.problem) above (side ∷ [])
          ∙ ap (λ side'. named_sides c.setting.lts.now c.setting.class c.problem above ++ side' ∷ []) (same side.form side.at side.high e g h)
        where
          side_by : Form → ℤ → Bool → Side
          side_by form at high = record { form = form; at = at; high = high }

          same : (x : ℕ) (y : ℤ) (z : Bool) → x ≡ f → y ≡ u → z ≡ is_high
              → side_by (slice_index_or (split_forms c.setting.lts.now c.setting.class c.problem) x (split_form.Tokens 0)) y z ≡ side_by form at is_high
          same x y z e g h = ap (λ k. side_by (slice_index_or (split_forms c.setting.lts.now c.setting.class c.problem) k (split_form.Tokens 0)) y z)
              e ∙ ap (λ g. side_by g y z) (sym by_name) ∙ ap (λ k. side_by form k z) (g ∙ sym number_is) ∙ ap (side_by form at) h

  -- ---- the first leaf that passes

  -- one of two lists has what stands behind the first ones
  list_apart : (xs ys front : List Visit) (v : Visit) (rest : List Visit) → xs ++ ys ≡ front ++ v ∷ rest
      → ((more : List Visit) × (xs ≡ front ++ v ∷ more)) ⊎ ((further : List Visit) × (front ≡ xs ++ further) × (ys ≡ further ++ v ∷ rest))
  list_apart [] ys front v rest e = inr (front, refl, e)
  list_apart (x ∷ xs) ys [] v rest e = inl (xs, ap (λ y. y ∷ xs) (let h : x ≡ v = cc in h))
  list_apart (x ∷ xs) ys (y ∷ front) v rest e = ⊎_elim
      (λ (more, is). inl (more, ap₂ (λ z zs. z ∷ zs) (let h : x ≡ y = cc in h) is))
      (λ (further, is, left). inr (further, ap₂ (λ z zs. z ∷ zs) (let h : y ≡ x = cc in h) is, left))
      (list_apart xs ys front v rest (let t : xs ++ ys ≡ front ++ v ∷ rest = cc in t))

  -- the leaves before it are made, so it is the first whose step is shown
  pub tree_fails : (above : List SplitSide) (t : SplitTree) (front : List Visit) (nodes : List reasons.TreeNode) (v : Visit) (rest : List Visit)
      (w : Wide) → placed_nodes above t ≡ front ++ v ∷ rest → AreMadeOf front nodes → LeafPasses c named v.above v.node w
      → (case : CaseSystem) → ShowsCase named case → spread_tree (shown_case c) case above t (Err (record { above = v.above; wide = w }))
  tree_fails above (leaf weights) [] nodes v rest w e made fails case shows =
      let is : record { above = above; node = leaf_node weights } ≡ v = cc in
      subst (λ (x : Visit). spread_tree (shown_case c) case above (leaf weights) (Err (record { above = x.above; wide = w }))) is
      (refl, subst (λ (x : Visit). LeafPasses c named x.above x.node w) (sym is) fails case shows)
  tree_fails above (leaf weights) (d ∷ front) nodes v rest w e made fails case shows = absurd (let l = ap length e ∙ ap suc (length-append front (v ∷ rest)) in omega arith)
  tree_fails above (split f u low high) [] nodes v rest w e made fails case shows =
      let is : record { above = above; node = split_node f u } ≡ v = cc in
      absurd (subst (λ (x : Visit). LeafPasses c named x.above x.node w) (sym is) fails)
  tree_fails above (split f u low high) (d ∷ front) [] v rest w e made fails case shows = absurd made
  tree_fails above (split f u low high) (d ∷ front) (n ∷ nodes) v rest w e (here, made) fails case shows =
      ⊎_elim
      (λ (more, is). inl (tree_fails (above ++ low_side f u ∷ []) low front nodes v more w is made fails case shows))
      (λ (further, is, left). (let (before, behind, same, a, b) = made_apart (placed_nodes (above ++ low_side f u ∷ []) low) further nodes (subst (λ vs. AreMadeOf vs nodes) is made) in
      let one = tree_made (above ++ low_side f u ∷ []) low before a in
      inr (one.made, one.spreads case shows, tree_fails (above ++ high_side f u ∷ []) high further behind v rest w left b fails case shows)))
      (list_apart (placed_nodes (above ++ low_side f u ∷ []) low) (placed_nodes (above ++ high_side f u ∷ []) high) front v rest
      (let t : placed_nodes (above ++ low_side f u ∷ []) low ++ placed_nodes (above ++ high_side f u ∷ []) high ≡ front ++ v ∷ rest = cc in t))

-- ---- the loop

-- the nodes before number i are made, and the way has gone on to the node below these sides
pub record IsWalk (c : CaseSetting) (named : NamedRows) (nodes : List TreeNode) (i : ℕ) (above : List SplitSide) (made : List reasons.TreeNode) : Type 0 where
  pub whole : SplitTree
  pub outcome : Branching named.system (forms_in named) (tree whole)
  pub done : List Visit
  pub left : List Visit
  pub visits_are : placed_nodes [] whole ≡ done ++ left
  pub nodes_are : nodes ≡ map (λ v. v.node) done ++ map (λ v. v.node) left
  pub count : length done ≡ i
  pub follows : Follows above left []
  pub made_are : AreMadeOf c named done made
  pub in_range : All (IsNodeOf c.setting.lts.now) made

module _ (c : CaseSetting) (named : NamedRows) (nodes : List TreeNode) where
  pub walk_start : (above : List SplitSide) (made : List reasons.TreeNode) → IsSplitTree named.system (forms_in named) nodes → above ≡ [] → made ≡ [] → IsWalk c named nodes 0 above made
  walk_start above made t none empty = record {
    whole = t.whole;
    outcome = t.outcome;
    done = [];
    left = placed_nodes [] t.whole;
    visits_are = refl;
    nodes_are = t.nodes_are ∙ sym (nodes_visited [] t.whole);
    count = refl;
    follows = subst (λ s. Follows s (placed_nodes [] t.whole) []) (sym none) (tree_follows [] t.whole);
    made_are = subst (AreMadeOf c named []) (sym empty) tt;
    in_range = subst (All (IsNodeOf c.setting.lts.now)) (sym empty) (All-nil (IsNodeOf c.setting.lts.now));
  }

  module _ (i : ℕ) (above : List SplitSide) (made : List reasons.TreeNode) (w : IsWalk c named nodes i above made) where
    -- the node that is visited next
    record HasVisit (n : TreeNode) : Type 0 where
      v : Visit
      rest : List Visit
      left_is : w.left ≡ v ∷ rest
      sides : v.above ≡ above
      node : v.node ≡ n

    visit_here : (n : TreeNode) → i < length nodes → get_or nodes i n ≡ n → HasVisit n
    visit_here n lt here = go w.left refl w.follows
      where
        go : (left : List Visit) → w.left ≡ left → Follows above left [] → HasVisit n
        go [] e f = absurd (let l = ap length (w.nodes_are ∙ ap (λ xs. map (λ v. v.node) w.done ++ map (λ v. v.node) xs) e
            ∙ append-nil (map (λ (v : Visit). v.node) w.done)) ∙ length-map w.done (λ v. v.node) ∙ w.count in omega arith)
        go (v ∷ rest) e (s, f) = record {
          v = v;
          rest = rest;
          left_is = e;
          sides = s;
          node = sym (get_or-append_seam (map (λ (x : Visit). x.node) w.done) v.node (map (λ x. x.node) rest) n)
              ∙ ap (λ k. get_or (map (λ (x : Visit). x.node) w.done ++ v.node ∷ map (λ x. x.node) rest) k n) (length-map w.done (λ x. x.node) ∙ w.count)
              ∙ ap (λ ns. get_or ns i n) (sym (w.nodes_are ∙ ap (λ xs. map (λ x. x.node) w.done ++ map (λ x. x.node) xs) e))
              ∙ here;
        }

    -- what holds of all visits holds of this one
    held : (P : Visit → Type 0) (n : TreeNode) → All P (placed_nodes [] w.whole) → HasVisit n → P (record { above = above; node = n })
    held P n all h = subst (λ s. P (record { above = s; node = n })) h.sides (subst (λ m. P (record { above = h.v.above; node = m })) h.node (subst P (at (h.v)) (all (length w.done) h.v within)))
      where
        is : placed_nodes [] w.whole ≡ w.done ++ h.v ∷ h.rest
        is = w.visits_are ∙ ap (λ xs. w.done ++ xs) h.left_is

        at : (d : Visit) → get_or (placed_nodes [] w.whole) (length w.done) d ≡ h.v
        at d = ap (λ vs. get_or vs (length w.done) d) is ∙ get_or-append_seam w.done h.v h.rest d

        within : length w.done < length (placed_nodes [] w.whole)
        within = let e = ap length is ∙ length-append w.done (h.v ∷ h.rest) in omega arith

    pub walk_stands : AreBounded named.system (forms_in named)
        → named.system.columns + length named.system.rows + room (forms_in named) [] < 4294967296 → (n : TreeNode) → i < length nodes
        → get_or nodes i n ≡ n → VisitStands named.system (forms_in named) (record { above = above; node = n })
    walk_stands bounded small n lt here = held (VisitStands named.system (forms_in named)) n (visits_stand named.system (forms_in named) bounded small w.whole w.outcome) (visit_here n lt here)

    pub walk_leaf : (weights : List Weight) → i < length nodes → get_or nodes i (leaf_node weights) ≡ leaf_node weights → HasLeaf [] w.whole above weights
    walk_leaf weights lt here = held (IsLeafOf [] w.whole) (leaf_node weights) (leaves_visited [] w.whole) (visit_here (leaf_node weights) lt here) weights refl

    pub walk_next : (n : TreeNode) (m : reasons.TreeNode) → i < length nodes → get_or nodes i n ≡ n → IsMadeOf c named above n m
        → IsNodeOf c.setting.lts.now m → IsWalk c named nodes (i + 1) (next_sides above n) (made ++ m ∷ [])
    walk_next n m lt here is fits =
        let h = visit_here n lt here in
        let follows : (h.v.above ≡ above) × Follows (next_sides h.v.above h.v.node) h.rest [] = subst (λ vs. Follows above vs []) h.left_is w.follows in
        record {
          whole = w.whole;
          outcome = w.outcome;
          done = w.done ++ h.v ∷ [];
          left = h.rest;
          visits_are = w.visits_are ∙ ap (λ vs. w.done ++ vs) h.left_is ∙ sym (append_assoc w.done (h.v ∷ []) h.rest);
          nodes_are = w.nodes_are ∙ ap (λ vs. map (λ v. v.node) w.done ++ map (λ v. v.node) vs) h.left_is
              ∙ sym (append_assoc (map (λ (v : Visit). v.node) w.done) (h.v.node ∷ []) (map (λ v. v.node) h.rest))
              ∙ ap (λ ns. ns ++ map (λ v. v.node) h.rest) (sym (map-append (λ (v : Visit). v.node) w.done (h.v ∷ [])));
          count = length-append w.done (h.v ∷ []) ∙ (let c = w.count in omega arith);
          follows = subst (λ s. Follows s h.rest []) (ap₂ next_sides h.sides h.node) follows.1;
          made_are = made_more c named w.done made h.v m w.made_are (subst (λ s. IsMadeOf c named s h.v.node m) (sym h.sides) (subst (λ x. IsMadeOf c named above x m) (sym h.node) is));
          in_range = All-push (IsNodeOf c.setting.lts.now) made m w.in_range fits;
        }

    pub walk_end : length nodes ≤ i → IsTreeMade c named [] w.whole made
    walk_end past = go w.left refl
      where
        go : (left : List Visit) → w.left ≡ left → IsTreeMade c named [] w.whole made
        go [] e = tree_made c named [] w.whole made (subst (λ vs. AreMadeOf c named vs made) (sym (w.visits_are ∙ ap (λ vs. w.done ++ vs) e ∙ append-nil w.done)) w.made_are)
        go (v ∷ rest) e = absurd (let l = ap length (w.nodes_are ∙ ap (λ xs. map (λ v. v.node) w.done ++ map (λ v. v.node) xs) e)
            ∙ length-append (map (λ (v : Visit). v.node) w.done) (v.node ∷ map (λ v. v.node) rest) in let k = length-map w.done (λ v. v.node) ∙ w.count in omega arith)

    pub walk_fails : (n : TreeNode) (wide : Wide) → i < length nodes → get_or nodes i n ≡ n → LeafPasses c named above n wide → (case : CaseSystem)
        → ShowsCase named case → spread_tree (shown_case c) case [] w.whole
        (Err (record { above = above; wide = wide }))
    walk_fails n wide lt here fails case shows =
        let h = visit_here n lt here in
        subst (λ sides. spread_tree (shown_case c) case [] w.whole (Err (record { above = sides; wide = wide }))) h.sides
        (tree_fails c named [] w.whole w.done made h.v h.rest wide (w.visits_are ∙ ap (λ vs. w.done ++ vs) h.left_is) w.made_are
        (subst (λ sides. LeafPasses c named sides h.v.node wide) (sym h.sides) (subst (λ m. LeafPasses c named above m wide) (sym h.node) fails)) case shows)

-- the case of the nodes that are made
pub walk_refutes : (c : CaseSetting) (named : NamedRows) (nodes : List TreeNode) (i : ℕ) (above : List SplitSide) (case : Case)
    → IsWalk c named nodes i above (nodes_of case) → length nodes ≤ i → RefutesCase c.setting.lts.now c.setting.class c.problem c.number case
walk_refutes c named nodes i above case w past =
    let end = walk_end c named nodes i above (nodes_of case) w past in
    let same = tree_is (nodes_of case) end.made end.nodes_are in
    record {
      whole = end.nodes_are ∙ ap preorder (sym same);
      refutes = subst (TreeRefutes c.setting.lts.now c.setting.class c.problem c.number []) (sym same) end.refutes;
      in_range = subst (All (IsNodeOf c.setting.lts.now)) (end.nodes_are ∙ ap preorder (sym same)) w.in_range;
    }

-- ---- what a case with a tree comes to

module _ (c : CaseSetting) (named : NamedRows) (system : IsNamedSystem c named) (nodes : List TreeNode) (i : ℕ) (above : List SplitSide) where
  case_branching : (whole : SplitTree) → Branching named.system (forms_in named) (tree whole) → Branching (rows_of system.case) system.case.forms (tree whole)
  case_branching whole b = subst (λ s. Branching s system.case.forms (tree whole)) system.shows.system (subst (λ fs. Branching named.system fs (tree whole)) system.shows.forms b)

  pub walk_comes : (case : Case) → IsWalk c named nodes i above (nodes_of case) → length nodes ≤ i → CaseComesTo c (answer.Refuted case)
  walk_comes case w past =
      let end = walk_end c named nodes i above (nodes_of case) w past in
      let same = tree_is (nodes_of case) end.made end.nodes_are in
      is_refuted system.case w.whole (case_tree case) system.made (case_branching w.whole w.outcome)
      (subst (λ t. spread_tree (shown_case c) system.case [] w.whole (Ok t)) (sym same) (end.spreads system.case system.shows))

  pub walk_passes : (made : List reasons.TreeNode) (n : TreeNode) (wide : Wide) → IsWalk c named nodes i above made → i < length nodes → get_or nodes i n ≡ n
      → LeafPasses c named above n wide → CaseComes (shown_case c)
      (passes (passed_at Spread c (named_sides c.setting.lts.now c.setting.class c.problem above) wide))
  walk_passes made n wide w lt here fails = leaf_passes system.case w.whole (record { above = above; wide = wide }) system.made
      (case_branching w.whole w.outcome) (walk_fails c named nodes i above made w n wide lt here fails system.case system.shows)
