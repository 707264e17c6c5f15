-- The leaves of a case that is refuted, and what is shown where one passes.
use Rattle.std.proofs.Common.{rules, ◌≡◌, ℕ, ◌+◌, ◌^◌, ◌<◌, List, [], ◌∷◌, map, length, get_or, All, Result, Ok, Err, refl, sym, ap, subst, ◌∙◌, arith}
use Rattle.std.specs.Prelude.{ℤ, pos, negsuc, nat_abs, ◌≤ℤ◌, slice_index_or, FitsSigned}
use Rattle.std.specs.Int.{w64}
use Rattle.std.proofs.lemmas.Int.{ints}
use Rattle.std.proofs.lemmas.List.{length-map, length-append, get_or-map, get_or_default}
use Rattle.std.proofs.lemmas.List.Elements.{All-nil, All-cons, All-map, All-weaker}
use Rattle.rg_theory.specs.System.{System}
use Rattle.rg_theory.specs.declared.Class.{Class}
use Rattle.rg_theory.specs.declared.Problem.{Problem}
use Rattle.rg_cert_meaning.specs.Row.{RowStands, row_expression, Side}
use Rattle.rg_cert_meaning.specs.declared.Form.{Form as SplitForm}
use Rattle.rg_cert_meaning.specs.Refutes.{LeafRefutes}
use Rattle.rg_integers.specs.declared.term.Wide.{Wide}
use Rattle.rg_fraction.specs.declared.fraction.Fraction.{Fraction}
use Rattle.rg_linear.specs.Branching.{SplitSide, side_row, Weight, SplitTree, BranchOutcome.tree, Branching, Form, form_at, weights_from, node_system}
use Rattle.rg_case_folds.specs.Setting.{Setting as ShownSetting}
use Rattle.rg_folds.specs.Fold.{each}
use Rattle.rg_case_folds.specs.Meaning.{IsCaseOver}
use Rattle.rg_case_folds.specs.Rewriting.{CaseSystem, split_forms, form_low, form_fold, rows_of}
use Rattle.rg_case_folds.proofs.Forms.{IsSplitOf, split_is}
use Rattle.rg_case_folds.specs.Spreading.{Share, share_fold, leaf_fold, spread_fold}
use Rattle.rg_case_folds.specs.Shown.{SpreadShown, HasLeaf, named_side, named_sides}
use Rattle.rg_cycles.specs.View.{cycle_of}
use Rattle.rg_cert_data.specs.Trees as reasons
use Rattle.rg_branch_trees.specs.Trees.{TreeNode.leaf_node, TreeNode.split_node}
use Rattle.rg_cert_data.specs.Certificates.{IsFormOf, IsNodeOf}
use Rattle.rg_branch.specs.View.{TreeNode}
use Rattle.rg_branch.specs.Asked.{IsSideOf}
use Rattle.rg_rows.specs.Shared.{NamedRows}
use Rattle.rg_rows.specs.declared.named_form.NamedForm.{NamedForm}
use Rattle.rg_rows.specs.Forms.{linear_form, split_of}
use Rattle.rg_rows.specs.Shown.{ShowsCase}
use Rattle.rg_farkas.specs.Refuting.{SharesRefute}
use Rattle.rg_farkas.specs.Leaves.{share_of, IsLeafWith, RefutesCase}
use Rattle.rg_farkas.proofs.Multipliers.{node_names_stand, node_names_in_range, node_shares_refute}
use Rattle.rg_cert_data.specs.declared.wide_at.Stage.TheVariants.{Spread}
use Rattle.rg_case_parts.specs.SettingViews.{shown_setting, shown_case}
use Rattle.rg_case_parts.specs.declared.setting.CaseSetting.{CaseSetting}
use Rattle.rg_separate.specs.Casing.{IsCase, IsNamedSystem, forms_in, AreRefuting, VisitStands, IsMadeOf, sides_among, SharesFold, LeafPasses}
use Rattle.rg_separate.specs.Passing.{passed_at}
use Rattle.rg_separate.proofs.Factors.{weights_are, weights_few}
use Rattle.rg_separate.proofs.PlaceOfPoint.{case_over}
use Rattle.rg_outcome.proofs.Inseparable.{asked}
use Rattle.rg_separate.proofs.Walking.{IsWalk, walk_leaf}
use Rattle.rg_cert_meaning.specs.declared.RowName.{RowName}
use Rattle.rg_cert_meaning.specs.declared.Form.TheVariants as split_form

-- ---- the forms of a class are of the system

pub forms_of_system : (lts : System) (class : Class) (problem : Problem) → All (IsFormOf lts) (split_forms lts class problem)
forms_of_system lts class problem i d lt = by (get_or (split_forms lts class problem) i d)
    (split_is lts class problem (get_or (split_forms lts class problem) i d)
    (i, lt, get_or_default (split_forms lts class problem) i (get_or (split_forms lts class problem) i d) d lt))
  where
    by : (split : SplitForm) → IsSplitOf lts class problem split → IsFormOf lts split
    by (split_form.Tokens q) (bound, below) = below
    by (split_form.Effect t) (bound, plain, used, below) = below
    by split_form.Start splits = tt

pub sides_of_system : (lts : System) (class : Class) (problem : Problem) (sides : List SplitSide)
    → All (λ side. side.form < length (split_forms lts class problem)) sides → All (λ s. IsFormOf lts s.form) (named_sides lts class problem sides)
sides_of_system lts class problem sides all =
    All-map (λ (s : Side). IsFormOf lts s.form) (named_side lts class problem) sides
    (All-weaker (λ (side : SplitSide). side.form < length (split_forms lts class problem))
    (λ (side : SplitSide). IsFormOf lts (slice_index_or (split_forms lts class problem) side.form (split_form.Tokens 0)))
    (λ side lt. forms_of_system lts class problem side.form (split_form.Tokens 0) lt) sides all)

-- ---- what is shown where a leaf passes

pub spread_shown : (c : CaseSetting) (named : NamedRows) (whole : SplitTree) (sides : List SplitSide) (weights : List Weight) (w : Wide) → IsCase c
    → (system : IsNamedSystem c named) → Branching named.system (forms_in named) (tree whole) → HasLeaf [] whole sides weights
    → spread_fold (shown_case c) system.case sides (named_sides c.setting.lts.now c.setting.class c.problem sides) weights (Err w)
    → SpreadShown c.setting.lts.now c.setting.class (passed_at Spread c (named_sides c.setting.lts.now c.setting.class c.problem sides) w)
spread_shown c named whole sides weights w is system ends has fails = record {
  case = system.case;
  of_case = record {
    arcs = c.setting.tree.now.arcs;
    basis = cycle_of c.setting.basis.now;
    problem = c.problem;
    is_tree = is.setting.tree.tree;
    is_basis = is.setting.basis;
    stands = record { problem_is = refl; has = is.has; live = is.live; case_below = is.below };
    is_case = system.made;
  };
  refuting = whole;
  sides = sides;
  weights = weights;
  refutes = subst (λ s. Branching s system.case.forms (tree whole)) system.shows.system (subst (λ fs. Branching named.system fs (tree whole)) system.shows.forms ends);
  has_leaf = has;
  above_is = refl;
  nowhere = record { members = refl; pivot = refl; leaves = refl; target = refl; entry = refl };
  passes = fails;
}

pub leaf_shown : (c : CaseSetting) (named : NamedRows) (nodes : List TreeNode) (i : ℕ) (above : List SplitSide) (made : List reasons.TreeNode) (n : TreeNode)
    (w : Wide) → IsCase c → IsNamedSystem c named → IsWalk c named nodes i above made → i < length nodes → get_or nodes i n ≡ n → LeafPasses c named above n w
    → SpreadShown c.setting.lts.now c.setting.class (passed_at Spread c (named_sides c.setting.lts.now c.setting.class c.problem above) w)
leaf_shown c named nodes i above made (leaf_node weights) w is system walk lt here fails =
    spread_shown c named walk.whole above weights w is system walk.outcome (walk_leaf c named nodes i above made walk weights lt here) (fails system.case system.shows)
leaf_shown c named nodes i above made (split_node f u) w is system walk lt here fails = absurd fails

-- ---- what a leaf is asked for

-- the node of the case, its weights and its sides
refuting_case : (c : CaseSetting) (named : NamedRows) (system : IsNamedSystem c named) (sides : List SplitSide) (weights : List Weight)
    → AreRefuting (node_system named.system (forms_in named) sides) weights → AreRefuting (node_system (rows_of system.case) system.case.forms sides) weights
refuting_case c named system sides weights are =
    subst (λ s. AreRefuting (node_system s system.case.forms sides) weights) system.shows.system
    (subst (λ fs. AreRefuting (node_system named.system fs sides) weights) system.shows.forms are)

-- the shares with the sides by their names in the class
pub shares_named : (c : CaseSetting) (named : NamedRows) (system : IsNamedSystem c named) (sides : List SplitSide) (weights : List Weight)
    (result : Result (List Share) Wide) → SharesFold named sides weights result → (case : CaseSystem)
    → ShowsCase named case → each (share_fold case sides (named_sides c.setting.lts.now c.setting.class c.problem sides)) weights result
shares_named c named system sides weights result fold case shows =
    subst (λ (ss : List Side). each (share_fold case sides ss) weights result) (ap (λ fs. sides_among fs sides) system.by_name) (fold case shows)

pub leaf_asked : (c : CaseSetting) (named : NamedRows) (sides : List SplitSide) (above : List Side) (weights : List Weight)
    (shares : List (RowName × Fraction)) → IsCase c → IsNamedSystem c named
    → VisitStands named.system (forms_in named) (record { above = sides; node = leaf_node weights })
    → above ≡ named_sides c.setting.lts.now c.setting.class c.problem sides → length shares ≡ length weights
    → SharesFold named sides weights (Ok (map share_of shares))
    → RefutesCase c shares above
leaf_asked c named sides above weights shares is system stands by_name count fold = record {
  reachable = is.setting.reachable;
  tree = is.setting.tree;
  labels = is.setting.labels;
  basis = is.setting.basis;
  asked = asked lts problem is.has;
  case = is.below;
  sides = subst (All (λ (s : Side). IsFormOf lts s.form)) (sym by_name)
      (sides_of_system lts class problem sides
      (All-weaker (IsSideOf (forms_in named)) (λ (s : SplitSide). s.form < length (split_forms lts class problem))
      (λ s at. (let e = forms_many in let l = at.form in omega arith)) sides stands.sides.each));
  stand = subst (λ ss. All (λ (s : Share). RowStands lts class problem number ss s.name) (map share_of shares)) (sym by_name)
      (node_names_stand (shown_case c) system.case over sides within refuting.multiplier (map share_of shares) made);
  names = node_names_in_range (shown_case c) system.case over sides within (let f = stands.few in omega arith) refuting.multiplier (map share_of shares) made;
  refute = subst (λ ss. SharesRefute lts (row_expression lts class problem number ss) (map share_of shares)) (sym by_name)
      (node_shares_refute (shown_case c) system.case over sides within is.live refuting.multiplier refuting.refute (map share_of shares) made);
  few_rows = (let w = ap length refuting.weights_are in
      let f = weights_few refuting.multiplier 0 (length (node_system (rows_of system.case) system.case.forms sides).rows) in let g = refuting.few in
      let e = count in omega arith);
  few_sides = (let e = ap length by_name ∙ length-map sides (named_side lts class problem) in let f = stands.few in omega arith);
}
  where
    lts : System
    lts = c.setting.lts.now

    class : Class
    class = c.setting.class

    problem : Problem
    problem = c.problem

    number : ℕ
    number = c.number

    over : IsCaseOver (shown_case c) system.case
    over = case_over c named is system

    refuting : AreRefuting (node_system (rows_of system.case) system.case.forms sides) weights
    refuting = refuting_case c named system sides weights stands.node

    forms_many : length (forms_in named) ≡ length (split_forms lts class problem)
    forms_many = length-map named.forms linear_form ∙ sym (length-map named.forms split_of) ∙ ap length system.by_name

    within : All (λ side. side.form < length system.case.forms) sides
    within = All-weaker (IsSideOf (forms_in named)) (λ (s : SplitSide). s.form < length system.case.forms) (λ s at. subst (λ fs. s.form < length fs) system.shows.forms at.form) sides stands.sides.each

    made : each (share_fold system.case sides (named_sides lts class problem sides))
        (weights_from refuting.multiplier 0 (length (node_system (rows_of system.case) system.case.forms sides).rows)) (Ok (map share_of shares))
    made = subst (λ ws. each (share_fold system.case sides (named_sides lts class problem sides)) ws (Ok (map share_of shares))) refuting.weights_are
        (shares_named c named system sides weights (Ok (map share_of shares)) fold system.case system.shows)

-- ---- the leaf that is made

pub leaf_made : (c : CaseSetting) (named : NamedRows) (sides : List SplitSide) (above : List Side) (weights : List Weight) (shares : List Share) (n : reasons.TreeNode)
    → IsNamedSystem c named → above ≡ named_sides c.setting.lts.now c.setting.class c.problem sides → SharesFold named sides weights (Ok shares)
    → IsLeafWith (λ rows. leaf_fold c.setting.lts.now c.setting.tree.now.arcs (cycle_of c.setting.basis.now)
    (row_expression c.setting.lts.now c.setting.class c.problem c.number above) shares (Ok rows)) n
    → IsLeafWith (LeafRefutes (RowStands c.setting.lts.now c.setting.class c.problem c.number above)
    (row_expression c.setting.lts.now c.setting.class c.problem c.number above)) n → IsMadeOf c named sides (leaf_node weights) n
leaf_made c named sides above weights shares (leaf_node rows) system e fold leaf is = record {
  refutes = subst (λ ss. LeafRefutes (RowStands c.setting.lts.now c.setting.class c.problem c.number ss) (row_expression c.setting.lts.now c.setting.class c.problem c.number ss) rows) e is;
  spreads = λ case shows. (
    shares,
    shares_named c named system sides weights (Ok shares) fold case shows,
    subst (λ ss. leaf_fold c.setting.lts.now c.setting.tree.now.arcs (cycle_of c.setting.basis.now)
        (row_expression c.setting.lts.now c.setting.class c.problem c.number ss) shares (Ok rows)) e leaf,
  );
}
leaf_made c named sides above weights shares (split_node form at) system e fold leaf is = absurd is

-- ---- the split that is made

lows_of : (it : ShownSetting) (splits : List SplitForm) (forms : List Form) → each (form_fold it) splits (Ok forms) → All (λ f. negsuc 0 ≤ℤ f.low) forms
lows_of it [] forms e = subst (All (λ (f : Form). negsuc 0 ≤ℤ f.low)) (let s : [] ≡ forms = cc in s) (All-nil (λ (f : Form). negsuc 0 ≤ℤ f.low))
lows_of it (s ∷ splits) forms (x, (scaled, made, is), (more, rest, e)) =
    subst (All (λ (f : Form). negsuc 0 ≤ℤ f.low)) (let t : (x ∷ more) ≡ forms = cc in t)
    (All-cons (λ (f : Form). negsuc 0 ≤ℤ f.low) x more (subst (λ (z : ℤ). negsuc 0 ≤ℤ z) (let t : form_low s ≡ x.low = (let u = is in cc) in t) (low s)) (lows_of it splits more rest))
  where
    low : (split : SplitForm) → negsuc 0 ≤ℤ form_low split
    low (split_form.Tokens q) = omega (arith, ints)
    low (split_form.Effect t) = omega (arith, ints)
    low split_form.Start = omega (arith, ints)

pub split_fits : (c : CaseSetting) (named : NamedRows) (f : ℕ) (u : ℤ) (d : NamedForm) → IsNamedSystem c named → f < length (forms_in named)
    → (form_at (forms_in named) f).low ≤ℤ u → FitsSigned w64 u → IsNodeOf c.setting.lts.now (split_node (get_or named.forms f d).form u)
split_fits c named f u d system lt le fits = (
  subst (IsFormOf c.setting.lts.now) (ap (λ fs. get_or fs f (split_form.Tokens 0)) (sym system.by_name) ∙ get_or-map split_of named.forms f d (split_form.Tokens 0) within)
      (forms_of_system c.setting.lts.now c.setting.class c.problem f (split_form.Tokens 0)
      (let e = sym (length-map named.forms split_of) ∙ ap length system.by_name in let w = within in omega arith)),
  above u fits (let l = least in omega (arith, ints)),
)
  where
    within : f < length named.forms
    within = let e = length-map named.forms linear_form in omega arith

    all : All (λ g. negsuc 0 ≤ℤ g.low) system.case.forms
    all = let (rows, rows_made, (forms, forms_made, (columns, keeps, form_list))) = system.made in subst (All (λ (g : Form). negsuc 0 ≤ℤ g.low)) (sym form_list)
        (lows_of (shown_setting c.setting) (split_forms c.setting.lts.now c.setting.class c.problem) forms forms_made)

    least : negsuc 0 ≤ℤ (form_at (forms_in named) f).low
    least = subst (All (λ (g : Form). negsuc 0 ≤ℤ g.low)) (sym system.shows.forms) all f (record { scale = pos 1; coeffs = []; low = pos 0; high = pos 0 }) lt

    above : (z : ℤ) → FitsSigned w64 z → negsuc 0 ≤ℤ z → nat_abs z < 2 ^ 63
    above (pos n) fits le = search rules
    above (negsuc n) fits le = (let e : n ≡ 0 = omega (arith, ints) in omega arith)

-- the weights of a leaf that stands: their rows are those of its node, and their multipliers are in range
pub leaf_rows : (c : CaseSetting) (named : NamedRows) (sides : List SplitSide) (weights : List Weight)
    → AreRefuting (node_system named.system (forms_in named) sides) weights → All (λ w. w.row < length named.system.rows + length sides) weights
leaf_rows c named sides weights are = subst (All (λ (w : Weight). w.row < length named.system.rows + length sides)) (sym are.weights_are)
    (weights_are are.multiplier (λ (w : Weight). w.row < length named.system.rows + length sides) 0 (length (node_system named.system (forms_in named) sides).rows)
    (length named.system.rows + length sides)
    (let e = length-append named.system.rows (map (side_row (forms_in named)) sides) in let g = length-map sides (side_row (forms_in named)) in omega arith) (λ i lt. lt))

pub leaf_not_negative : (c : CaseSetting) (named : NamedRows) (sides : List SplitSide) (weights : List Weight)
    → AreRefuting (node_system named.system (forms_in named) sides) weights → All (λ w. pos 0 ≤ℤ w.multiplier) weights
leaf_not_negative c named sides weights are = subst (All (λ (w : Weight). pos 0 ≤ℤ w.multiplier)) (sym are.weights_are)
    (weights_are are.multiplier (λ (w : Weight). pos 0 ≤ℤ w.multiplier) 0 (length (node_system named.system (forms_in named) sides).rows)
    (length (node_system named.system (forms_in named) sides).rows) (omega arith) are.refute.not_negative)
