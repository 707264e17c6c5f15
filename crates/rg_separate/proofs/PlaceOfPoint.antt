-- The point of a case's branching, as the place asks for it and as the term that it shows.
use Rattle.std.proofs.Common.{◌≡◌, ℕ, ◌<◌, List, [], ◌∷◌, length, get_or, Ok, Err, refl, sym, ap, subst, ◌∙◌, arith}
use Rattle.std.specs.Prelude.{pos}
use Rattle.std.proofs.lemmas.List.{get_or-map}
use Rattle.rg_theory.specs.System.{System}
use Rattle.rg_theory.specs.declared.Class.{Class}
use Rattle.rg_integers.specs.Value.{SameValue}
use Rattle.rg_integers.specs.declared.term.Wide.{Wide}
use Rattle.rg_fraction.specs.declared.fraction.Fraction.{Fraction}
use Rattle.rg_linear.specs.System.{LinearSystem, IsPoint, MeetsRows}
use Rattle.rg_linear.specs.Descent as descent
use Rattle.rg_linear.specs.Dictionary.{column_set, HasDictionary}
use Rattle.rg_linear.specs.Branching.{Form, SplitSide, node_system, FormsWhole, BranchOutcome.found, Branching}
use Rattle.rg_linear.proofs.Having.{columns_have}
use Rattle.rg_linear.proofs.Widths.{descent_has}
use Rattle.rg_linear.proofs.Splits.{found_well}
use Rattle.rg_linear.specs.Cycle.{CycleBasis}
use Rattle.rg_folds.specs.Fold.{Ratio, whole, ratio_of}
use Rattle.rg_case_folds.specs.Rewriting.{column_count, rows_of}
use Rattle.rg_case_folds.specs.Placing.{ratio_at, place_fold}
use Rattle.rg_case_folds.specs.Shown.{IsValueAt, PointOf, PlaceShown, named_sides}
use Rattle.rg_case_folds.specs.Meaning.{IsCaseOver}
use Rattle.rg_case_folds.proofs.ColumnValues.{columns_of_case}
use Rattle.rg_cycles.specs.View.{cycle_of}
use Rattle.rg_theory.specs.Net.{Place}
use Rattle.rg_outcome.specs.Casing.{CaseResult.makes, CaseResult.passes, CaseComes, CaseComes.place_is_made, CaseComes.place_passes}
use Rattle.rg_branch.specs.Answer.{AreValuesAt, IsFoundPoint, IsWholeSolution}
use Rattle.rg_rows.specs.Shared.{NamedRows}
use Rattle.rg_places.specs.PointValues.{ratios_of, point_start, point_value, SolvesCase}
use Rattle.rg_places.proofs.PointPlaces.{point_of}
use Rattle.rg_cert_data.specs.declared.wide_at.Stage.TheVariants.{Place as PlaceStage}
use Rattle.rg_case_parts.specs.SettingViews.{shown_setting, shown_case}
use Rattle.rg_case_parts.specs.declared.setting.CaseSetting.{CaseSetting}
use Rattle.rg_separate.specs.Casing.{IsCase, IsNamedSystem, forms_in}
use Rattle.rg_separate.specs.Passing.{passed_at}
use Rattle.rg_separate.proofs.PointValues.{value_at}
use Rattle.rg_outcome.proofs.Inseparable.{asked}

pub case_over : (c : CaseSetting) (named : NamedRows) → IsCase c → (system : IsNamedSystem c named) → IsCaseOver (shown_case c) system.case
case_over c named is system = record {
  in_range = is.setting.in_range;
  reachable = is.setting.reachable;
  is_tree = is.setting.tree.tree;
  is_basis = is.setting.basis;
  asked = asked c.setting.lts.now c.problem is.has;
  numbers = is.setting.bound;
  is_case = system.made;
}

-- the system has as many columns as the class and the basis say
pub case_columns : (c : CaseSetting) (named : NamedRows) → (system : IsNamedSystem c named) → named.system.columns ≡ column_count c.setting.lts.now (cycle_of c.setting.basis.now) c.setting.class
case_columns c named system = ap (λ s. s.columns) system.shows.system ∙ columns_of_case (shown_case c) system.case system.made

-- the ratio of a column
ratio_is : (point : List Fraction) (j : ℕ) (P : Ratio → Type 0) → j < length point → ((f : Fraction) → P (ratio_of (get_or point j f))) → P (ratio_at (ratios_of point) j)
ratio_is [] j P lt each = absurd (omega arith)
ratio_is (f ∷ point) j P lt each = subst P (sym (get_or-map ratio_of (f ∷ point) j f (whole (pos 0)) lt)) (each f)

-- the point solves the case
pub solves : (c : CaseSetting) (named : NamedRows) (point : List Fraction) → IsCase c → IsNamedSystem c named
    → IsWholeSolution named.system (forms_in named) point → SolvesCase (shown_setting c.setting) c.problem point
solves c named point is system at = record {
  number = c.number;
  case = system.case;
  of_case = case_over c named is system;
  scale = at.scale;
  v = at.v;
  is_point = subst (λ s. IsPoint s at.scale at.v) system.shows.system at.point;
  meets = subst (λ s. MeetsRows s at.v) system.shows.system at.meets;
  whole = subst (λ s. FormsWhole s system.case.forms at.scale at.v) system.shows.system (subst (λ fs. FormsWhole named.system fs at.scale at.v) system.shows.forms at.whole);
  values = λ j lt. ratio_is point j (λ r. SameValue r.top r.bottom (at.v j) at.scale) lt (λ f. at.each j f lt);
}

-- the set at which a branching ends has its dictionary
found_has : (system : LinearSystem) (forms : List Form) (sides : List SplitSide) (members : List ℕ) → Branching system forms (found members sides)
    → HasDictionary (node_system system forms sides) members
found_has system forms sides members b =
    let node = node_system system forms sides in
    descent_has node (column_set node) [] (length node.rows) 0 (descent.Outcome.point members) (found_well system forms [] (found members sides) b).descent (columns_have node)

-- Start and the values of the labels are those of the columns at the set
point_is : (lts : System) (basis : CycleBasis) (class : Class) (node : LinearSystem) (members : List ℕ) (point : List Fraction) → HasDictionary node members
    → AreValuesAt node members point → node.columns ≡ column_count lts basis class → PointOf lts basis class node members (point_start class point)
    (point_value lts basis class point)
point_is lts basis class node members point has are count =
    point_of lts basis class point (are.one_each ∙ count) node members
    (λ j lt. ratio_is point j (IsValueAt node members j) lt
    (λ f. value_at node members has j (get_or point j f) (let e = are.one_each in omega arith) (λ scale v basic. are.each j f lt scale v basic)))

module _ (c : CaseSetting) (named : NamedRows) (sides : List SplitSide) (point : List Fraction) (system : IsNamedSystem c named) (at : IsFoundPoint named.system (forms_in named) sides point) where
  case_found : Branching (rows_of system.case) system.case.forms (found at.members sides)
  case_found = subst (λ s. Branching s system.case.forms (found at.members sides)) system.shows.system (subst (λ fs. Branching named.system fs (found at.members sides)) system.shows.forms at.outcome)

  case_point : PointOf c.setting.lts.now (cycle_of c.setting.basis.now) c.setting.class
      (node_system (rows_of system.case) system.case.forms sides) at.members (point_start c.setting.class point)
      (point_value c.setting.lts.now (cycle_of c.setting.basis.now) c.setting.class point)
  case_point = subst (λ s. PointOf c.setting.lts.now (cycle_of c.setting.basis.now) c.setting.class
      (node_system s system.case.forms sides) at.members (point_start c.setting.class point)
      (point_value c.setting.lts.now (cycle_of c.setting.basis.now) c.setting.class point)) system.shows.system
      (subst (λ fs. PointOf c.setting.lts.now (cycle_of c.setting.basis.now) c.setting.class (node_system named.system fs sides) at.members
      (point_start c.setting.class point) (point_value c.setting.lts.now (cycle_of c.setting.basis.now) c.setting.class point)) system.shows.forms
      (point_is c.setting.lts.now (cycle_of c.setting.basis.now) c.setting.class (node_system named.system (forms_in named) sides) at.members point
      (found_has named.system (forms_in named) sides at.members at.outcome) at.values_are (case_columns c named system)))

  -- the case comes to the place of the point, or to its first step out of range
  pub place_comes : (p : Place) → place_fold (shown_setting c.setting) c.problem
      (point_start c.setting.class point) (point_value c.setting.lts.now (cycle_of c.setting.basis.now) c.setting.class point) (Ok p)
      → CaseComes (shown_case c) (makes p)
  place_comes p fold = place_is_made system.case at.members sides (point_start c.setting.class point)
      (point_value c.setting.lts.now (cycle_of c.setting.basis.now) c.setting.class point) p system.made case_found case_point fold

  pub place_fails : (w : Wide) → place_fold (shown_setting c.setting) c.problem
      (point_start c.setting.class point) (point_value c.setting.lts.now (cycle_of c.setting.basis.now) c.setting.class point) (Err w)
      → CaseComes (shown_case c)
      (passes (passed_at PlaceStage c (named_sides c.setting.lts.now c.setting.class c.problem sides) w))
  place_fails w fold = place_passes system.case at.members sides (point_start c.setting.class point)
      (point_value c.setting.lts.now (cycle_of c.setting.basis.now) c.setting.class point) w system.made case_found case_point fold

-- the step that the place of the point shows
pub place_shown : (c : CaseSetting) (named : NamedRows) (sides : List SplitSide) (fractions : List Fraction) (w : Wide) → IsCase c → IsNamedSystem c named
    → IsFoundPoint named.system (forms_in named) sides fractions
    → place_fold (shown_setting c.setting) c.problem (point_start c.setting.class fractions) (point_value c.setting.lts.now (cycle_of c.setting.basis.now) c.setting.class fractions) (Err w)
    → PlaceShown c.setting.lts.now c.setting.class (passed_at PlaceStage c (named_sides c.setting.lts.now c.setting.class c.problem sides) w)
place_shown c named sides fractions w is system at fails = record {
  case = system.case;
  of_case = record {
    arcs = c.setting.tree.now.arcs;
    basis = cycle_of c.setting.basis.now;
    problem = c.problem;
    is_tree = is.setting.tree.tree;
    is_basis = is.setting.basis;
    stands = record { problem_is = refl; has = is.has; live = is.live; case_below = is.below };
    is_case = system.made;
  };
  sides = sides;
  set = at.members;
  start = point_start c.setting.class fractions;
  value = point_value c.setting.lts.now (cycle_of c.setting.basis.now) c.setting.class fractions;
  finds = case_found c named sides fractions system at;
  above_is = refl;
  nowhere = record { members = refl; pivot = refl; leaves = refl; target = refl; entry = refl };
  point = case_point c named sides fractions system at;
  passes = fails;
}
