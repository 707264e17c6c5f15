-- Each problem of a system has a result.
use Rattle.std.proofs.Common.{◌≡◌, ◌≢◌, ◌⊎◌, inl, inr, ℕ, zero, suc, ◌+◌, ◌<◌, ◌==◌, Bool, true, false, if◌then◌else◌, List, [], ◌∷◌, length, slice_index_or, Contains, Some, Result, Ok, Err, refl, sym, ap, subst, ◌∙◌, ⊎_elim, eqb-true, eq-eqb, arith}
use Rattle.std.specs.Prelude.{pos, slice_get, Any}
use Rattle.std.proofs.lemmas.Bool.{cases_eq, cases_Bool, true≢false}
use Rattle.std.proofs.lemmas.List.{get_or_default}
use Rattle.rg_theory.specs.declared.Arc.{Arc}
use Rattle.rg_theory.specs.System.{System, labels, IsInRange, IsAllReachable, IsDead}
use Rattle.rg_theory.specs.Net.{Place}
use Rattle.rg_theory.specs.declared.Class.{Class}
use Rattle.rg_theory.specs.ClassWords.{HasNumbersInRange}
use Rattle.rg_theory.specs.Region.{blocking}
use Rattle.rg_theory.specs.declared.Problem.{Problem}
use Rattle.rg_theory.specs.declared.Problem.TheVariants.{Event, States}
use Rattle.rg_theory.specs.Problem.{IsProblem}
use Rattle.rg_theory.specs.Tree.{IsTree}
use Rattle.rg_theory.proofs.Lists.{find_any}
use Rattle.rg_integers.proofs.Order.{positive_differs}
use Rattle.rg_cert_meaning.specs.Row.{cases_of}
use Rattle.rg_cert_meaning.specs.Refutes.{Tree}
use Rattle.rg_linear.specs.System.{LinearSystem}
use Rattle.rg_linear.specs.Dictionary.{HasDictionary, column_set}
use Rattle.rg_linear.specs.Descent as descent
use Rattle.rg_linear.specs.Cycle.{CycleBasis}
use Rattle.rg_linear.specs.Branching.{SplitSide, node_system, Branching, BranchOutcome, BranchOutcome.found, BranchOutcome.tree, BranchOutcome.stopped}
use Rattle.rg_linear.proofs.Members.{IsInOrder}
use Rattle.rg_linear.proofs.Having.{columns_have}
use Rattle.rg_linear.proofs.Widths.{descent_has}
use Rattle.rg_linear.proofs.Splits.{found_well}
use Rattle.rg_linear.proofs.Endings.{branching_ends}
use Rattle.rg_case_folds.specs.Setting.{Setting, case_at}
use Rattle.rg_case_folds.specs.Chords.{IsBasis}
use Rattle.rg_folds.specs.Fold.{Ratio, whole}
use Rattle.rg_folds.specs.Substitution.{is_in, numbers_where}
use Rattle.rg_case_folds.specs.Rewriting.{free_columns, has_start, column_count, CaseSystem, rows_of, system_fold}
use Rattle.rg_case_folds.specs.Placing.{ratio_at, place_fold}
use Rattle.rg_case_folds.specs.Meaning.{first_column, IsCaseOver}
use Rattle.rg_case_folds.specs.Shown.{Stage, Shown, IsValueAt, PointOf, named_sides}
use Rattle.rg_case_folds.proofs.ColumnValues.{columns_of_case}
use Rattle.rg_case_folds.proofs.Lists.{not_in}
use Rattle.rg_case_folds.proofs.Lists.{where_is}
use Rattle.rg_case_folds.proofs.PointEffects.{in_has}
use Rattle.rg_case_folds.proofs.FormBounds.{forms_bounded}
use Rattle.rg_case_folds.proofs.ColumnValues.{count_is}
use Rattle.rg_outcome.specs.Casing.{CaseResult, CaseResult.makes, CaseResult.refutes, CaseResult.passes, LeafWide, spread_tree, step_at, term_at, CaseComes, CaseComes.row_passes, CaseComes.pivot_passes, CaseComes.place_passes, CaseComes.place_is_made, CaseComes.leaf_passes, CaseComes.is_refuted}
use Rattle.rg_outcome.specs.Solving.{Solved, Solved.placed, Solved.refuted, Solved.passed, CasesCome, CasesCome.first_place, CasesCome.all_refuted, CasesCome.first_term, ProblemComes}
use Rattle.rg_outcome.specs.Coming.{HasResults}
use Rattle.rg_theory.proofs.Deciding.{Decided, find_number}
use Rattle.rg_outcome.proofs.Cases.{same_result}
use Rattle.rg_outcome.proofs.Inseparable.{asked}
use Rattle.rg_outcome.proofs.Steps.{HasSome, Each, IsOver, whole_over, some_ratio}
use Rattle.rg_outcome.proofs.SystemResults.{basis_relations, some_system}
use Rattle.rg_outcome.proofs.PlaceResults.{some_place}
use Rattle.rg_outcome.proofs.LeafResults.{case_factors, some_spread_tree}

-- ---- the point at which every member of a set is 0

-- the number beside a label, 0 where it has none
beside : List ℕ → (ℕ → Ratio) → ℕ → Ratio
beside [] at f = whole (pos 0)
beside (x ∷ xs) at f = if x == f then at 0 else beside xs (λ i. at (suc i)) f

beside_is : (xs : List ℕ) (at : ℕ → Ratio) → IsInOrder xs → (i : ℕ) → i < length xs → beside xs at (slice_index_or xs i 0) ≡ at i
unfolding beside
beside_is [] at order i lt = absurd (omega arith)
beside_is (x ∷ xs) at order zero lt = ap (λ b. if b then at 0 else beside xs (λ i. at (suc i)) x) (eq-eqb x x refl)
beside_is (x ∷ xs) at order (suc i) lt = ⊎_elim (λ same. absurd (differs (eqb-true x (slice_index_or xs i 0) same)))
    (λ other. ap (λ b. if b then at 0 else beside xs (λ i. at (suc i)) (slice_index_or xs i 0)) other ∙ beside_is xs (λ i. at (suc i)) order.1 i (omega arith))
    (cases_Bool (x == slice_index_or xs i 0))
  where
    above : x < slice_index_or xs i 0
    above = order.0 (slice_index_or xs i 0) (i, omega arith, get_or_default xs i (slice_index_or xs i 0) 0 (omega arith))

    differs : x ≢ slice_index_or xs i 0
    differs e = let k = above in omega arith

pub in_order : (test : ℕ → Bool) (a n : ℕ) → IsInOrder (numbers_where test a n)
in_order test a zero = tt
in_order test a (suc n) = by (test a) (in_order test (suc a) n)
  where
    by : (b : Bool) → IsInOrder (numbers_where test (suc a) n) → IsInOrder (if b then (a ∷ numbers_where test (suc a) n) else numbers_where test (suc a) n)
    by true rest = ((λ t has. (let (_, least, _) = where_is test (suc a) n t has in omega arith)), rest)
    by false rest = rest

-- one number for each, as a list
chosen : (P : ℕ → Ratio → Type 0) (n : ℕ) → ((i : ℕ) → i < n → (f : Ratio) × P i f) → (fs : List Ratio) × ((i : ℕ) → i < n → P i (ratio_at fs i))
chosen P zero some = ([], λ i lt. absurd (omega arith))
chosen P (suc n) some = by (some 0 (omega arith)) (chosen (λ i. P (suc i)) n (λ i lt. some (suc i) (omega arith)))
  where
    by : (f : Ratio) × P 0 f → (fs : List Ratio) × ((i : ℕ) → i < n → P (suc i) (ratio_at fs i)) → (fs : List Ratio) × ((i : ℕ) → i < suc n → P i (ratio_at fs i))
    by (f, p) (fs, all) = (f ∷ fs, at)
      where
        at : (i : ℕ) → i < suc n → P i (ratio_at (f ∷ fs) i)
        at zero lt = p
        at (suc i) lt = all i (omega arith)

record HasPointOf (lts : System) (basis : CycleBasis) (class : Class) (system : LinearSystem) (members : List ℕ) : Type 0 where
  pub start : Ratio
  pub value : ℕ → Ratio
  pub point : PointOf lts basis class system members start value
  pub start_over : IsOver start
  pub values_over : Each (λ f. IsOver (value f)) (free_columns lts basis)

module _ (lts : System) (basis : CycleBasis) (class : Class) (system : LinearSystem) (members : List ℕ) (has : HasDictionary system members)
    (columns : system.columns ≡ column_count lts basis class) where
  abbrev IsNumber : ℕ → Ratio → Type 0
  IsNumber j f = IsValueAt system members j f × IsOver f

  number_at_column : (j : ℕ) → j < system.columns → (f : Ratio) × IsNumber j f
  number_at_column j lt = by (cases_Bool (is_in members j))
    where
      by : (is_in members j ≡ true) ⊎ (is_in members j ≡ false) → (f : Ratio) × IsNumber j f
      by (inl e) = (whole (pos 0), (inl (in_has members j e, refl), whole_over (pos 0)))
      by (inr e) =
          let (k, row) = has.rows j (omega arith) (not_in members j e) in
          let (f, is) = some_ratio k.constant k.d (positive_differs k.d row.positive) in
          (f, (inr (k, row, is), is.positive))

  record HasStart : Type 0 where
    pub start : Ratio
    pub is : has_start class ≡ true → IsValueAt system members 0 start
    pub none : has_start class ≡ false → start ≡ whole (pos 0)
    pub over : IsOver start

  some_start : HasStart
  some_start = by (cases_Bool (has_start class))
    where
      by : (has_start class ≡ true) ⊎ (has_start class ≡ false) → HasStart
      by (inl e) =
          let one : first_column class ≡ 1 = ap (λ b. if b then 1 else 0) e in
          let (f, (is, over)) = number_at_column 0 (let c = columns in let n = count_is lts basis class in omega arith) in
          record { start = f; is = λ _. is; none = λ e'. absurd (true≢false (sym e ∙ e')); over = over }
      by (inr e) = record { start = whole (pos 0); is = λ e'. absurd (true≢false (sym e' ∙ e)); none = λ _. refl; over = whole_over (pos 0) }

  some_point : HasPointOf lts basis class system members
  some_point =
      let s = some_start in
      let (fs, all) = chosen (λ i f. IsNumber (first_column class + i) f) (length (free_columns lts basis))
      (λ i lt. number_at_column (first_column class + i) (let c = columns in let n = count_is lts basis class in omega arith)) in
      let order = in_order _ 0 (labels lts) in
      let at : (i : ℕ) → i < length (free_columns lts basis)
      → IsNumber (first_column class + i) (beside (free_columns lts basis) (ratio_at fs) (slice_index_or (free_columns lts basis) i 0)) = λ i lt. subst
      (IsNumber (first_column class + i)) (sym (beside_is (free_columns lts basis) (ratio_at fs) order i lt)) (all i lt) in
      record {
        start = s.start;
        value = beside (free_columns lts basis) (ratio_at fs);
        point = record {
          start_is = s.is;
          no_start = s.none;
          values = λ i f lt e. subst (λ u. IsValueAt system members (first_column class + i) (beside (free_columns lts basis) (ratio_at fs) u)) e (at i lt).0;
        };
        start_over = s.over;
        values_over = λ f (i, lt, e). subst (λ u. IsOver (beside (free_columns lts basis) (ratio_at fs) u)) (get_or_default (free_columns lts basis) i 0 f lt ∙ e) (at i lt).1;
      }

-- ---- a case

found_has : (system : LinearSystem) (case : CaseSystem) (sides : List SplitSide) (members : List ℕ)
    → Branching (rows_of case) case.forms (found members sides) → HasDictionary (node_system (rows_of case) case.forms sides) members
found_has system case sides members b =
    let node = node_system (rows_of case) case.forms sides in
    descent_has node (column_set node) [] (length node.rows) 0 (descent.Outcome.point members) (found_well (rows_of case) case.forms [] (found members sides) b).descent (columns_have node)

module _ (s : Setting) (fine : IsInRange s.lts) (numbers : HasNumbersInRange s.class) (reachable : IsAllReachable s.lts)
    (is_tree : IsTree s.lts s.tree) (is_basis : IsBasis s.lts s.tree s.basis) (problem : Problem) (is : IsProblem s.lts problem) where
  abbrev HasCase : ℕ → Type 0
  HasCase number = (r : CaseResult) × CaseComes (case_at s problem number) r

  ended : (number : ℕ) (case : CaseSystem) → system_fold (case_at s problem number) (Ok case) → (o : BranchOutcome) → Branching (rows_of case) case.forms o → HasCase number
  ended number case made (stopped sides at) b = (passes (term_at problem number (named_sides s.lts s.class problem sides) at), pivot_passes case sides at made b)
  ended number case made (found members sides) b = by (some_place s problem h.start h.value (basis_relations s.lts s.tree s.basis is_basis) h.start_over h.values_over)
    where
      h : HasPointOf s.lts s.basis s.class (node_system (rows_of case) case.forms sides) members
      h = some_point s.lts s.basis s.class (node_system (rows_of case) case.forms sides) members (found_has (rows_of case) case sides members b) (columns_of_case (case_at s problem number) case made)

      by : HasSome (place_fold s problem h.start h.value) → HasCase number
      by (Ok p, place) = (makes p, place_is_made case members sides h.start h.value p made b h.point place)
      by (Err w, place) = (passes (step_at Stage.place problem number (named_sides s.lts s.class problem sides) w), place_passes case members sides h.start h.value w made b h.point place)
  ended number case made (tree t) b = by (some_spread_tree (case_at s problem number) case (basis_relations s.lts s.tree s.basis is_basis) (case_factors (case_at s problem number) case made) [] t)
    where
      by : (r : Result Tree LeafWide) × spread_tree (case_at s problem number) case [] t r → HasCase number
      by (Ok refuting, spread) = (refutes refuting, is_refuted case t refuting made b spread)
      by (Err at, spread) = (passes (step_at Stage.spread problem number (named_sides s.lts s.class problem at.above) at.wide), leaf_passes case t at made b spread)

  some_case_result : (number : ℕ) → HasCase number
  some_case_result number = by (some_system (case_at s problem number) (basis_relations s.lts s.tree s.basis is_basis))
    where
      by : HasSome (system_fold (case_at s problem number)) → HasCase number
      by (Err w, stops) = (passes (step_at Stage.row problem number [] w), row_passes w stops)
      by (Ok case, made) =
          let over : IsCaseOver (case_at s problem number) case =
          record {
            in_range = fine;
            reachable = reachable;
            is_tree = is_tree;
            is_basis = is_basis;
            asked = asked s.lts problem is;
            numbers = numbers;
            is_case = made;
          } in
          let (o, b) = branching_ends (rows_of case) case.forms (forms_bounded (case_at s problem number) case over) in
          ended number case made o b

-- ---- the cases of a problem together

makes_or_refutes : (p : Place) (t : Tree) → makes p ≡ refutes t → ⊥
makes_or_refutes p t e = cc

makes_or_passes : (p : Place) (w : Shown) → makes p ≡ passes w → ⊥
makes_or_passes p w e = cc

passes_or_refutes : (w : Shown) (t : Tree) → passes w ≡ refutes t → ⊥
passes_or_refutes w t e = cc

tree_is : (t t' : Tree) → Some t ≡ Some t' → t ≡ t'
tree_is t t' e = cc

all_trees : (n : ℕ) (comes : ℕ → CaseResult → Type 0) → ((i : ℕ) → i < n → (t : Tree) × comes i (refutes t))
    → (trees : List Tree) × (length trees ≡ n) × ((i : ℕ) (t : Tree) → slice_get trees i ≡ Some t → comes i (refutes t))
all_trees zero comes each = ([], refl, λ i t e. absurd cc)
all_trees (suc n) comes each = by (each 0 (omega arith)) (all_trees n (λ i. comes (suc i)) (λ i lt. each (suc i) (omega arith)))
  where
    by : (t : Tree) × comes 0 (refutes t) → (trees : List Tree) × (length trees ≡ n)
        × ((i : ℕ) (t : Tree) → slice_get trees i ≡ Some t → comes (suc i) (refutes t))
        → (trees : List Tree) × (length trees ≡ suc n) × ((i : ℕ) (t : Tree) → slice_get trees i ≡ Some t → comes i (refutes t))
    by (t, has) (trees, long, all) = (t ∷ trees, ap suc long, at)
      where
        at : (i : ℕ) (t' : Tree) → slice_get (t ∷ trees) i ≡ Some t' → comes i (refutes t')
        at zero t' e = subst (λ x. comes 0 (refutes x)) (tree_is t t' e) has
        at (suc i) t' e = all i t' e

module _ (comes : ℕ → CaseResult → Type 0) (n : ℕ) (one : (i : ℕ) (r r' : CaseResult) → comes i r → comes i r' → r ≡ r') (some : (i : ℕ) → (r : CaseResult) × comes i r) where
  abbrev Makes : ℕ → Type 0
  Makes i = (p : Place) × comes i (makes p)

  abbrev Passes : ℕ → Type 0
  Passes i = (w : Shown) × comes i (passes w)

  makes_decided : (i : ℕ) → Decided (Makes i)
  makes_decided i = by (some i)
    where
      by : (r : CaseResult) × comes i r → Decided (Makes i)
      by (makes p, has) = inl (p, has)
      by (refutes t, has) = inr (λ (p, has'). makes_or_refutes p t (one i (makes p) (refutes t) has' has))
      by (passes w, has) = inr (λ (p, has'). makes_or_passes p w (one i (makes p) (passes w) has' has))

  passes_decided : (i : ℕ) → Decided (Passes i)
  passes_decided i = by (some i)
    where
      by : (r : CaseResult) × comes i r → Decided (Passes i)
      by (makes p, has) = inr (λ (w, has'). makes_or_passes p w (one i (makes p) (passes w) has has'))
      by (refutes t, has) = inr (λ (w, has'). passes_or_refutes w t (one i (passes w) (refutes t) has' has))
      by (passes w, has) = inl (w, has)

  refuted_else : (i : ℕ) → ¬ Makes i → ¬ Passes i → (t : Tree) × comes i (refutes t)
  refuted_else i none none' = by (some i)
    where
      by : (r : CaseResult) × comes i r → (t : Tree) × comes i (refutes t)
      by (makes p, has) = absurd (none (p, has))
      by (refutes t, has) = (t, has)
      by (passes w, has) = absurd (none' (w, has))

  some_cases : (r : Solved) × CasesCome comes n r
  some_cases = by (find_number Makes makes_decided n) (find_number Passes passes_decided n)
    where
      by : ((i : ℕ) × (i < n) × Makes i × ((j : ℕ) → j < i → ¬ Makes j)) ⊎ ((i : ℕ) → i < n → ¬ Makes i)
          → ((i : ℕ) × (i < n) × Passes i × ((j : ℕ) → j < i → ¬ Passes j)) ⊎ ((i : ℕ) → i < n → ¬ Passes i) → (r : Solved) × CasesCome comes n r
      by (inl (i, lt, (p, has), before)) _ = (placed p, first_place i p lt has (λ j q less has'. before j less (q, has')))
      by (inr none) (inl (i, lt, (w, has), before)) = (passed w, first_term i w lt has (λ j v less has'. before j less (v, has')) (λ j q less has'. none j less (q, has')))
      by (inr none) (inr none') = let (trees, long, each) = all_trees n comes (λ i lt. refuted_else i (none i lt) (none' i lt)) in (refuted trees, all_refuted trees long each)

-- ---- a problem

dead_or_not : (lts : System) (t : ℕ) → IsDead lts t ⊎ ¬ IsDead lts t
dead_or_not lts t = by (find_any (λ (a : Arc). a.label ≡ t) (λ a. cases_eq a.label t) lts.arcs)
  where
    by : Any (λ (a : Arc). a.label ≡ t) lts.arcs ⊎ ((a : Arc) → Contains lts.arcs a → ¬ (a.label ≡ t)) → IsDead lts t ⊎ ¬ IsDead lts t
    by (inl (k, a, lt, at, e)) = inr (λ dead. dead a.from a.to (subst (λ u. Contains lts.arcs (record { from = a.from; label = u; to = a.to })) e (k, lt, at)))
    by (inr none) = inl (λ s s' has. none (record { from = s; label = t; to = s' }) has refl)

pub all_results : (it : Setting) → IsInRange it.lts → HasNumbersInRange it.class → IsAllReachable it.lts → IsTree it.lts it.tree → IsBasis it.lts it.tree it.basis → HasResults it.lts (ProblemComes it)
all_results it fine numbers reachable is_tree is_basis (Event s t) is = by (dead_or_not it.lts t)
    (some_cases (λ i. CaseComes (case_at it (Event s t) i)) (cases_of it.lts it.class (Event s t)) (λ i. same_result (case_at it (Event s t) i))
    (some_case_result it fine numbers reachable is_tree is_basis (Event s t) is))
  where
    by : IsDead it.lts t ⊎ ¬ IsDead it.lts t → (r : Solved)
        × CasesCome (λ i. CaseComes (case_at it (Event s t) i)) (cases_of it.lts it.class (Event s t)) r → (r : Solved) × ProblemComes it (Event s t) r
    by (inl dead) _ = (placed (blocking (labels it.lts) t), inl (dead, refl))
    by (inr live) (r, c) = (r, inr (live, c))
all_results it fine numbers reachable is_tree is_basis (States s s') is = some_cases (λ i. CaseComes (case_at it (States s s') i))
    (cases_of it.lts it.class (States s s')) (λ i. same_result (case_at it (States s s') i))
    (some_case_result it fine numbers reachable is_tree is_basis (States s s') is)
