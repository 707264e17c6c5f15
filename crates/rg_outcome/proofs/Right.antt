-- What a search and an answer say of the system and the class.
use Rattle.std.proofs.Common.{◌≡◌, inl, inr, ℕ, ◌<◌, List, [], ◌∷◌, ◌++◌, All, Some, Ok, Err, refl, sym, subst}
use Rattle.rg_theory.specs.declared.Arc.{Arc}
use Rattle.rg_theory.specs.System.{System, IsInRange, IsAllReachable}
use Rattle.rg_theory.specs.Net.{Place}
use Rattle.rg_theory.specs.declared.Class.{Class}
use Rattle.rg_theory.specs.ClassWords.{HasNumbersInRange}
use Rattle.rg_theory.specs.declared.Problem.{Problem}
use Rattle.rg_theory.specs.declared.Problem.TheVariants.{Event, States}
use Rattle.rg_theory.specs.Problem.{IsProblem}
use Rattle.rg_theory.specs.Region.{IsRegionIn}
use Rattle.rg_theory.specs.Tree.{IsTree}
use Rattle.rg_theory.proofs.No.{no_from_unreachable, no_from_fork, no_from_inseparable}
use Rattle.rg_theory.proofs.Leaving.{left_solves}
use Rattle.rg_cert_meaning.specs.Row.{cases_of}
use Rattle.rg_cert_meaning.specs.Refutes.{Tree}
use Rattle.rg_linear.specs.Cycle.{CycleBasis}
use Rattle.rg_linear.specs.Branching.{Weight, SplitTree, SplitSide}
use Rattle.rg_case_folds.specs.Setting.{Setting, setting_at, case_at}
use Rattle.rg_branch_trees.specs.Trees.{Tree.leaf, Tree.split, low_side, high_side}
use Rattle.rg_case_folds.specs.Chords.{IsBasis}
use Rattle.rg_case_folds.specs.Rewriting.{CaseSystem, system_fold}
use Rattle.rg_case_folds.specs.Spreading.{spread_fold}
use Rattle.rg_case_folds.specs.Shown.{Shown, IsLive, StandsIn, CaseOf, HasLeaf, named_sides, ShownAt, ShownWide}
use Rattle.rg_outcome.specs.Casing.{CaseResult, CaseResult.makes, CaseResult.refutes, CaseResult.passes, LeafWide, spread_tree, CaseComes, CaseComes.row_passes, CaseComes.pivot_passes, CaseComes.place_passes, CaseComes.place_is_made, CaseComes.leaf_passes, CaseComes.is_refuted}
use Rattle.rg_outcome.specs.Solving.{Solved, Solved.placed, Solved.refuted, Solved.passed, CasesCome, CasesCome.first_place, CasesCome.all_refuted, CasesCome.first_term, ProblemComes}
use Rattle.rg_outcome.specs.Coming.{Separation, Separation.places, Separation.unsolvable as of_problem, Separation.too_wide as of_term, IsMade, Says}
use Rattle.rg_outcome.specs.Outcome.{Answer, Answer.net, Answer.unsolvable, Answer.too_wide, Gives, Searched, SearchedFrom.a_cycle, SearchedFrom.all_problems, Out, Out.a_state, Out.a_fork, Out.a_search, IsSearchRight, IsRight}
use Rattle.rg_outcome.proofs.Inseparable.{inseparable}
use Rattle.rg_outcome.proofs.Placed.{placed_separates, refuted_stay}
use Rattle.rg_outcome.proofs.Saying.{says}
use Rattle.rg_outcome.proofs.Solvings.{same_solved}

-- ---- a term that is shown

makes_or_passes : (p : Place) (w : Shown) → makes p ≡ passes w → ⊥
makes_or_passes p w e = cc

refutes_or_passes : (t : Tree) (w : Shown) → refutes t ≡ passes w → ⊥
refutes_or_passes t w e = cc

same_shown : (w w' : Shown) → passes w ≡ passes w' → w ≡ w'
same_shown w w' e = cc

placed_or_passed : (p : Place) (w : Shown) → placed p ≡ passed w → ⊥
placed_or_passed p w e = cc

refuted_or_passed : (trees : List Tree) (w : Shown) → refuted trees ≡ passed w → ⊥
refuted_or_passed trees w e = cc

same_passed : (w w' : Shown) → passed w ≡ passed w' → w ≡ w'
same_passed w w' e = cc

shown_by_case : (comes : ℕ → CaseResult → Type 0) (n : ℕ) (r : Solved) (w : Shown) → CasesCome comes n r → r ≡ passed w → (i : ℕ) × (i < n) × comes i (passes w)
shown_by_case comes n r w (first_place i p lt has none) e = absurd (placed_or_passed p w e)
shown_by_case comes n r w (all_refuted trees long each) e = absurd (refuted_or_passed trees w e)
shown_by_case comes n r w (first_term i w' lt has none makes_none) e = (i, lt, subst (λ x. comes i (passes x)) (same_passed w' w e) has)

module _ (s : Setting) (is_tree : IsTree s.lts s.tree) (is_basis : IsBasis s.lts s.tree s.basis) (problem : Problem) (is : IsProblem s.lts problem)
    (live : IsLive s.lts problem) (number : ℕ) (below : number < cases_of s.lts s.class problem) where
  -- the leaf in which the step stands
  leaf_of : (case : CaseSystem) (above : List SplitSide) (t : SplitTree) (at : LeafWide) → spread_tree (case_at s problem number) case above t (Err at)
      → (weights : List Weight) × HasLeaf above t at.above weights
      × spread_fold (case_at s problem number) case at.above (named_sides s.lts s.class problem at.above) weights (Err at.wide)
  leaf_of case above (leaf weights) at (e, stops) = (
    weights,
    (e, refl),
    subst (λ sides. spread_fold (case_at s problem number) case sides (named_sides s.lts s.class problem sides) weights
        (Err at.wide)) (sym e) stops,
  )
  leaf_of case above (split f u low high) at (inl in_low) = let (weights, has, stops) = leaf_of case (above ++ low_side f u ∷ []) low at in_low in (weights, inl has, stops)
  leaf_of case above (split f u low high) at (inr (l, made, in_high)) = let (weights, has, stops) = leaf_of case (above ++ high_side f u ∷ []) high at in_high in (weights, inr has, stops)

  stands_in : (w : Shown) → w.problem ≡ Some problem → w.case_number ≡ number → StandsIn s.lts s.class w problem
  stands_in w e f = record { problem_is = e; has = is; live = live; case_below = subst (λ n. n < cases_of s.lts s.class problem) (sym f) below }

  abbrev case_is : (w : Shown) (case : CaseSystem) → w.problem ≡ Some problem → w.case_number ≡ number → system_fold (case_at s problem number) (Ok case) → CaseOf s.lts s.class w case
  case_is w case e f made = record {
    arcs = s.tree;
    basis = s.basis;
    problem = problem;
    is_tree = is_tree;
    is_basis = is_basis;
    stands = stands_in w e f;
    is_case = subst (λ n. system_fold (case_at s problem n) (Ok case)) (sym f) made;
  }

  case_shows : (r : CaseResult) (w : Shown) → CaseComes (case_at s problem number) r → r ≡ passes w → ShownWide s.lts s.class w
  case_shows r w (row_passes wide stops) e = subst (ShownWide s.lts s.class) (same_shown _ w e) (record {
    arcs = s.tree;
    basis = s.basis;
    problem = problem;
    is_tree = is_tree;
    is_basis = is_basis;
    stands = stands_in _ refl refl;
    nowhere = record { members = refl; pivot = refl; leaves = refl; target = refl; entry = refl };
    no_split = refl;
    passes = stops;
  })
  case_shows r w (pivot_passes case sides at made stops) e = subst (ShownWide s.lts s.class) (same_shown _ w e) (record {
    case = case;
    of_case = case_is _ case refl refl made;
    sides = sides;
    at = at;
    stops = stops;
    above_is = refl;
    stands = record { members = refl; pivot = refl; leaves = refl; target = refl; entry = refl; wide = refl };
  })
  case_shows r w (place_passes case members sides start value wide made finds point stops) e = subst (ShownWide s.lts s.class) (same_shown _ w e) (record {
    case = case;
    of_case = case_is _ case refl refl made;
    sides = sides;
    set = members;
    start = start;
    value = value;
    finds = finds;
    above_is = refl;
    nowhere = record { members = refl; pivot = refl; leaves = refl; target = refl; entry = refl };
    point = point;
    passes = stops;
  })
  case_shows r w (leaf_passes case multipliers at made b spread) e =
      let (weights, has, stops) = leaf_of case [] multipliers at spread in
      subst (ShownWide s.lts s.class) (same_shown _ w e) (record {
        case = case;
        of_case = case_is _ case refl refl made;
        refuting = multipliers;
        sides = at.above;
        weights = weights;
        refutes = b;
        has_leaf = has;
        above_is = refl;
        nowhere = record { members = refl; pivot = refl; leaves = refl; target = refl; entry = refl };
        passes = stops;
      })
  case_shows r w (place_is_made case members sides start value p made finds point is) e = absurd (makes_or_passes p w e)
  case_shows r w (is_refuted case multipliers t made b spread) e = absurd (refutes_or_passes t w e)

module _ (it : Setting) (is_tree : IsTree it.lts it.tree) (is_basis : IsBasis it.lts it.tree it.basis) where
  cases_show : (problem : Problem) (w : Shown) → IsProblem it.lts problem → IsLive it.lts problem
      → CasesCome (λ i. CaseComes (case_at it problem i)) (cases_of it.lts it.class problem) (passed w) → ShownWide it.lts it.class w
  cases_show problem w is live c =
      let (i, lt, has) = shown_by_case (λ i. CaseComes (case_at it problem i)) (cases_of it.lts it.class problem) (passed w) w c refl in
      case_shows it is_tree is_basis problem is live i lt (passes w) w has refl

  problem_shows : (problem : Problem) (w : Shown) → IsProblem it.lts problem → ProblemComes it problem (passed w) → ShownWide it.lts it.class w
  problem_shows (Event s t) w is (inl (dead, e)) = absurd (placed_or_passed _ w (sym e))
  problem_shows (Event s t) w is (inr (live, c)) = cases_show (Event s t) w is live c
  problem_shows (States s s') w is c = cases_show (States s s') w is tt c

-- ---- a search

module _ (lts : System) (class : Class) (fine : IsInRange lts) (numbers : HasNumbersInRange class) (reachable : IsAllReachable lts) where
  regions_made : (arcs : List Arc) (basis : CycleBasis) (kept : List Place) → IsTree lts arcs → IsBasis lts arcs basis
      → All (IsMade lts (ProblemComes (setting_at lts arcs basis class))) kept → All (IsRegionIn lts class) kept
  regions_made arcs basis kept is_tree is_basis made k p lt =
      let (problem, is, has) = made k p lt in
      let (m, region, _) = placed_separates (setting_at lts arcs basis class) fine numbers reachable is_tree is_basis problem _ is has in
      (m, region)

  problems_right : (arcs : List Arc) (basis : CycleBasis) (o : Separation) → IsTree lts arcs → IsBasis lts arcs basis
      → Says lts (ProblemComes (setting_at lts arcs basis class)) o → IsSearchRight lts class o
  problems_right arcs basis (places kept) is_tree is_basis h = (regions_made arcs basis kept is_tree is_basis h.made, h.separate)
  problems_right arcs basis (of_problem problem trees) is_tree is_basis h =
      (h.first.0.0, inseparable (setting_at lts arcs basis class) fine numbers reachable is_tree is_basis problem trees h.first.0.0 h.has)
  problems_right arcs basis (of_term w) is_tree is_basis h = problem_shows (setting_at lts arcs basis class) is_tree is_basis h.problem w h.first.0.0 h.has

  pub search_right : (o : Separation) → Searched lts class o → IsSearchRight lts class o
  search_right o (a_cycle w stage h) = subst (λ s. ShownAt s lts class w) (sym stage) h
  search_right o (all_problems arcs basis _ is_tree is_basis d) =
      problems_right arcs basis o is_tree is_basis (let s = setting_at lts arcs basis class in says lts (ProblemComes s) (same_solved s) (refuted_stay s fine numbers reachable is_tree is_basis) o d)

  -- ---- an answer

  given_right : (o : Separation) (a : Answer) → IsSearchRight lts class o → Gives lts o a → IsRight lts class a
  given_right (places kept) (net left) (regions, separate) g = left_solves lts class kept left fine reachable regions separate g
  given_right (places kept) (unsolvable r) h g = absurd g
  given_right (places kept) (too_wide w) h g = absurd g
  given_right (of_problem problem trees) (net left) h g = absurd g
  given_right (of_problem problem trees) (unsolvable r) (is, none) g = no_from_inseparable lts class problem fine is none
  given_right (of_problem problem trees) (too_wide w) h g = absurd g
  given_right (of_term w) (net left) h g = absurd g
  given_right (of_term w) (unsolvable r) h g = absurd g
  given_right (of_term w) (too_wide v) h g = subst (ShownWide lts class) g h

pub answer_right : (lts : System) (class : Class) (a : Answer) → IsInRange lts → HasNumbersInRange class → Out lts class a → IsRight lts class a
answer_right lts class a fine numbers (a_state s h) = no_from_unreachable lts class s fine h.state h.unreachable
answer_right lts class a fine numbers (a_fork s t s₁ s₂ reachable h) = no_from_fork lts class s t s₁ s₂ fine h.fork
answer_right lts class a fine numbers (a_search o _ reachable free searched g) = given_right lts class fine numbers reachable o a (search_right lts class fine numbers reachable o searched) g
