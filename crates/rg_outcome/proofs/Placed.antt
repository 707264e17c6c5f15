-- The place that a problem comes to is a region of the class that separates it.
use Rattle.std.proofs.Common.{◌≡◌, inl, inr, ℕ, ◌<◌, List, Ok, refl, sym, subst}
use Rattle.rg_theory.specs.System.{labels, IsInRange, IsAllReachable}
use Rattle.rg_theory.specs.Net.{Place}
use Rattle.rg_theory.specs.ClassWords.{HasNumbersInRange}
use Rattle.rg_theory.specs.declared.Problem.{Problem}
use Rattle.rg_theory.specs.declared.Problem.TheVariants.{Event, States}
use Rattle.rg_theory.specs.Problem.{IsProblem}
use Rattle.rg_theory.specs.Region.{blocking}
use Rattle.rg_theory.specs.Tree.{IsTree}
use Rattle.rg_theory.proofs.Dead.{blocking_region, blocking_separates}
use Rattle.rg_cert_meaning.specs.Row.{cases_of}
use Rattle.rg_cert_meaning.specs.Refutes.{Tree}
use Rattle.rg_linear.specs.Branching.{SplitSide, node_system, Branching, BranchOutcome.found}
use Rattle.rg_case_folds.specs.Setting.{Setting, CaseSetting, case_at}
use Rattle.rg_folds.specs.Fold.{Ratio}
use Rattle.rg_case_folds.specs.Chords.{IsBasis}
use Rattle.rg_case_folds.specs.Shown.{Shown, PointOf, IsLive}
use Rattle.rg_case_folds.specs.Rewriting.{CaseSystem, rows_of, system_fold}
use Rattle.rg_case_folds.specs.Placing.{place_fold}
use Rattle.rg_case_folds.specs.Meaning.{IsCaseOver}
use Rattle.rg_case_folds.specs.Places.{tokens_of}
use Rattle.rg_case_folds.proofs.PlacePoints.{found_makes}
use Rattle.rg_outcome.specs.Casing.{CaseResult, CaseResult.makes, CaseResult.refutes, CaseResult.passes, CaseComes, CaseComes.row_passes, CaseComes.pivot_passes, CaseComes.place_passes, CaseComes.place_is_made, CaseComes.leaf_passes, CaseComes.is_refuted}
use Rattle.rg_outcome.specs.Solving.{Solved, Solved.placed, Solved.refuted, Solved.passed, CasesCome, CasesCome.first_place, CasesCome.all_refuted, CasesCome.first_term, ProblemComes}
use Rattle.rg_outcome.specs.Coming.{IsSeparatedIn, PlacesSeparate, RefutedStay}
use Rattle.rg_outcome.proofs.Decided.{other_numbers}
use Rattle.rg_outcome.proofs.Inseparable.{asked, inseparable}

-- ---- the case that makes the place

record HasPlace (s : CaseSetting) (p : Place) : Type 0 where
  pub case : CaseSystem
  pub members : List ℕ
  pub sides : List SplitSide
  pub start : Ratio
  pub value : ℕ → Ratio
  pub is_case : system_fold s (Ok case)
  pub branching : Branching (rows_of case) case.forms (found members sides)
  pub point : PointOf s.lts s.basis s.class (node_system (rows_of case) case.forms sides) members start value
  pub place : place_fold s.setting s.problem start value (Ok p)

same_place : (p p' : Place) → makes p ≡ makes p' → p ≡ p'
same_place p p' e = cc

refutes_or_makes : (t : Tree) (p : Place) → refutes t ≡ makes p → ⊥
refutes_or_makes t p e = cc

passes_or_makes : (w : Shown) (p : Place) → passes w ≡ makes p → ⊥
passes_or_makes w p e = cc

has_place : (s : CaseSetting) (r : CaseResult) (p : Place) → CaseComes s r → r ≡ makes p → HasPlace s p
has_place s r p (row_passes w is) e = absurd (passes_or_makes _ p e)
has_place s r p (pivot_passes case sides at made b) e = absurd (passes_or_makes _ p e)
has_place s r p (place_passes case members sides start value w made b point is) e = absurd (passes_or_makes _ p e)
has_place s r p (leaf_passes case multipliers at made b is) e = absurd (passes_or_makes _ p e)
has_place s r p (is_refuted case multipliers t made b is) e = absurd (refutes_or_makes t p e)
has_place s r p (place_is_made case members sides start value p' made b point is) e = subst (HasPlace s) (same_place p' p e) (record {
  case = case;
  members = members;
  sides = sides;
  start = start;
  value = value;
  is_case = made;
  branching = b;
  point = point;
  place = is;
})

-- ---- the first case of a problem that makes one

same_placed : (p p' : Place) → placed p ≡ placed p' → p ≡ p'
same_placed p p' e = cc

refuted_or_placed : (trees : List Tree) (p : Place) → refuted trees ≡ placed p → ⊥
refuted_or_placed trees p e = cc

passed_or_placed : (w : Shown) (p : Place) → passed w ≡ placed p → ⊥
passed_or_placed w p e = cc

made_by_case : (comes : ℕ → CaseResult → Type 0) (n : ℕ) (r : Solved) (p : Place) → CasesCome comes n r → r ≡ placed p → (i : ℕ) × (i < n) × comes i (makes p)
made_by_case comes n r p (first_place i p' lt has none) e = (i, lt, subst (λ q. comes i (makes q)) (same_placed p' p e) has)
made_by_case comes n r p (all_refuted trees long each) e = absurd (refuted_or_placed trees p e)
made_by_case comes n r p (first_term i w lt has none makes_none) e = absurd (passed_or_placed w p e)

-- ---- a region of the class

module _ (it : Setting) (fine : IsInRange it.lts) (numbers : HasNumbersInRange it.class) (reachable : IsAllReachable it.lts)
    (is_tree : IsTree it.lts it.tree) (is_basis : IsBasis it.lts it.tree it.basis) where
  case_separates : (problem : Problem) (number : ℕ) (p : Place) → IsProblem it.lts problem → IsLive it.lts problem → HasPlace (case_at it problem number) p → IsSeparatedIn it.lts it.class problem p
  case_separates problem number p is live h =
      let over : IsCaseOver (case_at it problem number) h.case =
      record {
        in_range = fine;
        reachable = reachable;
        is_tree = is_tree;
        is_basis = is_basis;
        asked = asked it.lts problem is;
        numbers = numbers;
        is_case = h.is_case;
      } in
      let made = found_makes (case_at it problem number) h.case h.members h.sides h.start h.value p over live h.branching h.point h.place in
      (tokens_of made.numbers, made.region, made.separates)

  cases_separate : (problem : Problem) (p : Place) → IsProblem it.lts problem → IsLive it.lts problem
      → CasesCome (λ i. CaseComes (case_at it problem i)) (cases_of it.lts it.class problem) (placed p) → IsSeparatedIn it.lts it.class problem p
  cases_separate problem p is live c =
      let (i, lt, has) = made_by_case (λ i. CaseComes (case_at it problem i)) (cases_of it.lts it.class problem) (placed p) p c refl in
      case_separates problem i p is live (has_place (case_at it problem i) (makes p) p has refl)

  pub placed_separates : (problem : Problem) (p : Place) → IsProblem it.lts problem → ProblemComes it problem (placed p) → IsSeparatedIn it.lts it.class problem p
  placed_separates (Event s t) p is (inl (dead, e)) =
      subst (IsSeparatedIn it.lts it.class (Event s t)) (sym (same_placed p (blocking (labels it.lts) t) e))
      ((λ s. 0), blocking_region it.lts it.class t is.1 dead, blocking_separates it.lts t is.1)
  placed_separates (Event s t) p is (inr (live, c)) = cases_separate (Event s t) p is live c
  placed_separates (States s s') p is c = cases_separate (States s s') p is tt c

  pub places_separate : PlacesSeparate it.lts (ProblemComes it)
  places_separate problem p is has = let (m, region, sep) = placed_separates problem p is has in (m, region.region, sep)

  -- a place separates by the numbers of the region of the it.class, and these don't separate a refuted problem
  pub refuted_stay : RefutedStay it.lts (ProblemComes it)
  refuted_stay problem other trees p is is' has has' (m', region', sep) =
      let (m, region, _) = placed_separates other p is' has' in
      inseparable it fine numbers reachable is_tree is_basis problem trees is has p m region (other_numbers it.lts reachable p m m' problem is region.region region' sep)
