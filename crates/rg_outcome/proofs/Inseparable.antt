-- A refuted problem is separated by no region of the class.
use Rattle.std.proofs.Common.{◌≡◌, ◌≢◌, ◌⊎◌, inl, inr, ℕ, ◌*◌, ◌<◌, Bool, true, false, if◌then◌else◌, List, [], ◌∷◌, length, Ok, refl, sym, subst, ◌∙◌, arith}
use Rattle.std.proofs.lemmas.Bool.{cases_eq}
use Rattle.std.specs.Prelude.{slice_get, Some}
use Rattle.rg_theory.specs.System.{System, states, labels, Leads, IsInRange, IsAllReachable}
use Rattle.rg_theory.specs.Net.{Place}
use Rattle.rg_theory.specs.declared.Class.{Class}
use Rattle.rg_theory.specs.ClassWords.{HasNumbersInRange}
use Rattle.rg_theory.specs.declared.Problem.{Problem}
use Rattle.rg_theory.specs.declared.Problem.TheVariants.{Event, States}
use Rattle.rg_theory.specs.Problem.{IsProblem, IsInseparable}
use Rattle.rg_theory.specs.Tree.{IsTree}
use Rattle.rg_theory.proofs.Arcs.{arc_in_range}
use Rattle.rg_theory.proofs.Lists.{slice_get_some}
use Rattle.rg_cert_meaning.specs.Row.{cases_of}
use Rattle.rg_cert_meaning.specs.Refutes.{Tree, IsSeparationProblem}
use Rattle.rg_cert_meaning.proofs.Making.{rows_exact}
use Rattle.rg_linear.specs.Branching.{SplitTree, Branching, BranchOutcome.tree}
use Rattle.rg_linear.proofs.Splits.{tree_is_sound}
use Rattle.rg_case_folds.specs.Setting.{Setting, CaseSetting, case_at}
use Rattle.rg_case_folds.specs.Chords.{IsBasis}
use Rattle.rg_case_folds.specs.Shown.{Shown, IsLive}
use Rattle.rg_case_folds.specs.Rewriting.{CaseSystem, rows_of, system_fold}
use Rattle.rg_case_folds.specs.Meaning.{IsCaseOver}
use Rattle.rg_case_folds.specs.WholeParts.{HasWholePoint}
use Rattle.rg_case_folds.proofs.FormBounds.{forms_bounded}
use Rattle.rg_case_folds.proofs.WholePoints.{whole_points_exact}
use Rattle.rg_outcome.specs.Casing.{CaseResult, CaseResult.makes, CaseResult.refutes, CaseResult.passes, CaseComes, CaseComes.row_passes, CaseComes.pivot_passes, CaseComes.place_passes, CaseComes.place_is_made, CaseComes.leaf_passes, CaseComes.is_refuted}
use Rattle.rg_outcome.specs.Solving.{Solved, Solved.placed, Solved.refuted, Solved.passed, CasesCome, CasesCome.first_place, CasesCome.all_refuted, CasesCome.first_term, ProblemComes}

-- ---- what a refuted problem's cases are

record AllRefuted (comes : ℕ → CaseResult → Type 0) (n : ℕ) (trees : List Tree) : Type 0 where
  pub long : length trees ≡ n
  pub each : (i : ℕ) (t : Tree) → slice_get trees i ≡ Some t → comes i (refutes t)

pub placed_or_refuted : (p : Place) (trees : List Tree) → placed p ≡ refuted trees → ⊥
placed_or_refuted p trees e = cc

pub passed_or_refuted : (w : Shown) (trees : List Tree) → passed w ≡ refuted trees → ⊥
passed_or_refuted w trees e = cc

pub same_refuted : (trees trees' : List Tree) → refuted trees ≡ refuted trees' → trees ≡ trees'
same_refuted trees trees' e = cc

refuted_cases : (comes : ℕ → CaseResult → Type 0) (n : ℕ) (r : Solved) (trees : List Tree) → CasesCome comes n r → r ≡ refuted trees → AllRefuted comes n trees
refuted_cases comes n r trees (first_place i p lt has none) e = absurd (placed_or_refuted p trees e)
refuted_cases comes n r trees (all_refuted trees' long each) e = subst (AllRefuted comes n) (same_refuted trees' trees e) (record { long = long; each = each })
refuted_cases comes n r trees (first_term i w lt has none makes_none) e = absurd (passed_or_refuted w trees e)

record HasTree (s : CaseSetting) : Type 0 where
  pub case : CaseSystem
  pub made : system_fold s (Ok case)
  pub multipliers : SplitTree
  pub branching : Branching (rows_of case) case.forms (tree multipliers)

makes_or_refutes : (p : Place) (t : Tree) → makes p ≡ refutes t → ⊥
makes_or_refutes p t e = cc

passes_or_refutes : (w : Shown) (t : Tree) → passes w ≡ refutes t → ⊥
passes_or_refutes w t e = cc

has_tree : (s : CaseSetting) (r : CaseResult) (t : Tree) → CaseComes s r → r ≡ refutes t → HasTree s
has_tree s r t (row_passes w is) e = absurd (passes_or_refutes _ t e)
has_tree s r t (pivot_passes case sides at made b) e = absurd (passes_or_refutes _ t e)
has_tree s r t (place_passes case members sides start value w made b point is) e = absurd (passes_or_refutes _ t e)
has_tree s r t (place_is_made case members sides start value p made b point is) e = absurd (makes_or_refutes p t e)
has_tree s r t (leaf_passes case multipliers at made b is) e = absurd (passes_or_refutes _ t e)
has_tree s r t (is_refuted case multipliers t' made b is) e = record { case = case; made = made; multipliers = multipliers; branching = b }

-- ---- a problem has a case

-- the label of the first arc on the way to another state
pub first_label : (lts : System) → IsInRange lts → (ts : List ℕ) (s s' : ℕ) → Leads lts s ts s' → s ≢ s' → 0 < labels lts
first_label lts fine [] s s' e differ = absurd (differ e)
first_label lts fine (t ∷ ts) s s' (mid, has, rest) differ = let lt = (arc_in_range lts fine s t mid has).1 in omega arith

-- where there are two states, a label leads to the one that isn't initial
pub some_label : (lts : System) (s s' : ℕ) → IsInRange lts → IsAllReachable lts → s < s' → s' < states lts → 0 < labels lts
some_label lts s s' fine reachable less lt = go (cases_eq lts.initial s')
  where
    go : (lts.initial ≡ s') ⊎ (lts.initial ≢ s') → 0 < labels lts
    go (inr differ) = let (ts, way) = reachable.each s' lt in first_label lts fine ts lts.initial s' way differ
    go (inl same) =
        let (ts, way) = reachable.each s (omega arith) in
        first_label lts fine ts lts.initial s way (λ e. (let both = sym e ∙ same in omega arith))

pub some_case : (lts : System) (class : Class) (problem : Problem) → IsInRange lts → IsAllReachable lts → IsProblem lts problem → 0 < cases_of lts class problem
some_case lts class (Event s t) fine reachable is = omega arith
some_case lts class (States s s') fine reachable (less, lt) = go class.nonbranching (some_label lts s s' fine reachable less lt)
  where
    go : (b : Bool) → 0 < labels lts → 0 < (if b then 2 * labels lts else 2)
    go true some = omega arith
    go false some = omega arith

pub asked : (lts : System) (problem : Problem) → IsProblem lts problem → IsSeparationProblem lts problem
asked lts (Event s t) is = is
asked lts (States s s') is = let a = is.0 in let b = is.1 in (omega arith, b, λ e. (omega arith))

-- ---- no region of the class

module _ (it : Setting) (fine : IsInRange it.lts) (numbers : HasNumbersInRange it.class) (reachable : IsAllReachable it.lts)
    (is_tree : IsTree it.lts it.tree) (is_basis : IsBasis it.lts it.tree it.basis) where
  -- the system of a case with a tree has no point with whole forms
  no_point : (problem : Problem) (number : ℕ) (h : HasTree (case_at it problem number)) → IsCaseOver (case_at it problem number) h.case → ¬ HasWholePoint h.case
  no_point problem number h over (scale, v, point, meets, whole) =
      tree_is_sound (rows_of h.case) h.case.forms h.multipliers (forms_bounded (case_at it problem number) h.case over).positive h.branching scale v point meets whole

  all_inseparable : (problem : Problem) (trees : List Tree) → IsProblem it.lts problem → IsLive it.lts problem
      → CasesCome (λ i. CaseComes (case_at it problem i)) (cases_of it.lts it.class problem) (refuted trees) → IsInseparable it.lts it.class problem
  all_inseparable problem trees is live c p m region sep =
      let (number, lt, tokens, effect, allowed, keeps) =
      (rows_exact it.lts it.class problem fine (asked it.lts problem is) (some_case it.lts it.class problem fine reachable is)).0 (p, m, region, sep) in
      let all = refuted_cases (λ i. CaseComes (case_at it problem i)) (cases_of it.lts it.class problem) (refuted trees) trees c refl in
      let (t, at) = slice_get_some trees number (let l = all.long in omega arith) in
      let h = has_tree (case_at it problem number) (refutes t) t (all.each number t at) refl in
      let over : IsCaseOver (case_at it problem number) h.case =
      record {
        in_range = fine;
        reachable = reachable;
        is_tree = is_tree;
        is_basis = is_basis;
        asked = asked it.lts problem is;
        numbers = numbers;
        is_case = h.made;
      } in
      no_point problem number h over ((whole_points_exact (case_at it problem number) h.case over live).1 (tokens, effect, allowed, keeps))

  pub inseparable : (problem : Problem) (trees : List Tree) → IsProblem it.lts problem → ProblemComes it problem (refuted trees) → IsInseparable it.lts it.class problem
  inseparable (Event s t) trees is (inl (dead, e)) = absurd (placed_or_refuted _ trees (sym e))
  inseparable (Event s t) trees is (inr (live, c)) = all_inseparable (Event s t) trees is live c
  inseparable (States s s') trees is c = all_inseparable (States s s') trees is tt c
