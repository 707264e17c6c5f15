-- A search comes to some result, and so does the answer where there is no fork.
use Rattle.std.proofs.Common.{◌≡◌, ◌⊎◌, inl, inr, ℕ, suc, ◌<◌, ◌≤◌, List, [], ◌∷◌, ◌++◌, length, All, Contains, None, refl, arith}
use Rattle.std.specs.Prelude.{ℤ}
use Rattle.std.proofs.lemmas.Bool.{cases_lt, cases_eq}
use Rattle.std.proofs.lemmas.List.Elements.{All-nil, All-cons, All-append, All-push}
use Rattle.rg_theory.specs.declared.Arc.{Arc}
use Rattle.rg_theory.specs.System.{System, labels, IsInRange, IsAllReachable, IsForkFree}
use Rattle.rg_theory.specs.Net.{Place}
use Rattle.rg_theory.specs.declared.Class.{Class}
use Rattle.rg_theory.specs.ClassWords.{HasNumbersInRange}
use Rattle.rg_theory.specs.declared.Problem.{Problem}
use Rattle.rg_theory.specs.Problem.{IsProblem, SeparateAll}
use Rattle.rg_theory.specs.Region.{IsRegion}
use Rattle.rg_theory.specs.Tree.{IsTree}
use Rattle.rg_theory.specs.Pruned.{LeavesBehind}
use Rattle.rg_cert_meaning.specs.Refutes.{Reason.refuted as refuted_reason}
use Rattle.rg_linear.specs.Dictionary.{Relation, DictionaryRow, HasDictionary, numbers_from}
use Rattle.rg_linear.specs.Descent.{WideAt}
use Rattle.rg_linear.specs.Cycle.{IsZeroVector, vector_at, KeepsVectors, vector_system, CycleOutcome, CycleOutcome.free_set, CycleOutcome.too_wide as walk_passes, CycleWalk, CycleBasis, no_relation, IsCycleBasis}
use Rattle.rg_linear.proofs.Cycles.{cycle_ends, cycle_set_knows}
use Rattle.rg_case_folds.specs.Setting.{setting_at}
use Rattle.rg_case_folds.specs.Chords.{chord_vectors, chord_system, IsBasis}
use Rattle.rg_case_folds.specs.Shown.{Stage, Shown}
use Rattle.rg_outcome.specs.Solving.{ProblemComes}
use Rattle.rg_outcome.specs.Coming.{Separation, Separation.places, Separation.unsolvable as of_problem, Separation.too_wide as of_term, IsSeparated, IsLeft, IsFirstProblem}
use Rattle.rg_outcome.specs.Outcome.{Answer, Answer.net, Answer.unsolvable, Answer.too_wide, Searched, SearchedFrom.a_cycle, SearchedFrom.all_problems, Out, Out.a_search, IsSearchRight}
use Rattle.rg_theory.proofs.Deciding.{Decided}
use Rattle.rg_outcome.proofs.Decided.{find_problem, is_separated_decided, left_is_decided}
use Rattle.rg_outcome.proofs.Existing.{some_separation}
use Rattle.rg_outcome.proofs.Placed.{places_separate}
use Rattle.rg_outcome.proofs.SystemResults.{among, same_numbers, all_zero, some_firsts}
use Rattle.rg_outcome.proofs.ProblemResults.{all_results}
use Rattle.rg_outcome.proofs.Right.{search_right}

-- ---- a basis

some_kept : (vectors : List (List ℤ)) → (kept : List ℕ) × KeepsVectors vectors kept
some_kept vectors = some_firsts (vector_at vectors) (λ i. IsZeroVector (vector_at vectors i)) (λ i. all_zero (vector_at vectors i)) same_numbers [] (numbers_from 0 (length vectors))

module _ (count : ℕ) (vectors : List (List ℤ)) (kept members : List ℕ) (has : HasDictionary (vector_system count vectors kept) members) where
  abbrev relation_by : (t : ℕ) → (t < count) ⊎ (count ≤ t) → Contains members t ⊎ ¬ Contains members t → Relation
  relation_by t (inl lt) (inl free) = no_relation
  relation_by t (inl lt) (inr out) = (has.rows t (omega arith) out).0
  relation_by t (inr past) _ = no_relation

  abbrev basis_of : CycleBasis
  basis_of = record { kept = kept; members = members; relation = λ t. relation_by t (cases_lt t count) (among cases_eq members t) }

  relation_is : (t : ℕ) → t < count → ¬ Contains members t → (d : (t < count) ⊎ (count ≤ t)) (e : Contains members t ⊎ ¬ Contains members t)
      → DictionaryRow (vector_system count vectors kept) members t (relation_by t d e)
  relation_is t lt out (inl below) (inl free) = absurd (out free)
  relation_is t lt out (inl below) (inr outside) = (has.rows t (omega arith) outside).1
  relation_is t lt out (inr past) e = absurd (omega arith)

  other_is : (t : ℕ) → (count ≤ t) ⊎ Contains members t → (d : (t < count) ⊎ (count ≤ t)) (e : Contains members t ⊎ ¬ Contains members t) → relation_by t d e ≡ no_relation
  other_is t other (inl below) (inl free) = refl
  other_is t (inl past) (inl below) (inr outside) = absurd (omega arith)
  other_is t (inr free) (inl below) (inr outside) = absurd (outside free)
  other_is t other (inr past) e = refl

  some_basis : KeepsVectors vectors kept → CycleWalk (vector_system count vectors kept) (free_set members) → IsCycleBasis count vectors basis_of
  some_basis keeps walk = record {
    kept = keeps;
    cycle = walk;
    relations = λ t lt out. relation_is t lt out (cases_lt t count) (among cases_eq members t);
    others = λ t other. other_is t other (cases_lt t count) (among cases_eq members t);
  }

-- ---- a search

abbrev cycle_term : WideAt → Shown
cycle_term at = record {
  stage = Stage.cycle;
  problem = None;
  case_number = 0;
  above = [];
  members = at.members;
  pivot_variable = at.pivot;
  leaves = at.leaves;
  target = at.target;
  entry = at.entry;
  wide = at.term;
}

module _ (lts : System) (arcs : List Arc) (class : Class) (fine : IsInRange lts) (numbers : HasNumbersInRange class) (reachable : IsAllReachable lts) (is_tree : IsTree lts arcs) where
  pub some_search : (o : Separation) × Searched lts class o
  some_search = let (kept, keeps) = some_kept (chord_vectors lts arcs) in let (o, walk) = cycle_ends (chord_system lts arcs kept) in by kept keeps o walk
    where
      by : (kept : List ℕ) → KeepsVectors (chord_vectors lts arcs) kept → (o : CycleOutcome) → CycleWalk (chord_system lts arcs kept) o → (o : Separation) × Searched lts class o
      by kept keeps (free_set members) walk =
          let has = (cycle_set_knows (chord_system lts arcs kept) members walk).has in
          let basis = basis_of (labels lts) (chord_vectors lts arcs) kept members has in
          let is_basis : IsBasis lts arcs basis = some_basis (labels lts) (chord_vectors lts arcs) kept members has keeps walk in
          let s = setting_at lts arcs basis class in
          let (o, d) = some_separation lts (ProblemComes s) reachable (all_results s fine numbers reachable is_tree is_basis) (places_separate s fine numbers reachable is_tree is_basis) in
          (o, all_problems arcs basis o is_tree is_basis d)
      by kept keeps (walk_passes at) walk = (
        of_term (cycle_term at),
        a_cycle (cycle_term at) refl (record {
          arcs = arcs;
          kept = kept;
          at = at;
          is_tree = is_tree;
          chords = keeps;
          stops = walk;
          stands = record { members = refl; pivot = refl; leaves = refl; target = refl; entry = refl; wide = refl };
          no_problem = refl;
          no_case = refl;
          no_split = refl;
        }),
      )

-- ---- what is left of places

module _ (lts : System) (reachable : IsAllReachable lts) where
  separate_or_not : (kept : List Place) → All (IsRegion lts) kept → Decided (SeparateAll kept lts)
  separate_or_not kept regions = by (find_problem lts (IsLeft lts kept) (left_is_decided lts reachable kept regions) (λ q left. left.0))
    where
      separated : ((problem : Problem) → ¬ IsLeft lts kept problem) → (problem : Problem) → IsProblem lts problem → Decided (IsSeparated lts kept problem) → IsSeparated lts kept problem
      separated none problem is (inl sep) = sep
      separated none problem is (inr lacks) = absurd (none problem (is, lacks))

      by : ((problem : Problem) × IsFirstProblem (IsLeft lts kept) problem) ⊎ ((problem : Problem) → ¬ IsLeft lts kept problem) → Decided (SeparateAll kept lts)
      by (inl (problem, first)) = inr (λ all. first.0.1 (all problem first.0.0))
      by (inr none) = inl (λ problem is. separated none problem is (is_separated_decided lts reachable kept regions problem is))

  some_left : (front places : List Place) → All (IsRegion lts) front → All (IsRegion lts) places → (left : List Place) × LeavesBehind lts front places left × All (IsRegion lts) left
  some_left front [] regions all = ([], refl, All-nil (IsRegion lts))
  some_left front (p ∷ rest) regions all = by (some_left (front ++ p ∷ []) rest (All-push (IsRegion lts) front p regions (all 0 p (omega arith))) (λ k d lt. all (suc k) d (omega arith)))
    where
      decided : (behind : List Place) → LeavesBehind lts (front ++ p ∷ []) rest behind → All (IsRegion lts) behind
          → Decided (SeparateAll (front ++ behind) lts) → (left : List Place) × LeavesBehind lts front (p ∷ rest) left × All (IsRegion lts) left
      decided behind leaves left (inl separate) = (behind, (behind, leaves, inl (separate, refl)), left)
      decided behind leaves left (inr not_so) = (p ∷ behind, (behind, leaves, inr (not_so, refl)), All-cons (IsRegion lts) p behind (all 0 p (omega arith)) left)

      by : (left : List Place) × LeavesBehind lts (front ++ p ∷ []) rest left × All (IsRegion lts) left → (left : List Place) × LeavesBehind lts front (p ∷ rest) left × All (IsRegion lts) left
      by (behind, leaves, left) = decided behind leaves left (separate_or_not (front ++ behind) (All-append (IsRegion lts) front behind regions left))

-- ---- an answer

module _ (lts : System) (arcs : List Arc) (class : Class) (fine : IsInRange lts) (numbers : HasNumbersInRange class) (reachable : IsAllReachable lts)
    (free : IsForkFree lts) (is_tree : IsTree lts arcs) where
  pub some_answer : (a : Answer) × Out lts class a
  some_answer = let (o, searched) = some_search lts arcs class fine numbers reachable is_tree in by o searched (search_right lts class fine numbers reachable o searched)
    where
      by : (o : Separation) → Searched lts class o → IsSearchRight lts class o → (a : Answer) × Out lts class a
      by (places kept) searched (regions, separate) =
          let (left, leaves, _) = some_left lts reachable [] kept (All-nil (IsRegion lts)) (λ k d lt. ((regions k d lt).0, (regions k d lt).1.region)) in
          (net left, a_search (places kept) (net left) reachable free searched leaves)
      by (of_problem problem trees) searched right =
          (unsolvable (refuted_reason problem trees), a_search (of_problem problem trees) (unsolvable (refuted_reason problem trees)) reachable free searched refl)
      by (of_term w) searched right = (too_wide w, a_search (of_term w) (too_wide w) reachable free searched refl)
