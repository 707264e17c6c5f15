-- A system and a class have one answer.
use Rattle.std.proofs.Common.{◌≡◌, ◌⊎◌, inl, inr, ℕ, ◌<◌, ◌≤◌, List, [], ◌∷◌, None, sym, ap, subst, ◌∙◌, arith}
use Rattle.std.proofs.lemmas.Bool.{cases_lt}
use Rattle.rg_theory.specs.declared.Arc.{Arc}
use Rattle.rg_theory.specs.System.{System, labels, IsAllReachable, IsForkFree, IsLeastUnreachable, IsLeastFork}
use Rattle.rg_theory.specs.Net.{Place}
use Rattle.rg_theory.specs.declared.Class.{Class}
use Rattle.rg_theory.specs.Tree.{IsTree}
use Rattle.rg_theory.proofs.Trees.{same_tree}
use Rattle.rg_cert_meaning.specs.Refutes.{Reason.unreachable, Reason.fork}
use Rattle.rg_linear.specs.Dictionary.{column_set}
use Rattle.rg_linear.specs.Descent.{WideAt}
use Rattle.rg_linear.specs.Cycle.{CycleBasis, CycleOutcome.free_set, CycleOutcome.too_wide as walk_passes, CycleWalk}
use Rattle.rg_linear.proofs.Cycles.{same_cycle}
use Rattle.rg_linear.proofs.Bases.{kept_is_one, cycle_basis_is_one}
use Rattle.rg_case_folds.specs.Setting.{setting_at}
use Rattle.rg_case_folds.specs.Chords.{KeepsChords, chord_vectors, chord_system, IsBasis}
use Rattle.rg_case_folds.specs.Shown.{Stage, Shown, StandsAt, CycleShown}
use Rattle.rg_outcome.specs.Solving.{ProblemComes}
use Rattle.rg_outcome.specs.Coming.{Separation, Separation.places, Separation.unsolvable as of_problem, Separation.too_wide as of_term, ComesFrom}
use Rattle.rg_outcome.specs.Outcome.{Answer, Answer.net, Answer.unsolvable, Answer.too_wide, Gives, SearchedFrom, SearchedFrom.a_cycle, SearchedFrom.all_problems, Out, Out.a_state, Out.a_fork, Out.a_search}
use Rattle.rg_theory.specs.Pruned.{IsPruned}
use Rattle.rg_outcome.proofs.Separations.{same_separation}
use Rattle.rg_outcome.proofs.Solvings.{same_solved}

-- ---- laws that it stands on

-- least forks are one
abbrev pub OneLeastFork : Type 0
OneLeastFork = (lts : System) (s t a b s' t' a' b' : ℕ) → IsLeastFork lts s t a b → IsLeastFork lts s' t' a' b' → (s ≡ s') × (t ≡ t') × (a ≡ a') × (b ≡ b')

-- places leave one list
abbrev pub OnePruned : Type 0
OnePruned = (lts : System) (places a b : List Place) → IsPruned lts places a → IsPruned lts places b → a ≡ b

-- ---- what is answered to what the problems come to

given : OnePruned → (lts : System) (o : Separation) (a a' : Answer) → Gives lts o a → Gives lts o a' → a ≡ a'
given pruned lts (places kept) (net left) (net left') g g' = ap net (pruned lts kept left left' g g')
given pruned lts (places kept) (net left) (unsolvable r) g g' = absurd g'
given pruned lts (places kept) (net left) (too_wide w) g g' = absurd g'
given pruned lts (places kept) (unsolvable r) a' g g' = absurd g
given pruned lts (places kept) (too_wide w) a' g g' = absurd g
given pruned lts (of_problem problem trees) (net left) a' g g' = absurd g
given pruned lts (of_problem problem trees) (unsolvable r) (net left) g g' = absurd g'
given pruned lts (of_problem problem trees) (unsolvable r) (unsolvable r') g g' = ap unsolvable (g ∙ sym g')
given pruned lts (of_problem problem trees) (unsolvable r) (too_wide w) g g' = absurd g'
given pruned lts (of_problem problem trees) (too_wide w) a' g g' = absurd g
given pruned lts (of_term w) (net left) a' g g' = absurd g
given pruned lts (of_term w) (unsolvable r) a' g g' = absurd g
given pruned lts (of_term w) (too_wide v) (net left) g g' = absurd g'
given pruned lts (of_term w) (too_wide v) (unsolvable r) g g' = absurd g'
given pruned lts (of_term w) (too_wide v) (too_wide v') g g' = ap too_wide (sym g ∙ g')

-- ---- the walk over the cycle equations

same_stop : (at at' : WideAt) → walk_passes at ≡ walk_passes at' → at ≡ at'
same_stop at at' e = cc

no_stop : (at : WideAt) (members : List ℕ) → walk_passes at ≡ free_set members → ⊥
no_stop at members e = cc

-- two terms of the walk at one place are one
same_shown : (w w' : Shown) (at : WideAt) → w.stage ≡ w'.stage → StandsAt w at → StandsAt w' at → w.problem ≡ w'.problem → w.case_number ≡ w'.case_number → w.above ≡ w'.above → w ≡ w'
same_shown w w' at stages s s' problems cases sides = λ i. record {
  stage = stages i;
  problem = problems i;
  case_number = cases i;
  above = sides i;
  members = (s.members ∙ sym s'.members) i;
  pivot_variable = (s.pivot ∙ sym s'.pivot) i;
  leaves = (s.leaves ∙ sym s'.leaves) i;
  target = (s.target ∙ sym s'.target) i;
  entry = (s.entry ∙ sym s'.entry) i;
  wide = (s.wide ∙ sym s'.wide) i;
}

module _ (lts : System) where
  -- the walk of the term, over the tree and the kept chords of another one
  walk_over : (w : Shown) (arcs : List Arc) (kept : List ℕ) → IsTree lts arcs → KeepsChords lts arcs kept → (h : CycleShown lts w) → CycleWalk (chord_system lts arcs kept) (walk_passes h.at)
  walk_over w arcs kept is keeps h =
      let trees : h.arcs ≡ arcs = same_tree lts (lts.initial ∷ []) h.arcs arcs h.is_tree is in
      let keeps' : KeepsChords lts arcs h.kept = subst (λ a. KeepsChords lts a h.kept) trees h.chords in
      let same : h.kept ≡ kept = kept_is_one (chord_vectors lts arcs) h.kept kept keeps' keeps in
      subst (λ k. CycleWalk (chord_system lts arcs k) (walk_passes h.at)) same (subst (λ a. CycleWalk (chord_system lts a h.kept) (walk_passes h.at)) trees h.stops)

  same_cycle_shown : (w w' : Shown) → w.stage ≡ Stage.cycle → w'.stage ≡ Stage.cycle → CycleShown lts w → CycleShown lts w' → w ≡ w'
  same_cycle_shown w w' stage stage' h h' =
      let stops' = walk_over w' h.arcs h.kept h.is_tree h.chords h' in
      let at : h.at ≡ h'.at = same_stop h.at h'.at
      (same_cycle (chord_system lts h.arcs h.kept) (column_set (chord_system lts h.arcs h.kept)) 0 (walk_passes h.at) (walk_passes h'.at) h.stops stops') in
      same_shown w w' h'.at (stage ∙ sym stage') (subst (λ (x : WideAt). StandsAt w x) at h.stands) h'.stands (h.no_problem ∙ sym h'.no_problem)
      (h.no_case ∙ sym h'.no_case) (h.no_split ∙ sym h'.no_split)

  no_basis : (w : Shown) (arcs : List Arc) (basis : CycleBasis) → IsTree lts arcs → IsBasis lts arcs basis → CycleShown lts w → ⊥
  no_basis w arcs basis is is_basis h =
      no_stop h.at basis.members (same_cycle (chord_system lts arcs basis.kept) (column_set (chord_system lts arcs basis.kept)) 0 (walk_passes h.at)
      (free_set basis.members) (walk_over w arcs basis.kept is is_basis.kept h) is_basis.cycle)

-- ---- early answers

same_state : (lts : System) (s s' : ℕ) → IsLeastUnreachable lts s → IsLeastUnreachable lts s' → s ≡ s'
same_state lts s s' h h' = go (cases_lt s s') (cases_lt s' s)
  where
    go : (s < s') ⊎ (s' ≤ s) → (s' < s) ⊎ (s ≤ s') → s ≡ s'
    go (inl less) _ = absurd (h.unreachable (h'.least s less))
    go (inr more) (inl less) = absurd (h'.unreachable (h.least s' less))
    go (inr more) (inr most) = omega arith

not_reachable : (lts : System) (s : ℕ) → IsLeastUnreachable lts s → ¬ IsAllReachable lts
not_reachable lts s h reachable = h.unreachable (reachable.each s h.state)

not_free : (lts : System) (s t s₁ s₂ : ℕ) → IsLeastFork lts s t s₁ s₂ → ¬ IsForkFree lts
not_free lts s t s₁ s₂ h free = let (a, b, differ) = h.fork in differ (free.one_target s t s₁ s₂ a b)

same_fork : (s t a b s' t' a' b' : ℕ) → (s ≡ s') × (t ≡ t') × (a ≡ a') × (b ≡ b') → fork s t a b ≡ fork s' t' a' b'
same_fork s t a b s' t' a' b' (e, f, p, q) = cc

-- ---- the answer

module _ (lts : System) (class : Class) where
  same_problems : (kept : List Place) (arcs arcs' : List Arc) (basis basis' : CycleBasis) (o o' : Separation) → IsTree lts arcs → IsTree lts arcs' → IsBasis lts arcs basis
      → IsBasis lts arcs' basis' → ComesFrom lts (ProblemComes (setting_at lts arcs basis class)) None kept o
      → ComesFrom lts (ProblemComes (setting_at lts arcs' basis' class)) None kept o' → o ≡ o'
  same_problems kept arcs arcs' basis basis' o o' is is' is_basis is_basis' d d' =
      let trees : arcs' ≡ arcs = same_tree lts (lts.initial ∷ []) arcs' arcs is' is in
      let is_basis'' : IsBasis lts arcs basis' = subst (λ x. IsBasis lts x basis') trees is_basis' in
      let bases : basis' ≡ basis = cycle_basis_is_one (labels lts) (chord_vectors lts arcs) basis' basis is_basis'' is_basis in
      let s = setting_at lts arcs basis class in
      let same : setting_at lts arcs' basis' class ≡ s = λ i. setting_at lts (trees i) (bases i) class in
      same_separation lts (ProblemComes s) (same_solved s) None kept o o' d (subst (λ x. ComesFrom lts (ProblemComes x) None kept o') same d')

  pub same_search : (kept : List Place) (o o' : Separation) → SearchedFrom lts class kept o → SearchedFrom lts class kept o' → o ≡ o'
  same_search kept o o' (a_cycle w stage h) (a_cycle w' stage' h') = ap of_term (same_cycle_shown lts w w' stage stage' h h')
  same_search kept o o' (a_cycle w stage h) (all_problems arcs basis _ is is_basis d) = absurd (no_basis lts w arcs basis is is_basis h)
  same_search kept o o' (all_problems arcs basis _ is is_basis d) (a_cycle w stage h) = absurd (no_basis lts w arcs basis is is_basis h)
  same_search kept o o' (all_problems arcs basis _ is is_basis d) (all_problems arcs' basis' _ is' is_basis' d') =
      same_problems kept arcs arcs' basis basis' o o' is is' is_basis is_basis' d d'

  pub same_answer : OneLeastFork → OnePruned → (a a' : Answer) → Out lts class a → Out lts class a' → a ≡ a'
  same_answer forks pruned a a' (a_state s h) (a_state s' h') = ap (λ x. unsolvable (unreachable x)) (same_state lts s s' h h')
  same_answer forks pruned a a' (a_state s h) (a_fork s' t s₁ s₂ reachable h') = absurd (not_reachable lts s h reachable)
  same_answer forks pruned a a' (a_state s h) (a_search o _ reach free is g) = absurd (not_reachable lts s h reach)
  same_answer forks pruned a a' (a_fork s t s₁ s₂ reachable h) (a_state s' h') = absurd (not_reachable lts s' h' reachable)
  same_answer forks pruned a a' (a_fork s t s₁ s₂ reachable h) (a_fork s' t' u₁ u₂ reachable' h') = ap unsolvable (same_fork s t s₁ s₂ s' t' u₁ u₂ (forks lts s t s₁ s₂ s' t' u₁ u₂ h h'))
  same_answer forks pruned a a' (a_fork s t s₁ s₂ reachable h) (a_search o _ reach free is g) = absurd (not_free lts s t s₁ s₂ h free)
  same_answer forks pruned a a' (a_search o _ reach free is g) (a_state s h) = absurd (not_reachable lts s h reach)
  same_answer forks pruned a a' (a_search o _ reach free is g) (a_fork s t s₁ s₂ reachable h) = absurd (not_free lts s t s₁ s₂ h free)
  same_answer forks pruned a a' (a_search o _ reach free is g) (a_search o' _ reach' free' is' g') = given pruned lts o a a' g (subst (λ x. Gives lts x a') (same_search [] o' o is' is) g')
