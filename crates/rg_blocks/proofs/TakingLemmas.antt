-- Taking over, problem by problem.
use Rattle.std.proofs.Common.{◌≡◌, ◌⊎◌, inl, inr, ℕ, ◌+◌, ◌<◌, List, [], ◌∷◌, ◌++◌, length, get_or, take, All, Option, None, Some, Result, Ok, Err, IfOk, refl, sym, ap, subst, ◌∙◌, arith}
use Rattle.std.proofs.lemmas.List.{append_assoc, map-append, take_more}
use Rattle.rg_theory.specs.System.{System}
use Rattle.rg_theory.specs.Net.{Place}
use Rattle.rg_theory.specs.declared.Problem.{Problem}
use Rattle.rg_cert_meaning.specs.Refutes.{Tree}
use Rattle.rg_outcome.specs.Solving.{Solved, Solved.placed, Solved.refuted, Solved.passed}
use Rattle.rg_outcome.specs.Coming.{IsSeparated, IsLeft}
use Rattle.rg_outcome.specs.Blocks.{AfterBlock, AfterBlock.kept_places, AfterBlock.refuted_one, GoesOn, TakenOver}
use Rattle.rg_blocks.specs.declared.solving.SolvedProblem.{SolvedProblem}
use Rattle.rg_outcome.proofs.Existing.{separated_by_last}
use Rattle.rg_blocks.specs.Taking.{problems_of, with_place, KeepsItsPlace, IsTakenOver}
use Rattle.rg_blocks.specs.Separating.{EachPlaceSeparates}

module _ (lts : System) (comes : Problem → Solved → Type 0) where
  -- some problems are taken over, and then the rest
  pub more_taken : (before after : List Place) (done rest : List Problem) (a : AfterBlock) → TakenOver lts comes before done (kept_places after)
      → TakenOver lts comes after rest a → TakenOver lts comes before (done ++ rest) a
  more_taken before after [] rest a is t = subst (λ ks. TakenOver lts comes ks rest a) same t
    where
      same : after ≡ before
      same = cc
  more_taken before after (p ∷ done) rest a taken t = go (λ now d. more_taken now after done rest a d t) taken
    where
      by_result : ((now : List Place) → TakenOver lts comes now done (kept_places after) → TakenOver lts comes now (done ++ rest) a)
          → ¬ IsSeparated lts before p → (r : Solved) → comes p r
          → GoesOn p r before (λ ks. TakenOver lts comes ks done (kept_places after)) (kept_places after) → TakenOver lts comes before (p ∷ done ++ rest) a
      by_result ih lacks (placed q) has d = inr (lacks, (placed q, has, ih (before ++ q ∷ []) d))
      by_result ih lacks (passed w) has d = inr (lacks, (passed w, has, ih before d))
      by_result ih lacks (refuted trees) has d = absurd cc

      go : ((now : List Place) → TakenOver lts comes now done (kept_places after) → TakenOver lts comes now (done ++ rest) a)
          → (IsSeparated lts before p × TakenOver lts comes before done (kept_places after))
          ⊎ (¬ IsSeparated lts before p × ((r : Solved) × comes p r
          × GoesOn p r before (λ ks. TakenOver lts comes ks done (kept_places after)) (kept_places after))) → TakenOver lts comes before (p ∷ done ++ rest) a
      go ih (inl (sep, d)) = inl (sep, ih before d)
      go ih (inr (lacks, (r, has, d))) = by_result ih lacks r has d

  -- a refuted problem ends it, whatever stands behind
  pub ended_taken : (before : List Place) (done rest : List Problem) (q : Problem) (trees : List Tree)
      → TakenOver lts comes before done (refuted_one q trees) → TakenOver lts comes before (done ++ rest) (refuted_one q trees)
  ended_taken before [] rest q trees is = absurd cc
  ended_taken before (p ∷ done) rest q trees taken = go (λ now d. ended_taken now done rest q trees d) taken
    where
      by_result : ((now : List Place) → TakenOver lts comes now done (refuted_one q trees) → TakenOver lts comes now (done ++ rest) (refuted_one q trees))
          → ¬ IsSeparated lts before p → (r : Solved) → comes p r
          → GoesOn p r before (λ ks. TakenOver lts comes ks done (refuted_one q trees)) (refuted_one q trees)
          → TakenOver lts comes before (p ∷ done ++ rest) (refuted_one q trees)
      by_result ih lacks (placed x) has d = inr (lacks, (placed x, has, ih (before ++ x ∷ []) d))
      by_result ih lacks (passed w) has d = inr (lacks, (passed w, has, ih before d))
      by_result ih lacks (refuted all) has d = inr (lacks, (refuted all, has, d))

      go : ((now : List Place) → TakenOver lts comes now done (refuted_one q trees) → TakenOver lts comes now (done ++ rest) (refuted_one q trees))
          → (IsSeparated lts before p × TakenOver lts comes before done (refuted_one q trees))
          ⊎ (¬ IsSeparated lts before p × ((r : Solved) × comes p r × GoesOn p r before (λ ks. TakenOver lts comes ks done (refuted_one q trees))
          (refuted_one q trees))) → TakenOver lts comes before (p ∷ done ++ rest) (refuted_one q trees)
      go ih (inl (sep, d)) = inl (sep, ih before d)
      go ih (inr (lacks, (r, has, d))) = by_result ih lacks r has d

  -- ---- one problem

  pub one_dropped : (kept : List Place) (p : Problem) → IsSeparated lts kept p → TakenOver lts comes kept (p ∷ []) (kept_places kept)
  one_dropped kept p sep = inl (sep, refl)

  -- ---- several problems

  -- some problems are taken over, and then others
  pub then_taken : (before now after : List Place) (done rest : List Problem) (end : Option Problem) → IsTakenOver lts comes before done now None
      → IsTakenOver lts comes now rest after end → IsTakenOver lts comes before (done ++ rest) after end
  then_taken before now after done rest None first t = more_taken before now done rest (kept_places after) first t
  then_taken before now after done rest (Some q) first (trees, t) = (trees, more_taken before now done rest (refuted_one q trees) first t)

  -- others after a refuted one change nothing
  pub then_nothing : (before now after : List Place) (done rest : List Problem) (q : Problem) → IsTakenOver lts comes before done now (Some q)
      → IsTakenOver lts comes before (done ++ rest) after (Some q)
  then_nothing before now after done rest q (trees, t) = (trees, ended_taken before done rest q trees t)

  -- all are taken over after the place of the first one was kept, which is as if it wasn't
  pub first_known : EachPlaceSeparates lts comes → (before now : List Place) (p : Problem) (rest : List Problem) (a : AfterBlock) → IsLeft lts before p
      → KeepsItsPlace comes before p now → TakenOver lts comes now (p ∷ rest) a → TakenOver lts comes before (p ∷ rest) a
  first_known separating before now p rest a left kept taken = by kept.result kept.comes_to (subst (λ ks. TakenOver lts comes ks (p ∷ rest) a) kept.places taken)
    where
      by : (r : Solved) → comes p r → TakenOver lts comes (with_place before r) (p ∷ rest) a → TakenOver lts comes before (p ∷ rest) a
      by (placed q) has (inl (sep, d)) = inr (left.1, (placed q, has, d))
      by (placed q) has (inr (lacks, d)) = absurd (lacks (separated_by_last lts before q p (separating.separate p q left.0 has)))
      by (refuted trees) has t = t
      by (passed w) has t = t

  pub ok_with_first_known : {E : Type 0} → EachPlaceSeparates lts comes → (before now after : List Place) (problems solved : List Problem) (p d : Problem)
      (r : Result (Option Problem) E) → 0 < length problems → solved ≡ problems → p ≡ get_or problems 0 d → All (IsLeft lts before) problems
      → KeepsItsPlace comes before p now → IfOk r (IsTakenOver lts comes now solved after) → IfOk r (IsTakenOver lts comes before problems after)
  ok_with_first_known separating before now after [] solved p d r some same is left kept taken = absurd (omega arith)
  ok_with_first_known separating before now after (x ∷ rest) solved p d (Err e) some same is left kept taken = taken
  ok_with_first_known separating before now after (x ∷ rest) solved p d (Ok end) some same is left kept taken =
      by end (subst (λ xs. IsTakenOver lts comes now xs after end) same taken)
    where
      known : (a : AfterBlock) → TakenOver lts comes now (x ∷ rest) a → TakenOver lts comes before (x ∷ rest) a
      known a t = first_known separating before now x rest a (left 0 x (omega arith)) (subst (λ q. KeepsItsPlace comes before q now) is kept) t

      by : (end : Option Problem) → IsTakenOver lts comes now (x ∷ rest) after end → IsTakenOver lts comes before (x ∷ rest) after end
      by None t = known (kept_places after) t
      by (Some q) (trees, t) = (trees, known (refuted_one q trees) t)

-- ---- as loops have them

pub one_more_problem : (yielded : List SolvedProblem) (s : SolvedProblem) → problems_of (yielded ++ s ∷ []) ≡ problems_of yielded ++ s.problem ∷ []
one_more_problem yielded s = map-append (λ x. x.problem) yielded (s ∷ [])

-- the next one stands behind those that were taken
pub stands_next : {X : Type 0} (items yielded rest rest' : List X) (s : X) → items ≡ yielded ++ rest → rest ≡ s ∷ rest' → items ≡ yielded ++ s ∷ rest'
stands_next items yielded rest rest' s e f = e ∙ ap (λ xs. yielded ++ xs) f

pub left_over : {X : Type 0} (items yielded rest rest' : List X) (s : X) → items ≡ yielded ++ rest → rest ≡ s ∷ rest' → items ≡ (yielded ++ s ∷ []) ++ rest'
left_over items yielded rest rest' s e f = stands_next items yielded rest rest' s e f ∙ sym (append_assoc yielded (s ∷ []) rest')

module _ (lts : System) (comes : Problem → Solved → Type 0) (before now after : List Place) (end : Option Problem) where
  pub solved_more : (yielded : List SolvedProblem) (s : SolvedProblem) → end ≡ None
      → TakenOver lts comes before (problems_of yielded) (kept_places now) → IsTakenOver lts comes now (s.problem ∷ []) after end
      → TakenOver lts comes before (problems_of (yielded ++ s ∷ [])) (kept_places after)
  solved_more yielded s none taken one = subst (λ xs. TakenOver lts comes before xs (kept_places after)) (sym (one_more_problem yielded s))
      (then_taken lts comes before now after (problems_of yielded) (s.problem ∷ []) None taken (subst (IsTakenOver lts comes now (s.problem ∷ []) after) none one))

  pub solved_ends : (items yielded rest : List SolvedProblem) (s : SolvedProblem) (q : Problem) → items ≡ yielded ++ s ∷ rest → end ≡ Some q
      → TakenOver lts comes before (problems_of yielded) (kept_places now)
      → IsTakenOver lts comes now (s.problem ∷ []) after end → IsTakenOver lts comes before (problems_of items) after (Some q)
  solved_ends items yielded rest s q are some taken one =
      let ended = then_taken lts comes before now after (problems_of yielded) (s.problem ∷ []) (Some q) taken (subst (IsTakenOver lts comes now (s.problem ∷ []) after) some one) in
      let split : problems_of items ≡ (problems_of yielded ++ s.problem ∷ []) ++ problems_of rest =
      ap problems_of are ∙ map-append (λ x. x.problem) yielded (s ∷ rest) ∙ sym (append_assoc (problems_of yielded) (s.problem ∷ []) (problems_of rest)) in
      subst (λ xs. IsTakenOver lts comes before xs after (Some q)) (sym split)
      (then_nothing lts comes before after after (problems_of yielded ++ s.problem ∷ []) (problems_of rest) q ended)

  pub turn_more : (problems : List Problem) (i : ℕ) (p d : Problem) → i < length problems → p ≡ get_or problems i d
      → IsTakenOver lts comes before (take i problems) now None → IsTakenOver lts comes now (p ∷ []) after end
      → IsTakenOver lts comes before (take (i + 1) problems) after end
  turn_more problems i p d lt is taken one =
      let split : take (i + 1) problems ≡ take i problems ++ p ∷ [] = take_more problems i d lt ∙ ap (λ x. take i problems ++ x ∷ []) (sym is) in
      subst (λ xs. IsTakenOver lts comes before xs after end) (sym split) (then_taken lts comes before now after (take i problems) (p ∷ []) end taken one)

  -- a refuted problem stays the end
  pub turn_ended : (problems : List Problem) (i : ℕ) (d q : Problem) → i < length problems → end ≡ Some q
      → IsTakenOver lts comes before (take i problems) now end → IsTakenOver lts comes before (take (i + 1) problems) now end
  turn_ended problems i d q lt some taken =
      subst (λ o. IsTakenOver lts comes before (take (i + 1) problems) now o) (sym some)
      (subst (λ xs. IsTakenOver lts comes before xs now (Some q)) (sym (take_more problems i d lt))
      (then_nothing lts comes before now now (take i problems) (get_or problems i d ∷ []) q (subst (λ o. IsTakenOver lts comes before (take i problems) now o) some taken)))
