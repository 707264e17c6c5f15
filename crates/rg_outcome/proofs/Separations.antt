-- What all problems come to is one, and what it says.
use Rattle.std.proofs.Common.{◌≡◌, ◌⊎◌, inl, inr, List, [], ◌∷◌, ◌++◌, Option, Some, refl, sym, ap, subst, ◌∙◌}
use Rattle.rg_theory.specs.System.{System}
use Rattle.rg_theory.specs.Net.{Place}
use Rattle.rg_theory.specs.declared.Problem.{Problem}
use Rattle.rg_theory.specs.Problem.{SeparateAll}
use Rattle.rg_case_folds.specs.Shown.{Shown}
use Rattle.rg_outcome.specs.Solving.{Solved, Solved.placed, Solved.refuted, Solved.passed}
use Rattle.rg_outcome.specs.Coming.{IsFirstProblem, Separation, Separation.places, Separation.unsolvable, Separation.too_wide, IsLeft, IsBehind, IsNext, IsDone, ComesFrom, ComesFrom.keeps, ComesFrom.goes_on, ComesFrom.ends, ComesFrom.all_separated, ComesFrom.one_is_left, IsOneResult}
use Rattle.rg_outcome.proofs.Ordering.{first_is_one}

-- what comes after the next problem with this result
abbrev pub Afterwards : System → (Problem → Solved → Type 0) → List Place → Problem → Solved → Separation → Type 0
Afterwards lts comes kept problem (placed p) o = ComesFrom lts comes (Some problem) (kept ++ p ∷ []) o
Afterwards lts comes kept problem (passed w) o = ComesFrom lts comes (Some problem) kept o
Afterwards lts comes kept problem (refuted trees) o = o ≡ unsolvable problem trees

-- a next problem is taken
pub record IsTaken (lts : System) (comes : Problem → Solved → Type 0) (last : Option Problem) (kept : List Place) (o : Separation) : Type 0 where
  pub problem : Problem
  pub r : Solved
  pub next : IsNext lts kept last problem
  pub has : comes problem r
  pub after : Afterwards lts comes kept problem r o

-- none is left
pub record AreSeparated (lts : System) (kept : List Place) (o : Separation) : Type 0 where
  pub separate : SeparateAll kept lts
  pub is : o ≡ places kept

-- one is left in which a number passed
pub record IsLeftOver (lts : System) (comes : Problem → Solved → Type 0) (last : Option Problem) (kept : List Place) (o : Separation) : Type 0 where
  pub problem : Problem
  pub w : Shown
  pub done : IsDone lts kept last
  pub first : IsFirstProblem (IsLeft lts kept) problem
  pub has : comes problem (passed w)
  pub is : o ≡ too_wide w

pub unfolded : (lts : System) (comes : Problem → Solved → Type 0) (last : Option Problem) (kept : List Place) (o : Separation) → ComesFrom lts comes last kept o
    → IsTaken lts comes last kept o ⊎ (AreSeparated lts kept o ⊎ IsLeftOver lts comes last kept o)
unfolded lts comes last kept o (keeps problem p next has d) = inl (record { problem = problem; r = placed p; next = next; has = has; after = d })
unfolded lts comes last kept o (goes_on problem w next has d) = inl (record { problem = problem; r = passed w; next = next; has = has; after = d })
unfolded lts comes last kept o (ends problem trees next has) = inl (record { problem = problem; r = refuted trees; next = next; has = has; after = refl })
unfolded lts comes last kept o (all_separated separate) = inr (inl (record { separate = separate; is = refl }))
unfolded lts comes last kept o (one_is_left problem w done first has) = inr (inr (record { problem = problem; w = w; done = done; first = first; has = has; is = refl }))

-- where all problems are separated, none is left
pub not_left : (lts : System) (kept : List Place) → SeparateAll kept lts → (problem : Problem) → ¬ IsLeft lts kept problem
not_left lts kept separate problem (is, lacks) = lacks (separate problem is)

module _ (lts : System) (comes : Problem → Solved → Type 0) (one : IsOneResult comes) where
  -- the taken problem is the next one, and its result is the result
  moved : (last : Option Problem) (kept : List Place) (o : Separation) (problem : Problem) (r : Solved) → IsNext lts kept last problem
      → comes problem r → IsTaken lts comes last kept o → Afterwards lts comes kept problem r o
  moved last kept o problem r next has t =
      let same : t.problem ≡ problem = first_is_one (λ q. IsLeft lts kept q × IsBehind last q) t.problem problem t.next next in
      let has' : comes problem t.r = subst (λ q. comes q t.r) same t.has in
      let results : t.r ≡ r = one problem t.r r has' has in
      subst (λ x. Afterwards lts comes kept problem x o) results (subst (λ q. Afterwards lts comes kept q t.r o) same t.after)

  -- where a next problem has this result, this comes after it
  pub taken : (last : Option Problem) (kept : List Place) (o : Separation) (problem : Problem) (r : Solved) → IsNext lts kept last problem
      → comes problem r → ComesFrom lts comes last kept o → Afterwards lts comes kept problem r o
  taken last kept o problem r next has d = go (unfolded lts comes last kept o d)
    where
      go : IsTaken lts comes last kept o ⊎ (AreSeparated lts kept o ⊎ IsLeftOver lts comes last kept o) → Afterwards lts comes kept problem r o
      go (inl t) = moved last kept o problem r next has t
      go (inr (inl s)) = absurd (not_left lts kept s.separate problem next.0.0)
      go (inr (inr l)) = absurd (l.done problem next.0.1 next.0.0)

  same_term : (w w' : Shown) → passed w ≡ passed w' → w ≡ w'
  same_term w w' e = cc

  pub same_separation : (last : Option Problem) (kept : List Place) (o o' : Separation) → ComesFrom lts comes last kept o → ComesFrom lts comes last kept o' → o ≡ o'
  same_separation last kept o o' (keeps problem p next has d) d' = same_separation (Some problem) (kept ++ p ∷ []) o o' d (taken last kept o' problem (placed p) next has d')
  same_separation last kept o o' (goes_on problem w next has d) d' = same_separation (Some problem) kept o o' d (taken last kept o' problem (passed w) next has d')
  same_separation last kept o o' (ends problem trees next has) d' = sym (taken last kept o' problem (refuted trees) next has d')
  same_separation last kept o o' (all_separated separate) d' = go (unfolded lts comes last kept o' d')
    where
      go : IsTaken lts comes last kept o' ⊎ (AreSeparated lts kept o' ⊎ IsLeftOver lts comes last kept o') → places kept ≡ o'
      go (inl t) = absurd (not_left lts kept separate t.problem t.next.0.0)
      go (inr (inl s)) = sym s.is
      go (inr (inr l)) = absurd (not_left lts kept separate l.problem l.first.0)
  same_separation last kept o o' (one_is_left problem w done first has) d' = go (unfolded lts comes last kept o' d')
    where
      go : IsTaken lts comes last kept o' ⊎ (AreSeparated lts kept o' ⊎ IsLeftOver lts comes last kept o') → too_wide w ≡ o'
      go (inl t) = absurd (done t.problem t.next.0.1 t.next.0.0)
      go (inr (inl s)) = absurd (not_left lts kept s.separate problem first.0)
      go (inr (inr l)) =
          let same : l.problem ≡ problem = first_is_one (IsLeft lts kept) l.problem problem l.first first in
          let terms : w ≡ l.w = same_term w l.w (one problem (passed w) (passed l.w) has (subst (λ q. comes q (passed l.w)) same l.has)) in
          ap too_wide terms ∙ sym l.is
