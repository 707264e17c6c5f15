-- Problems that are left, from a bound on.
use Rattle.std.specs.Prelude.{ℕ, ◌<◌, ◌≤◌, List}
use Rattle.rg_theory.specs.System.{System, HasArc}
use Rattle.rg_theory.specs.Net.{Place}
use Rattle.rg_theory.specs.declared.Problem.{Problem}
use Rattle.rg_theory.specs.Problem.{ComesBefore}
use Rattle.rg_outcome.specs.Coming.{IsFirstProblem, IsLeft}

-- none of the labels from the first number on below the second has an arc at the state
abbrev pub HaveNoArc : System → ℕ → ℕ → ℕ → Type 0
HaveNoArc lts s from to = (t q : ℕ) → from ≤ t → t < to → ¬ HasArc lts s t q

-- the problem is left, and doesn't come before the bound
abbrev pub IsLeftFrom : System → List Place → Problem → Problem → Type 0
IsLeftFrom lts kept bound problem = IsLeft lts kept problem × ¬ ComesBefore problem bound

-- the first such problem
pub record IsFirstFrom (lts : System) (kept : List Place) (bound problem : Problem) : Type 0 where
  pub first : IsFirstProblem (IsLeftFrom lts kept bound) problem

-- each such problem doesn't come before the second bound either
pub record NoneBetween (lts : System) (kept : List Place) (bound end : Problem) : Type 0 where
  pub none : (problem : Problem) → IsLeftFrom lts kept bound problem → ¬ ComesBefore problem end

-- there is no such problem
pub record NoneFrom (lts : System) (kept : List Place) (bound : Problem) : Type 0 where
  pub none : (problem : Problem) → ¬ IsLeftFrom lts kept bound problem
