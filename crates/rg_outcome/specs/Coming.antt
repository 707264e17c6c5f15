-- What all problems of a system come to together, in their order, whatever the solving of one problem comes to.
use Rattle.std.specs.Prelude.{◌≡◌, ◌⊎◌, ℕ, List, [], ◌∷◌, ◌++◌, Option, None, Some, Any, All}
use Rattle.rg_theory.specs.System.{System}
use Rattle.rg_theory.specs.Net.{Place}
use Rattle.rg_theory.specs.Region.{IsRegion, RegionIn}
use Rattle.rg_theory.specs.declared.Class.{Class}
use Rattle.rg_theory.specs.declared.Problem.{Problem}
use Rattle.rg_theory.specs.Problem.{IsProblem, Separates, IsSeparatedBy, SeparateAll, ComesBefore}
use Rattle.rg_cert_meaning.specs.Refutes.{Tree}
use Rattle.rg_case_folds.specs.Shown.{Shown}
use Rattle.rg_outcome.specs.Solving.{Solved, Solved.placed, Solved.refuted, Solved.passed}

-- the first problem of which it holds, in the order of problems
abbrev pub IsFirstProblem : (Problem → Type 0) → Problem → Type 0
IsFirstProblem P problem = P problem × ((earlier : Problem) → ComesBefore earlier problem → ¬ P earlier)

-- places that separate all problems, the first refuted problem with its trees, or the term that is shown
pub data Separation : Type 0 where
  places : List Place → Separation
  unsolvable : Problem → List Tree → Separation
  too_wide : Shown → Separation

-- a problem is refuted
abbrev pub IsRefusal : Separation → Type 0
IsRefusal (unsolvable problem trees) = Unit {0}
IsRefusal _ = ⊥

-- one of the places separates the problem
abbrev pub IsSeparated : System → List Place → Problem → Type 0
IsSeparated lts kept problem = Any (IsSeparatedBy lts problem) kept

-- the place is a region of the class that separates
abbrev pub IsSeparatedIn : System → Class → Problem → Place → Type 0
IsSeparatedIn lts class problem p = (m : ℕ → ℕ) × RegionIn lts class p m × Separates p m problem

-- the system has the problem, and none of the places separates it
abbrev pub IsLeft : System → List Place → Problem → Type 0
IsLeft lts kept problem = IsProblem lts problem × ¬ IsSeparated lts kept problem

-- the problem comes after the last one that was taken, if one was
abbrev pub IsBehind : Option Problem → Problem → Type 0
IsBehind None problem = Unit {0}
IsBehind (Some last) problem = ComesBefore last problem

-- the next problem: of those after the last one the first that no kept place separates
abbrev pub IsNext : System → List Place → Option Problem → Problem → Type 0
IsNext lts kept last problem = IsFirstProblem (λ q. IsLeft lts kept q × IsBehind last q) problem

-- no problem after the last one is left
abbrev pub IsDone : System → List Place → Option Problem → Type 0
IsDone lts kept last = (problem : Problem) → IsBehind last problem → ¬ IsLeft lts kept problem

-- what the problems after the last one come to, with the places kept so far. The next one is solved: its place is kept; where it is
-- refuted all ends; where its number passes the work goes on. When none is left, the places separate all problems, or some of those in
-- which a number passed are left, and the first of them shows its term
pub data ComesFrom (lts : System) (comes : Problem → Solved → Type 0) : Option Problem → List Place → Separation → Type 0 where
  keeps : {last : Option Problem} {kept : List Place} {o : Separation} (problem : Problem) (p : Place) → IsNext lts kept last problem → comes problem (placed p)
      → ComesFrom lts comes (Some problem) (kept ++ p ∷ []) o → ComesFrom lts comes last kept o
  goes_on : {last : Option Problem} {kept : List Place} {o : Separation} (problem : Problem) (w : Shown) → IsNext lts kept last problem → comes problem (passed w)
      → ComesFrom lts comes (Some problem) kept o → ComesFrom lts comes last kept o
  ends : {last : Option Problem} {kept : List Place} (problem : Problem) (trees : List Tree) → IsNext lts kept last problem → comes problem (refuted trees)
      → ComesFrom lts comes last kept (unsolvable problem trees)
  all_separated : {last : Option Problem} {kept : List Place} → SeparateAll kept lts
      → ComesFrom lts comes last kept (places kept)
  one_is_left : {last : Option Problem} {kept : List Place} (problem : Problem) (w : Shown) → IsDone lts kept last → IsFirstProblem (IsLeft lts kept) problem → comes problem (passed w)
      → ComesFrom lts comes last kept (too_wide w)

-- what all problems come to, from no place on
abbrev pub AllComeTo : System → (Problem → Solved → Type 0) → Separation → Type 0
AllComeTo lts comes o = ComesFrom lts comes None [] o

-- ---- what is asked of the solving of one problem

-- a problem has one result
abbrev pub IsOneResult : (Problem → Solved → Type 0) → Type 0
IsOneResult comes = (problem : Problem) (r r' : Solved) → comes problem r → comes problem r' → r ≡ r'

-- a place that is made separates its problem
abbrev pub PlacesSeparate : System → (Problem → Solved → Type 0) → Type 0
PlacesSeparate lts comes = (problem : Problem) (p : Place) → IsProblem lts problem → comes problem (placed p) → IsSeparatedBy lts problem p

-- no place that is made separates a problem that is refuted
abbrev pub RefutedStay : System → (Problem → Solved → Type 0) → Type 0
RefutedStay lts comes = (problem other : Problem) (trees : List Tree) (p : Place) → IsProblem lts problem → IsProblem lts other
    → comes problem (refuted trees) → comes other (placed p) → ¬ IsSeparatedBy lts problem p

-- the problem is refuted
abbrev pub IsRefutedIn : System → (Problem → Solved → Type 0) → Problem → Type 0
IsRefutedIn lts comes problem = IsProblem lts problem × ((trees : List Tree) × comes problem (refuted trees))

-- the place is that of some problem
abbrev pub IsMade : System → (Problem → Solved → Type 0) → Place → Type 0
IsMade lts comes p = (problem : Problem) × IsProblem lts problem × comes problem (placed p)

-- each problem has a result
abbrev pub HasResults : System → (Problem → Solved → Type 0) → Type 0
HasResults lts comes = (problem : Problem) → IsProblem lts problem → (r : Solved) × comes problem r

-- what is said of the answer: of a refuted problem that it is the first of all that are refuted; else that none is, that each place kept
-- is that of a problem, and that the term is that of the first problem which none of them separates
pub record IsFirstRefuted (lts : System) (comes : Problem → Solved → Type 0) (problem : Problem) (trees : List Tree) : Type 0 where
  pub first : IsFirstProblem (IsRefutedIn lts comes) problem
  pub has : comes problem (refuted trees)

pub record IsFirstLeft (lts : System) (comes : Problem → Solved → Type 0) (w : Shown) : Type 0 where
  pub kept : List Place
  pub made : All (IsMade lts comes) kept
  pub none : (problem : Problem) → ¬ IsRefutedIn lts comes problem
  pub problem : Problem
  pub first : IsFirstProblem (IsLeft lts kept) problem
  pub has : comes problem (passed w)

pub record AreEnough (lts : System) (comes : Problem → Solved → Type 0) (kept : List Place) : Type 0 where
  pub made : All (IsMade lts comes) kept
  pub none : (problem : Problem) → ¬ IsRefutedIn lts comes problem
  pub separate : SeparateAll kept lts

abbrev pub Says : System → (Problem → Solved → Type 0) → Separation → Type 0
Says lts comes (places kept) = AreEnough lts comes kept
Says lts comes (unsolvable problem trees) = IsFirstRefuted lts comes problem trees
Says lts comes (too_wide w) = IsFirstLeft lts comes w

-- a problem that isn't after the last one is separated, or its number passed; the places are regions
pub record IsSound (lts : System) (comes : Problem → Solved → Type 0) (last : Option Problem) (kept : List Place) : Type 0 where
  pub over : (problem : Problem) → IsProblem lts problem → ¬ IsBehind last problem → IsSeparated lts kept problem ⊎ ((w : Shown) × comes problem (passed w))
  pub regions : All (IsRegion lts) kept
