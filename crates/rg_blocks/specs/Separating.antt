-- What all problems come to.
use Rattle.std.specs.Prelude.{◌≡◌, List, Option, None, Some}
use Rattle.rg_theory.specs.System.{System}
use Rattle.rg_theory.specs.Net.{Place}
use Rattle.rg_theory.specs.declared.Problem.{Problem}
use Rattle.rg_theory.specs.Problem.{IsProblem, SeparateAll}
use Rattle.rg_outcome.specs.Solving.{Solved, Solved.refuted, Solved.passed}
use Rattle.rg_outcome.specs.Coming.{Separation, Separation.places, Separation.unsolvable, Separation.too_wide, IsFirstProblem, IsLeft, ComesFrom, PlacesSeparate}

-- each place that is made separates its problem
pub record EachPlaceSeparates (lts : System) (comes : Problem → Solved → Type 0) : Type 0 where
  pub separate : PlacesSeparate lts comes

-- the result for all problems, as the code returns it: places that separate all of them, the refuted problem, or the first problem left, with
-- its term out of range
abbrev pub ShowsEnd : System → (Problem → Solved → Type 0) → List Place → Option Problem → Separation → Type 0
ShowsEnd lts comes after None (places kept) = (kept ≡ after) × SeparateAll after lts
ShowsEnd lts comes after (Some q) (unsolvable problem trees) = (problem ≡ q) × IsProblem lts q × comes q (refuted trees)
ShowsEnd lts comes after (Some q) (too_wide w) = IsFirstProblem (IsLeft lts after) q × comes q (passed w)
ShowsEnd lts comes after _ _ = ⊥

-- the search that begins with the places kept before ends with this problem, or with none, and with the places kept after
pub record EndsSearch (lts : System) (comes : Problem → Solved → Type 0) (before after : List Place) (end : Option Problem) : Type 0 where
  pub o : Separation
  pub comes_to : ComesFrom lts comes None before o
  pub shows : ShowsEnd lts comes after end o
