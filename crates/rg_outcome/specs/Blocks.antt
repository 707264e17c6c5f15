-- The same, where several problems are solved before the first of their results is taken over.
use Rattle.std.specs.Prelude.{◌≡◌, ◌⊎◌, List, [], ◌∷◌, ◌++◌, Option, Some}
use Rattle.rg_theory.specs.System.{System}
use Rattle.rg_theory.specs.Net.{Place}
use Rattle.rg_theory.specs.declared.Problem.{Problem}
use Rattle.rg_cert_meaning.specs.Refutes.{Tree}
use Rattle.rg_theory.specs.Problem.{SeparateAll}
use Rattle.rg_case_folds.specs.Shown.{Shown}
use Rattle.rg_outcome.specs.Solving.{Solved, Solved.placed, Solved.refuted, Solved.passed}
use Rattle.rg_outcome.specs.Coming.{IsFirstProblem, Separation, Separation.places, Separation.unsolvable, Separation.too_wide, IsSeparated, IsLeft, IsNext, IsDone}

-- a block: problems after the last one, in order, that no kept place separates, and none left out between them
abbrev pub IsBlock : System → List Place → Option Problem → List Problem → Type 0
IsBlock lts kept last [] = Unit {0}
IsBlock lts kept last (problem ∷ rest) = IsNext lts kept last problem × IsBlock lts kept (Some problem) rest

-- the last problem of a block, or the one before it
abbrev pub last_of : Option Problem → List Problem → Option Problem
last_of last [] = last
last_of last (problem ∷ rest) = last_of (Some problem) rest

-- after a block: the places kept, or the problem that was refuted
pub data AfterBlock : Type 0 where
  kept_places : List Place → AfterBlock
  refuted_one : Problem → List Tree → AfterBlock

-- a result that is taken over: a place is kept, and the work goes on; a refuted problem ends it
abbrev pub GoesOn : Problem → Solved → List Place → (List Place → Type 0) → AfterBlock → Type 0
GoesOn problem (placed p) kept rest a = rest (kept ++ p ∷ [])
GoesOn problem (passed w) kept rest a = rest kept
GoesOn problem (refuted trees) kept rest a = a ≡ refuted_one problem trees

-- the results are taken over in the order of the problems; one whose problem a place kept meanwhile separates is dropped, whatever it is
abbrev pub TakenOver : System → (Problem → Solved → Type 0) → List Place → List Problem → AfterBlock → Type 0
TakenOver lts comes kept [] a = a ≡ kept_places kept
TakenOver lts comes kept (problem ∷ rest) a =
    (IsSeparated lts kept problem × TakenOver lts comes kept rest a)
    ⊎ (¬ IsSeparated lts kept problem × ((r : Solved) × comes problem r × GoesOn problem r kept (λ after. TakenOver lts comes after rest a) a))

-- what the problems after the last one come to by blocks of any lengths
pub data ComesByBlocks (lts : System) (comes : Problem → Solved → Type 0) : Option Problem → List Place → Separation → Type 0 where
  one_block : {last : Option Problem} {kept : List Place} {o : Separation} (problems : List Problem) (after : List Place) → IsBlock lts kept last problems
      → TakenOver lts comes kept problems (kept_places after) → ComesByBlocks lts comes (last_of last problems) after o → ComesByBlocks lts comes last kept o
  last_block : {last : Option Problem} {kept : List Place} (problems : List Problem) (problem : Problem) (trees : List Tree) → IsBlock lts kept last problems
      → TakenOver lts comes kept problems (refuted_one problem trees) → ComesByBlocks lts comes last kept (unsolvable problem trees)
  all_separated : {last : Option Problem} {kept : List Place} → SeparateAll kept lts → ComesByBlocks lts comes last kept (places kept)
  one_is_left : {last : Option Problem} {kept : List Place} (problem : Problem) (w : Shown) → IsDone lts kept last → IsFirstProblem (IsLeft lts kept) problem → comes problem (passed w)
      → ComesByBlocks lts comes last kept (too_wide w)
