-- What the problems of a block come to, and what comes of it.
use Rattle.std.specs.Prelude.{◌≡◌, List, [], ◌∷◌, ◌++◌, All, map, Option, None, Some, IfSome}
use Rattle.rg_theory.specs.System.{System}
use Rattle.rg_theory.specs.Net.{Place}
use Rattle.rg_theory.specs.declared.Problem.{Problem}
use Rattle.rg_theory.specs.Problem.{IsProblem}
use Rattle.rg_net.specs.Shown.{shown_place}
use Rattle.rg_marks.specs.Tokens.{IsNarrow, AreTokens}
use Rattle.rg_marks.specs.declared.region_place.RegionPlace.{RegionPlace}
use Rattle.rg_cert_meaning.specs.Refutes.{Tree}
use Rattle.rg_case_folds.specs.Shown.{Shown}
use Rattle.rg_outcome.specs.Solving.{Solved, Solved.placed, Solved.refuted, Solved.passed}
use Rattle.rg_outcome.specs.Blocks.{AfterBlock.kept_places, AfterBlock.refuted_one, TakenOver}
use Rattle.rg_blocks.specs.declared.solving.ProblemOutcome.{ProblemOutcome}
use Rattle.rg_blocks.specs.declared.solving.ProblemOutcome.TheVariants as outcome
use Rattle.rg_blocks.specs.declared.solving.WaitingOutcome.{WaitingOutcome}
use Rattle.rg_blocks.specs.declared.solving.WaitingOutcome.TheVariants as waiting
use Rattle.rg_blocks.specs.declared.solving.SolvedProblem.{SolvedProblem}

-- the problem comes to this; of a place the fact holds that is said of all
abbrev pub IsOutcome : (Problem → Solved → Type 0) → (RegionPlace → Type 0) → Problem → ProblemOutcome → Type 0
IsOutcome comes makes problem (outcome.Place r) = comes problem (placed (shown_place r.place)) × makes r
IsOutcome comes makes problem outcome.Refuted = (trees : List Tree) × comes problem (refuted trees)
IsOutcome comes makes problem outcome.TooWide = (w : Shown) × comes problem (passed w)

-- the place is one that is made, of which the tokens are let go
pub record IsMade (makes : RegionPlace → Type 0) (p : Place) : Type 0 where
  pub r : RegionPlace
  pub shown : shown_place r.place ≡ p
  pub made : makes r

-- the same of an outcome that waits
abbrev pub IsWaiting : (Problem → Solved → Type 0) → (RegionPlace → Type 0) → Problem → WaitingOutcome → Type 0
IsWaiting comes makes problem (waiting.Place p) = comes problem (placed p) × IsMade makes p
IsWaiting comes makes problem waiting.Refuted = (trees : List Tree) × comes problem (refuted trees)
IsWaiting comes makes problem waiting.TooWide = (w : Shown) × comes problem (passed w)

-- where it is solved, it comes to what is said
abbrev pub IsSolvedBy : (Problem → Solved → Type 0) → (RegionPlace → Type 0) → SolvedProblem → Type 0
IsSolvedBy comes makes s = IfSome s.outcome (IsWaiting comes makes s.problem)

abbrev pub problems_of : List SolvedProblem → List Problem
problems_of solved = map (λ s. s.problem) solved

-- each place that is made may be kept, and also without its tokens
pub record AreKeepable (makes may_keep : RegionPlace → Type 0) (may_keep_compact : Place → Type 0) : Type 0 where
  pub each : (r : RegionPlace) → makes r → may_keep r
  pub compact : (r : RegionPlace) → makes r → may_keep_compact (shown_place r.place)

-- each place that is made is a region whose tokens come with it, so that what it separates may be noted
pub record AreNotable (lts : System) (makes : RegionPlace → Type 0) : Type 0 where
  pub each : (r : RegionPlace) → makes r → IsNarrow lts (shown_place r.place) × AreTokens lts (shown_place r.place) r.tokens.items

-- what parts solve: problems of the system for which the solving may be asked, where each place that is made may be noted
abbrev pub MayBeSolved : System → (Problem → Type 0) → (RegionPlace → Type 0) → List Problem → Type 0
MayBeSolved lts asks makes problems = All (IsProblem lts) problems × All asks problems × AreNotable lts makes

-- after the problems these places are kept, or this problem was refuted
abbrev pub IsTakenOver : System → (Problem → Solved → Type 0) → List Place → List Problem → List Place → Option Problem → Type 0
IsTakenOver lts comes before problems after None = TakenOver lts comes before problems (kept_places after)
IsTakenOver lts comes before problems after (Some q) = (trees : List Tree) × TakenOver lts comes before problems (refuted_one q trees)

-- the places with that of a result, if it has one
abbrev pub with_place : List Place → Solved → List Place
with_place kept (placed p) = kept ++ p ∷ []
with_place kept (refuted trees) = kept
with_place kept (passed w) = kept

-- a result of the problem, whose place is kept if it has one
pub record KeepsItsPlace (comes : Problem → Solved → Type 0) (before : List Place) (problem : Problem) (after : List Place) : Type 0 where
  pub result : Solved
  pub comes_to : comes problem result
  pub places : after ≡ with_place before result
