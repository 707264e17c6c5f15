-- The one answer for a system and a class.
use Rattle.std.specs.Prelude.{◌≡◌, ℕ, List, [], None, All}
use Rattle.rg_theory.specs.declared.Arc.{Arc}
use Rattle.rg_theory.specs.System.{System, labels, IsAllReachable, IsForkFree, IsLeastUnreachable, IsLeastFork}
use Rattle.rg_theory.specs.Net.{Place}
use Rattle.rg_theory.specs.declared.Class.{Class}
use Rattle.rg_theory.specs.Class.{InClass, NoNet}
use Rattle.rg_theory.specs.Region.{IsRegionIn}
use Rattle.rg_theory.specs.Problem.{IsProblem, SeparateAll, IsInseparable}
use Rattle.rg_theory.specs.Solves.{Solves}
use Rattle.rg_theory.specs.Tree.{IsTree}
use Rattle.rg_cert_meaning.specs.Refutes.{Reason, Reason.unreachable, Reason.fork, Reason.refuted}
use Rattle.rg_theory.specs.Pruned.{IsPruned}
use Rattle.rg_linear.specs.Cycle.{CycleBasis}
use Rattle.rg_case_folds.specs.Setting.{setting_at}
use Rattle.rg_case_folds.specs.Chords.{IsBasis}
use Rattle.rg_case_folds.specs.Shown.{Stage, Shown, CycleShown, ShownWide}
use Rattle.rg_outcome.specs.Solving.{ProblemComes}
use Rattle.rg_outcome.specs.Coming.{Separation, Separation.places, Separation.unsolvable as of_problem, Separation.too_wide as of_term, ComesFrom}

-- the places of a net, the reason of a certificate, or the term that is shown
pub data Answer : Type 0 where
  net : List Place → Answer
  unsolvable : Reason → Answer
  too_wide : Shown → Answer

-- what the problems come to is the answer, but for the places that are left out of the net
abbrev pub Gives : System → Separation → Answer → Type 0
Gives lts (places kept) (net left) = IsPruned lts kept left
Gives lts (of_problem problem trees) (unsolvable reason) = reason ≡ refuted problem trees
Gives lts (of_term w) (too_wide w') = w ≡ w'
Gives lts _ _ = ⊥

-- what a search for places comes to that begins with places: the term out of range of the walk over the cycle equations, else what the
-- problems come to over the basis with which that walk ends
pub data SearchedFrom (lts : System) (class : Class) (kept : List Place) : Separation → Type 0 where
  a_cycle : (w : Shown) → w.stage ≡ Stage.cycle → CycleShown lts w → SearchedFrom lts class kept (of_term w)
  all_problems : (arcs : List Arc) (basis : CycleBasis) (o : Separation) → IsTree lts arcs → IsBasis lts arcs basis
      → ComesFrom lts (ProblemComes (setting_at lts arcs basis class)) None kept o → SearchedFrom lts class kept o

-- the same that begins without a place
abbrev pub Searched : System → Class → Separation → Type 0
Searched lts class o = SearchedFrom lts class [] o

-- the answer for a system and a class: the least unreachable state, else the first fork, else what the search comes to
pub data Out (lts : System) (class : Class) : Answer → Type 0 where
  a_state : (s : ℕ) → IsLeastUnreachable lts s → Out lts class (unsolvable (unreachable s))
  a_fork : (s t s₁ s₂ : ℕ) → IsAllReachable lts → IsLeastFork lts s t s₁ s₂ → Out lts class (unsolvable (fork s t s₁ s₂))
  a_search : (o : Separation) (a : Answer) → IsAllReachable lts → IsForkFree lts → Searched lts class o → Gives lts o a → Out lts class a

-- ---- what they say of the system and the class

-- the places are regions of the class that separate all problems; no region of the class separates the problem; the term is fixed
abbrev pub IsSearchRight : System → Class → Separation → Type 0
IsSearchRight lts class (places kept) = All (IsRegionIn lts class) kept × SeparateAll kept lts
IsSearchRight lts class (of_problem problem trees) = IsProblem lts problem × IsInseparable lts class problem
IsSearchRight lts class (of_term w) = ShownWide lts class w

-- the places make a net of the class that solves the system; no net of the class does; the term is fixed
abbrev pub IsRight : System → Class → Answer → Type 0
IsRight lts class (net kept) = Solves (record { labels = labels lts; places = kept }) lts × InClass (record { labels = labels lts; places = kept }) class
IsRight lts class (unsolvable reason) = NoNet lts class
IsRight lts class (too_wide w) = ShownWide lts class w
