-- The states that the arcs of a graph reach, and a walk that finds them.
use Rattle.std.specs.Prelude.{◌≡◌, ◌≤◌, ◌⊎◌, ℕ, ◌<◌, ◌+◌, ◌==◌, ◌||◌, Bool, false, Option, None, Some, is_some, is_none}
use Rattle.std.specs.Prelude.{List, count_by, length, slice_get, slice_index_or, All, AllPairs, Contains, IsTrue}
use Rattle.rg_theory.specs.declared.Arc.{Arc}
use Rattle.rg_theory.specs.System.{arc}
use Rattle.rg_checks.specs.declared.graph.Graph.{Graph}
use Rattle.rg_checks.specs.declared.walks.Step.{Step}

-- the numbers of the arc are those of states and of a label
abbrev pub IsArcOf : Graph → Arc → Type 0
IsArcOf g a = (a.from < g.states) × (a.label < length g.labels.now) × (a.to < g.states)

-- the arcs are in order, and every number is that of a state or a label
pub record IsGraph (g : Graph) : Type 0 where
  pub order : AllPairs (λ (a b : Arc). a.from ≤ b.from) g.arcs.now
  pub in_range : All (IsArcOf g) g.arcs.now
  pub initial : g.initial < g.states

-- the graph has the arc, and arcs of its label are followed
abbrev pub follows : Graph → Arc → Type 0
follows g a = Contains g.arcs.now a × IsTrue (slice_index_or g.labels.now a.label false)

-- a walk from the initial state to a state, each of whose arcs is the entry of the state that it leads to
pub data IsEntered (P : Arc → Type 0) (initial : ℕ) (steps : List (Option Step)) : ℕ → Type 0 where
  begin : IsEntered P initial steps initial
  then : (s : ℕ) (step : Step) → IsEntered P initial steps step.before → slice_get steps s ≡ Some (Some step) → P (arc step.before step.label s)
      → IsEntered P initial steps s

-- the state is the initial one, or a step leads to it
abbrev pub is_met : ℕ → List (Option Step) → ℕ → Bool
is_met initial steps s = (s == initial) || is_some (slice_index_or steps s None)

-- of n states exactly those that the arcs reach from the initial one are met, each by a walk
pub record IsClosure (P : Arc → Type 0) (n start : ℕ) (steps : List (Option Step)) : Type 0 where
  pub long : length steps ≡ n
  pub initial : slice_index_or steps start None ≡ None
  pub entered : (s : ℕ) → IsTrue (is_met start steps s) → IsEntered P start steps s
  pub closed : (a : Arc) → P a → IsTrue (is_met start steps a.from) → IsTrue (is_met start steps a.to)

-- what the walk keeps to
pub record IsWalk (P : Arc → Type 0) (n start : ℕ) (steps : List (Option Step)) (waiting : List ℕ) : Type 0 where
  pub long : length steps ≡ n
  pub initial : slice_index_or steps start None ≡ None
  pub waits : (s : ℕ) → Contains waiting s → IsTrue (is_met start steps s)
  pub entered : (s : ℕ) → IsTrue (is_met start steps s) → IsEntered P start steps s

-- what is met stays met, what waits goes on waiting, what is met anew waits, and as many states as before wait or have no step
pub record GoesOn (initial : ℕ) (steps : List (Option Step)) (waiting : List ℕ) (steps' : List (Option Step)) (waiting' : List ℕ) : Type 0 where
  pub met : (s : ℕ) → IsTrue (is_met initial steps s) → IsTrue (is_met initial steps' s)
  pub waits : (s : ℕ) → Contains waiting s → Contains waiting' s
  pub anew : (s : ℕ) → IsTrue (is_met initial steps' s) → IsTrue (is_met initial steps s) ⊎ Contains waiting' s
  pub left : count_by is_none steps' + length waiting' ≡ count_by is_none steps + length waiting
