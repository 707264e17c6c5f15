-- What each system in memory keeps to: numbers in range, names that differ, arcs in order, and the limits.
use Rattle.std.specs.Prelude.{◌≢◌, ℕ, ◌≤◌, ◌==◌, nat_lt, ◌&&◌, ◌||◌, Bool, List, length, All, AllPairs}
use Rattle.rg_text.specs.Byte.{IsName}
use Rattle.rg_theory.specs.declared.Arc.{Arc}
use Rattle.rg_theory.specs.Limits.{most_states, most_labels, most_arcs}
use Rattle.rg_theory.specs.System.{System, states, labels, IsInRange, IsArcBefore}

-- each is a name, and no two are the same
pub record AreNames (names : List (List ℕ)) : Type 0 where
  pub each : All IsName names
  pub differ : AllPairs (λ a b. a ≢ b) names

-- the system's numbers are in range, its names differ, its arcs are in order, each once, and no limit is passed
pub record IsWellFormed (lts : System) : Type 0 where
  pub in_range : IsInRange lts
  pub state_names : AreNames lts.state_names
  pub label_names : AreNames lts.label_names
  pub arc_order : AllPairs IsArcBefore lts.arcs
  pub few_states : states lts ≤ most_states
  pub few_labels : labels lts ≤ most_labels
  pub few_arcs : length lts.arcs ≤ most_arcs

-- the system with these names, arcs and initial state
abbrev pub system_of : List (List ℕ) → List (List ℕ) → List Arc → ℕ → System
system_of state_names label_names arcs initial =
    record { state_names = state_names; label_names = label_names; arcs = arcs; initial = initial }

-- the arc leaves an earlier state than s, or s by an earlier label than t
abbrev pub is_earlier : ℕ → ℕ → Arc → Bool
is_earlier s t a = nat_lt a.from s || ((a.from == s) && nat_lt a.label t)
