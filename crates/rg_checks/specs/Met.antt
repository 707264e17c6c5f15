-- How the states that can be reached are reached.
use Rattle.std.specs.Prelude.{◌≡◌, ◌≢◌, ℕ, ◌<◌, List, Option, None, Some, length, slice_get, Contains, ◌↔◌}
use Rattle.rg_theory.specs.System.{System, states, IsReachable}
use Rattle.rg_checks.specs.declared.walks.Step.{Step}
use Rattle.rg_checks.specs.Closure.{IsEntered}

-- the entries of the states: None for the initial state, and else exactly where the state can't be reached; any other entry is the
-- last arc of a walk whose earlier arcs are the entries of the states before
pub record AreSteps (lts : System) (steps : List (Option Step)) : Type 0 where
  pub long : length steps ≡ states lts
  pub initial : slice_get steps lts.initial ≡ Some None
  pub none : (s : ℕ) → s < states lts → s ≢ lts.initial → (slice_get steps s ≡ Some None) ↔ (¬ IsReachable lts s)
  pub walk : (s : ℕ) (step : Step) → slice_get steps s ≡ Some (Some step) → IsEntered (Contains lts.arcs) lts.initial steps s
