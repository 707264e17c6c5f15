-- The tokens of a place at the states.
use Rattle.std.specs.Prelude.{◌≡◌, ℕ, ◌<◌, ◌≤◌, List, length, slice_index}
use Rattle.rg_theory.specs.System.{System, states, labels}
use Rattle.rg_theory.specs.Net.{Place}
use Rattle.rg_theory.specs.Region.{Region}
use Rattle.rg_integers.specs.Range.{greatest}

-- the place is a region with numbers of at most 2^127 - 1 at every state, and has one weight of each kind for each label
pub record IsNarrow (lts : System) (p : Place) : Type 0 where
  pub m : ℕ → ℕ
  pub region : Region lts p m
  pub narrow : (s : ℕ) → s < states lts → m s ≤ greatest
  pub pre : length p.pre ≡ labels lts
  pub post : length p.post ≡ labels lts

-- one number for each state: that of the place as a region
pub record AreTokens (lts : System) (p : Place) (tokens : List ℕ) : Type 0 where
  pub one_each : length tokens ≡ states lts
  pub each : (m : ℕ → ℕ) → Region lts p m → (s : ℕ) → s < states lts → slice_index tokens s ≡ m s
