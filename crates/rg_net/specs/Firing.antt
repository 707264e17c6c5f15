-- Firings whose numbers stay in range.
use Rattle.std.specs.Prelude.{ℕ, ◌+◌, ◌-◌, ◌<◌, ◌≤◌}
use Rattle.rg_integers.specs.Range.{greatest}
use Rattle.rg_theory.specs.Net.{Place, Net, Marking, pre_weight, post_weight, tokens, IsPlaceAt}

-- what a firing of label t leaves of so many tokens on the place
abbrev pub left_of : ℕ → Place → ℕ → ℕ
left_of n p t = n - pre_weight p t + post_weight p t

-- what it leaves on place number i
abbrev pub left_on : Marking → ℕ → Place → ℕ → ℕ
left_on m i p t = left_of (tokens m i) p t

-- no place gets more than 2^127 - 1
abbrev pub StaysInRange : Net → Marking → ℕ → Type 0
StaysInRange net m t = (i : ℕ) (p : Place) → IsPlaceAt net i p → left_on m i p t ≤ greatest

-- place number i is the first that gets more than 2^127 - 1
pub record IsFirstPassed (net : Net) (m : Marking) (t i : ℕ) : Type 0 where
  pub place : Place
  pub at : IsPlaceAt net i place
  pub passes : greatest < left_on m i place t
  pub first : (j : ℕ) (q : Place) → j < i → IsPlaceAt net j q → left_on m j q t ≤ greatest
