-- Whether two lists together give the states different numbers.
use Rattle.std.specs.Prelude.{◌≡◌, ◌≢◌, ℕ, ◌<◌, List, length, slice_index}

-- no two states have both numbers the same
abbrev pub AllDiffer : List ℕ → List ℕ → Type 0
AllDiffer a b = (s s' : ℕ) → s < s' → s' < length a → slice_index a s ≡ slice_index a s' → slice_index b s ≢ slice_index b s'

-- two states have both numbers the same
pub record SomeAgree (a b : List ℕ) : Type 0 where
  pub s : ℕ
  pub s' : ℕ
  pub order : s < s'
  pub within : s' < length a
  pub first : slice_index a s ≡ slice_index a s'
  pub second : slice_index b s ≡ slice_index b s'
