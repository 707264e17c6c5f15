-- A short list of the indices at which the numbers of a row aren't 0.
use Rattle.std.specs.Prelude.{◌≡◌, ◌≢◌, ℕ, ◌<◌, ◌≤◌, List, length, slice_index, ℤ, pos}
use Rattle.rg_integers.specs.Sum.{number_at}

-- the first so many indices are in order, and each index at which a number isn't 0 is among them
pub record AreFew (numbers : List ℤ) (indices : List ℕ) (count : ℕ) : Type 0 where
  pub room : count ≤ length indices
  pub inside : (k : ℕ) → k < count → slice_index indices k < length numbers
  pub ordered : (j k : ℕ) → j < k → k < count → slice_index indices j < slice_index indices k
  pub all : (n : ℕ) → n < length numbers → number_at numbers n ≢ pos 0 → (k : ℕ) × (k < count) × (slice_index indices k ≡ n)
