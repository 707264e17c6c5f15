-- The first place with more tokens than a bound allows. Contracts of the crate's private functions cite it.
use Rattle.std.specs.Prelude.{◌≡◌, ℕ, ◌<◌, ◌≤◌, List, Option, None, Some, IfSome, slice_get}
use Rattle.std.specs.Option.{IsSomeAnd}
use Rattle.rg_theory.specs.Net.{Marking, tokens}

-- no marking has more tokens on place i than the bound allows
abbrev pub IsWithinBound : List Marking → Option ℕ → ℕ → Type 0
IsWithinBound markings bound i = (s : ℕ) (m : Marking) → slice_get markings s ≡ Some m → IfSome bound (λ k. tokens m i ≤ k)

-- place i, one of so many, has more in marking s, in no earlier one, and no place before has more in any
pub record IsOverAt (markings : List Marking) (bound : Option ℕ) (places i s : ℕ) : Type 0 where
  pub within : i < places
  pub shown : (m : Marking) × (slice_get markings s ≡ Some m) × IsSomeAnd bound (λ k. k < tokens m i)
  pub first : (r : ℕ) (m : Marking) → r < s → slice_get markings r ≡ Some m → IfSome bound (λ k. tokens m i ≤ k)
  pub before : (j : ℕ) → j < i → IsWithinBound markings bound j

-- the first of so many places that has more, and the first marking that shows it, or none
abbrev pub IsFirstOver : List Marking → Option ℕ → ℕ → Option (ℕ × ℕ) → Type 0
IsFirstOver markings bound places None = (j : ℕ) → j < places → IsWithinBound markings bound j
IsFirstOver markings bound places (Some f) = IsOverAt markings bound places f.0 f.1
