-- Inverses modulo powers of 2, with which exact quotients are made.
use Rattle.std.specs.Prelude.{◌≡◌, ℕ, ◌*◌, ◌/◌, ◌%◌, ◌^◌, ◌<◌}

-- x is the inverse of the number in its last j bits
abbrev pub IsInverseIn : ℕ → ℕ → ℕ → Type 0
IsInverseIn j number x = (number * x) % 2 ^ j ≡ 1

-- the size is an odd number times a power of 2, and the odd number has this inverse
pub record IsTakenApart (size twos inverse : ℕ) : Type 0 where
  pub parts : size ≡ size / 2 ^ twos * 2 ^ twos
  pub few : twos < 128
  pub some : 0 < size
  pub inverse_is : IsInverseIn 128 (size / 2 ^ twos) inverse
