-- The range of the numbers with which relations and places are computed.
use Rattle.std.specs.Prelude.{ℕ, ◌-◌, ◌^◌, ◌<◌, ℤ, ◌-ℤ◌, ◌*ℤ◌, unsigned_abs}

-- the greatest number in range
abbrev pub greatest : ℕ
greatest = 2 ^ 127 - 1

-- from -(2^127 - 1) to 2^127 - 1
abbrev pub InRange : ℤ → Type 0
InRange z = unsigned_abs z < 2 ^ 127

-- a*b, c*d and a*b - c*d are in range
pub record Fits (a b c d : ℤ) : Type 0 where
  pub left : InRange (a *ℤ b)
  pub right : InRange (c *ℤ d)
  pub difference : InRange ((a *ℤ b) -ℤ (c *ℤ d))
