-- Rational numbers as two whole numbers, without a type of their own.
use Rattle.std.specs.Prelude.{◌≡◌, ℤ, pos, ◌*ℤ◌, ◌<ℤ◌, unsigned_abs}
use Rattle.std.specs.Int.{IsGcd}

-- n over d is the same rational number as m over e, for d and e that are not 0
abbrev pub SameValue : ℤ → ℤ → ℤ → ℤ → Type 0
SameValue n d m e = n *ℤ e ≡ m *ℤ d

-- p over q is the value of n over d with no common factor and a positive denominator
pub record IsReducedForm (p q n d : ℤ) : Type 0 where
  pub positive : pos 0 <ℤ q
  pub reduced : IsGcd (unsigned_abs p) (unsigned_abs q) 1
  pub value : SameValue p q n d
