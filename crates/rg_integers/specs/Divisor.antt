-- Greatest common divisors. Divisibility defines them: `IsGcd` of std for two numbers.
use Rattle.std.specs.Prelude.{ℕ, zero, suc, ◌%◌, ◌<◌, ◌==◌, cond, ℤ, pos, unsigned_abs}
use Rattle.std.specs.Int.{◌∣◌}

-- Euclid's steps, at most so many
abbrev pub gcd_steps : ℕ → ℕ → ℕ → ℕ
gcd_steps zero a b = a
gcd_steps (suc k) a b = cond (b == 0) a (gcd_steps k b (a % b))

-- the greatest common divisor, 0 for two zeros; the law `gcd_is_greatest` says that it is the one meant
unfoldable pub gcd_of : ℕ → ℕ → ℕ
gcd_of a b = gcd_steps (suc b) a b

-- the greatest common divisor of two whole numbers, never negative
abbrev pub int_gcd : ℤ → ℤ → ℤ
int_gcd a b = pos (gcd_of (unsigned_abs a) (unsigned_abs b))

-- g divides f 0, .., f (n - 1), and each number that divides them all divides g
pub record IsGcdBelow (n : ℕ) (f : ℕ → ℕ) (g : ℕ) : Type 0 where
  pub divides : (k : ℕ) → k < n → g ∣ f k
  pub greatest : (d : ℕ) → ((k : ℕ) → k < n → d ∣ f k) → d ∣ g
