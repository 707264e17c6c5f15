-- The greatest common divisor of sizes, cast to a signed number, is that of the numbers.
use Rattle.std.proofs.Common.{◌≡◌, ◌≢◌, ℕ, ◌<◌, ◌^◌, ap, subst, ◌∙◌}
use Rattle.std.specs.Prelude.{ℤ, pos, ◌<ℤ◌, unsigned_abs}
use Rattle.std.specs.Int.{w128, cast_signed, IsGcd}
use Rattle.rg_integers.specs.Divisor.{int_gcd}
use Rattle.rg_integers.proofs.Casts.{cast_size}
use Rattle.rg_integers.proofs.Divisors.{gcd_of-only, int_gcd_positive}

pub cast_is_gcd : (a b : ℤ) (m n g : ℕ) → m ≡ unsigned_abs a → n ≡ unsigned_abs b → IsGcd m n g → g < 2 ^ 127
    → IsGcd (unsigned_abs a) (unsigned_abs b) (unsigned_abs (cast_signed w128 g))
cast_is_gcd a b m n g p q h small = rw (cast_size g small, ← p, ← q) h

pub cast_is_int_gcd : (a b : ℤ) (m n g : ℕ) → m ≡ unsigned_abs a → n ≡ unsigned_abs b → IsGcd m n g → g < 2 ^ 127 → cast_signed w128 g ≡ int_gcd a b
cast_is_int_gcd a b m n g p q h small =
    cast_size g small
    ∙ ap pos (gcd_of-only (unsigned_abs a) (unsigned_abs b) g (subst (λ (x : ℕ). IsGcd x (unsigned_abs b) g) p (subst (λ (x : ℕ). IsGcd m x g) q h)))

pub cast_is_positive : (a b : ℤ) (m n g : ℕ) → m ≡ unsigned_abs a → n ≡ unsigned_abs b → IsGcd m n g → g < 2 ^ 127
    → b ≢ pos 0 → pos 0 <ℤ cast_signed w128 g
cast_is_positive a b m n g p q h small ne = rw (cast_is_int_gcd a b m n g p q h small) (int_gcd_positive a b ne)
