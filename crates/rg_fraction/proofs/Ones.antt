-- The greatest common divisor with 1.
use Rattle.std.proofs.Common.{◌≡◌, ℕ, ap, refl, sym, subst, ◌∙◌, arith}
use Rattle.std.specs.Prelude.{◌%◌, ℤ, pos, ◌*ℤ◌, unsigned_abs, int_div}
use Rattle.std.specs.Int.{IsGcd, w128, cast_signed, cast_unsigned}
use Rattle.std.proofs.lemmas.Int.{ints}
use Rattle.std.proofs.lemmas.Nat.Gcd.{IsGcd-from_mod, IsGcd-from_zero}
use Rattle.rg_integers.specs.Range.{InRange}
use Rattle.rg_integers.specs.Divisor.{int_gcd}
use Rattle.rg_integers.proofs.Casts.{back}
use Rattle.rg_integers.proofs.Divisors.{gcd_of-only, exact}

-- 1 has no common factor with any number
pub one_is_reduced : (n : ℕ) → IsGcd n 1 1
one_is_reduced n = IsGcd-from_mod n 1 1 (IsGcd-from_zero 1 (n % 1) (omega arith))

gcd_with_one : (z : ℤ) → int_gcd z (pos 1) ≡ pos 1
gcd_with_one z = ap pos (sym (gcd_of-only (unsigned_abs z) 1 1 (one_is_reduced (unsigned_abs z))))

pub over_one : (z : ℤ) → int_div z (pos 1) ≡ z
over_one z = by (exact z (pos 1) (one_is_reduced (unsigned_abs z)).0)
  where
    by : int_div z (pos 1) *ℤ pos 1 ≡ z → int_div z (pos 1) ≡ z
    by e = omega (arith, ints)

-- the parts of z and of 1 without their common factor
pub first_part : (z : ℤ) → int_div z (int_gcd z (pos 1)) ≡ z
first_part z = subst (λ g. int_div z g ≡ z) (sym (gcd_with_one z)) (over_one z)

pub second_part : (z : ℤ) → int_div (pos 1) (int_gcd z (pos 1)) ≡ pos 1
second_part z = subst (λ g. int_div (pos 1) g ≡ pos 1) (sym (gcd_with_one z)) refl

pub times_gcd_with_one : (z n : ℤ) → n *ℤ int_gcd z (pos 1) ≡ n
times_gcd_with_one z n = subst (λ g. n *ℤ g ≡ n) (sym (gcd_with_one z)) (by n)
  where
    by : (n : ℤ) → n *ℤ pos 1 ≡ n
    by n = omega (arith, ints)

-- a number whose bits are those of 1
pub is_one : (b : ℤ) → InRange b → cast_unsigned w128 b ≡ 1 → b ≡ pos 1
is_one b h e = sym (back b h) ∙ ap (cast_signed w128) e
