-- Signed numbers by their sizes.
use Rattle.std.proofs.Common.{◌≡◌, ℕ, suc, ◌*◌, ◌<◌, ◌≤◌, ◌^◌, true, ap, ◌∙◌, arith}
use Rattle.std.specs.Prelude.{ℤ, pos, negsuc, neg_ℤ, ◌-ℤ◌, ◌*ℤ◌, unsigned_abs, int_lt}
use Rattle.std.proofs.lemmas.Int.{ints}
use Rattle.std.proofs.Math.Nat.{mul-le-mul_left}
use Rattle.rg_integers.specs.Range.{InRange}
use Rattle.rg_integers.proofs.Ring.{neg-mul}

-- a quotient is no greater than the number
pub share_below : (n s m : ℕ) → n * s ≡ m → 0 < s → m < 2 ^ 127 → n < 2 ^ 127
share_below n s m e some h = by (n * 1) (n * s) (mul-le-mul_left n some) refl_one
  where
    refl_one : n * 1 ≡ n
    refl_one = omega arith

    by : (x y : ℕ) → x ≤ n * s → x ≡ n → n < 2 ^ 127
    by x y l f = omega arith

-- the negative of a quotient of a negative number's size
pub negative_exact : (z : ℤ) (n s : ℕ) → int_lt z (pos 0) ≡ true → n * s ≡ unsigned_abs z → (pos 0 -ℤ pos n) *ℤ pos s ≡ z
negative_exact (pos m) n s h e = absurd (never m h)
  where
    never : (m : ℕ) → int_lt (pos m) (pos 0) ≡ true → ⊥
    never m h = omega (arith, ints)
negative_exact (negsuc m) n s h e = ap (λ x. x *ℤ pos s) (turned n) ∙ neg-mul (pos n) (pos s) ∙ size (n * s) e
  where
    turned : (n : ℕ) → pos 0 -ℤ pos n ≡ neg_ℤ (pos n)
    turned n = omega (arith, ints)

    size : (k : ℕ) → k ≡ suc m → neg_ℤ (pos k) ≡ negsuc m
    size k e = omega (arith, ints)

pub less_in_range : (n : ℕ) → n < 2 ^ 127 → InRange (pos 0 -ℤ pos n)
less_in_range n h = omega (arith, ints)
