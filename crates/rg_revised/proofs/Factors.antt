-- The common factor of numbers, one number after the other, and quotients by it.
use Rattle.std.proofs.Common.{◌≡◌, ℕ, suc, ◌*◌, ◌<◌, ◌≤◌, ◌^◌, below_more, subst, arith, le_refl}
use Rattle.std.specs.Prelude.{ℤ, pos, ◌<ℤ◌, unsigned_abs, int_div}
use Rattle.std.specs.Int.{◌∣◌, IsGcd}
use Rattle.std.proofs.lemmas.Int.{ints}
use Rattle.std.proofs.lemmas.Nat.Gcd.{dvd_trans, dvd_refl}
use Rattle.std.proofs.Math.Nat.{mul-le-mul}
use Rattle.rg_integers.specs.Range.{InRange}
use Rattle.rg_integers.specs.Divisor.{IsGcdBelow}
use Rattle.rg_integers.proofs.Divisors.{exact_size}

pub first_factor : (f : ℕ → ℕ) → IsGcdBelow 1 f (f 0)
first_factor f = record {
  divides = λ k lt. (let e : 0 ≡ k = omega arith in subst (λ n. f 0 ∣ f n) e (dvd_refl (f 0)));
  greatest = λ d each. each 0 (omega arith);
}

pub next_factor : (n : ℕ) (f : ℕ → ℕ) (g k : ℕ) → IsGcdBelow n f g → IsGcd (f n) g k → IsGcdBelow (suc n) f k
next_factor n f g k is h = record {
  divides = λ m lt. below_more (λ j. k ∣ f j) n (λ j less. dvd_trans k h.1 (is.divides j less)) h.0 m (omega arith);
  greatest = λ d each. h.2 d (each n (omega arith)) (is.greatest d (λ j less. each j (omega arith)));
}

pub quotient_in_range : (z d : ℤ) → unsigned_abs d ∣ unsigned_abs z → pos 0 <ℤ d → InRange z → InRange (int_div z d)
quotient_in_range z d divides positive h = smaller (unsigned_abs (int_div z d)) (unsigned_abs d) (unsigned_abs z) (some d positive) (exact_size z d divides) h
  where
    some : (x : ℤ) → pos 0 <ℤ x → 1 ≤ unsigned_abs x
    some x h = omega (arith, ints)

    smaller : (a b c : ℕ) → 1 ≤ b → a * b ≡ c → c < 2 ^ 127 → a < 2 ^ 127
    smaller a b c one e lt = let m = mul-le-mul (le_refl a) one in omega arith
