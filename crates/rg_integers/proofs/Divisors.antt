-- Divisors and exact quotients: Euclid's steps give the greatest common divisor, of two numbers and of many.
use Rattle.std.proofs.Common.{◌≡◌, ◌≢◌, ⊎_elim, ℕ, zero, suc, ◌*◌, ◌%◌, ◌<◌, ◌==◌, Bool, true, false, cond, refl, ap, subst, sym, ◌∙◌, arith}
use Rattle.std.specs.Prelude.{ℤ, pos, negsuc, neg_ℤ, ◌+ℤ◌, ◌*ℤ◌, ◌<ℤ◌, unsigned_abs, int_div, int_rem}
use Rattle.std.specs.Int.{IsGcd, ◌∣◌}
use Rattle.std.proofs.lemmas.Int.{ints, quot-rem, unsigned_abs-mul}
use Rattle.std.proofs.lemmas.Bool.{cases_lt}
use Rattle.std.proofs.lemmas.Bool.Decides.{nat_tests}
use Rattle.std.proofs.lemmas.Nat.Gcd.{mod-eq-zero_of_dvd, IsGcd-from_zero, IsGcd-from_mod, same_from_IsGcd, dvd_trans, dvd-zero, dvd_antisymm}
use Rattle.std.proofs.Math.Nat.{pos_of_dvd_of_pos, dvd_of_mul-dvd-mul_right, mul-dvd-mul_right, dvd-mul_right, one-dvd}
use Rattle.rg_integers.specs.Divisor.{gcd_steps, gcd_of, int_gcd, IsGcdBelow}
use Rattle.rg_integers.proofs.Signs.{abs_positive, abs-negated}

-- ---- exact quotients

pub divides_by : (a b c : ℕ) → a ≡ b * c → b ∣ a
divides_by a b c e = subst (λ n. b ∣ n) (sym e) (dvd-mul_right b c)

rem_is_zero : (z d : ℤ) → unsigned_abs d ∣ unsigned_abs z → int_rem z d ≡ pos 0
rem_is_zero (pos a) d h = ap pos (mod-eq-zero_of_dvd _ h)
rem_is_zero (negsuc a) d h = ap (λ (n : ℕ). neg_ℤ (pos n)) (mod-eq-zero_of_dvd _ h)

-- division by a divisor loses nothing
pub exact : (z d : ℤ) → unsigned_abs d ∣ unsigned_abs z → int_div z d *ℤ d ≡ z
exact z d h =
    let e = quot-rem z d in
    let f = rem_is_zero z d h in
    let e' : (int_div z d *ℤ d) +ℤ pos 0 ≡ z = subst (λ (r : ℤ). (int_div z d *ℤ d) +ℤ r ≡ z) f e in
    omega (arith, ints)

pub exact_size : (z d : ℤ) → unsigned_abs d ∣ unsigned_abs z → unsigned_abs (int_div z d) * unsigned_abs d ≡ unsigned_abs z
exact_size z d h = sym (unsigned_abs-mul (int_div z d) d) ∙ ap unsigned_abs (exact z d h)

-- ---- two numbers

pub IsGcd-positive : (a b g : ℕ) → IsGcd a b g → 0 < b → 0 < g
IsGcd-positive a b g h p = pos_of_dvd_of_pos h.1 p

-- the quotients by the greatest common divisor have no common divisor but 1
pub IsGcd-parts : (a b g x y : ℕ) → IsGcd a b g → 0 < g → x * g ≡ a → y * g ≡ b → IsGcd x y 1
IsGcd-parts a b g x y h p e f = (
  one-dvd x,
  one-dvd y,
  λ d s t.
      dvd_of_mul-dvd-mul_right d p
      (subst (λ (n : ℕ). (d * g) ∣ n) (sym (one-times g))
      (h.2 (d * g) (subst (λ (n : ℕ). (d * g) ∣ n) e (mul-dvd-mul_right _ s g)) (subst (λ (n : ℕ). (d * g) ∣ n) f (mul-dvd-mul_right _ t g)))),
)
  where
    one-times : (g : ℕ) → 1 * g ≡ g
    one-times g = omega arith

gcd_steps-is : (k a b : ℕ) → b < k → IsGcd a b (gcd_steps k a b)
gcd_steps-is zero a b h = absurd (none b h)
  where
    none : (b : ℕ) → b < 0 → ⊥
    none b h = omega arith
gcd_steps-is (suc k) a b h = step (b == 0) refl (gcd_steps-is k b (a % b))
  where
    is_zero : (b : ℕ) → (b == 0) ≡ true → b ≡ 0
    is_zero b e = grind (arith, nat_tests)

    smaller : (a b k : ℕ) → b < suc k → (b == 0) ≡ false → a % b < k
    smaller a b k h e = let ne : 0 < b = grind (arith, nat_tests) in omega arith

    step : (t : Bool) → (b == 0) ≡ t → (a % b < k → IsGcd b (a % b) (gcd_steps k b (a % b))) → IsGcd a b (cond t a (gcd_steps k b (a % b)))
    step true e r = IsGcd-from_zero a b (is_zero b e)
    step false e r = IsGcd-from_mod a b _ (r (smaller a b k h e))

pub gcd_of-is : (a b : ℕ) → IsGcd a b (gcd_of a b)
unfolding gcd_of
gcd_of-is a b = gcd_steps-is (suc b) a b (below b)
  where
    below : (b : ℕ) → b < suc b
    below b = omega arith

pub gcd_of-only : (a b g : ℕ) → IsGcd a b g → g ≡ gcd_of a b
gcd_of-only a b g h = same_from_IsGcd a b g (gcd_of a b) h (gcd_of-is a b)

-- ---- whole numbers

-- the negatives have the same divisors
pub IsGcd-neg : (a b : ℤ) (g : ℕ) → IsGcd (unsigned_abs a) (unsigned_abs b) g → IsGcd (unsigned_abs (neg_ℤ a)) (unsigned_abs (neg_ℤ b)) g
IsGcd-neg a b g h = rw (abs-negated a, abs-negated b) h

pub IsGcd-neg_first : (a : ℤ) (n g : ℕ) → IsGcd (unsigned_abs a) n g → IsGcd (unsigned_abs (neg_ℤ a)) n g
IsGcd-neg_first a n g h = rw (abs-negated a) h

pub int_gcd_positive : (a b : ℤ) → b ≢ pos 0 → pos 0 <ℤ int_gcd a b
int_gcd_positive a b ne =
    above (gcd_of (unsigned_abs a) (unsigned_abs b))
    (IsGcd-positive _ _ _ (gcd_of-is (unsigned_abs a) (unsigned_abs b)) (abs_positive b ne))
  where
    above : (n : ℕ) → 0 < n → pos 0 <ℤ pos n
    above n h = omega (arith, ints)

-- the quotients of n and d by g
pub parts_reduced : (n d g top bottom : ℤ) → IsGcd (unsigned_abs n) (unsigned_abs d) (unsigned_abs g) → g ≢ pos 0
    → top *ℤ g ≡ n → bottom *ℤ g ≡ d → IsGcd (unsigned_abs top) (unsigned_abs bottom) 1
parts_reduced n d g top bottom h ne e f = IsGcd-parts _ _ _ _ _ h (abs_positive g ne) (sizes top g n e) (sizes bottom g d f)
  where
    sizes : (x g z : ℤ) → x *ℤ g ≡ z → unsigned_abs x * unsigned_abs g ≡ unsigned_abs z
    sizes x g z e = sym (unsigned_abs-mul x g) ∙ ap unsigned_abs e

-- ---- many numbers

one_more : (n : ℕ) (f : ℕ → ℕ) (g k : ℕ) → IsGcdBelow n f g → IsGcd g (f n) k → IsGcdBelow (suc n) f k
one_more n f g k before h = record {
  divides = λ m lt. here m (λ below. dvd_trans k h.0 (before.divides m below)) lt;
  greatest = λ d each. h.2 d (before.greatest d (λ m lt. each m (omega arith))) (each n (omega arith));
}
  where
    here : (m : ℕ) → (m < n → k ∣ f m) → m < suc n → k ∣ f m
    here m below lt = ⊎_elim (λ l. below l) (λ r. (let e : n ≡ m = omega arith in subst (λ i. k ∣ f i) e h.1)) (cases_lt m n)

pub gcd_below : (n : ℕ) (f : ℕ → ℕ) → (g : ℕ) × IsGcdBelow n f g
gcd_below zero f = (0, record { divides = λ m lt. absurd (omega arith); greatest = λ d each. dvd-zero d })
gcd_below (suc n) f = let (g, before) = gcd_below n f in (gcd_of g (f n), one_more n f g (gcd_of g (f n)) before (gcd_of-is g (f n)))

pub gcd_below_is_one : (n : ℕ) (f : ℕ → ℕ) (g h : ℕ) → IsGcdBelow n f g → IsGcdBelow n f h → g ≡ h
gcd_below_is_one n f g h a b = dvd_antisymm (b.greatest g a.divides) (a.greatest h b.divides)
