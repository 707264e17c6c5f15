-- The order of n/d and m/e, by Euclid's steps.
use Rattle.std.proofs.Common.{◌≡◌, ◌≢◌, ℕ, zero, suc, ◌+◌, ◌*◌, ◌/◌, ◌%◌, ◌<◌, ◌≤◌, ◌⊎◌, ⊎_elim, ap₂, subst, sym, ◌∙◌, refl, arith, Less, Equal, Greater, false}
use Rattle.std.specs.Prelude.{ℤ, pos, ◌*ℤ◌, ◌<ℤ◌, ◌≤ℤ◌, int_lt, unsigned_abs}
use Rattle.std.specs.Ordering.{nat_cmp, int_cmp}
use Rattle.std.specs.Cmp.{nat_cmp_is}
use Rattle.std.proofs.lemmas.Int.{ints}
use Rattle.std.proofs.lemmas.Bool.{cases_order}
use Rattle.std.proofs.Math.Nat.{mul_comm, mul-le-mul_right, mul-lt-mul_of_pos_right}
use Rattle.rg_integers.proofs.Signs.{abs_is}
use Rattle.rg_integers.proofs.Comparing.{cmp-shifted, cmp-pos}

-- the quotients differ
below : (p q r d e s : ℕ) → p < q → r < d → 0 < e → (d * p + r) * e < (e * q + s) * d
below p q r d e s h k z =
    let x : r * e < d * e = mul-lt-mul_of_pos_right k z in
    let y : suc p * (d * e) ≤ q * (d * e) = mul-le-mul_right (d * e) h in
    omega arith

pub split : (n d : ℕ) → 0 < d → (n ≡ d * (n / d) + n % d) × (n % d < d)
split n d h = (omega arith, omega arith)

pub by_quotients-less : (n d m e : ℕ) → 0 < d → 0 < e → n / d < m / e → n * e < m * d
by_quotients-less n d m e hd he h =
    let a = split n d hd in
    let b = split m e he in
    let x = below (n / d) (m / e) (n % d) d e (m % e) h a.1 he in
    subst (λ (z : ℕ). z * e < m * d) (sym a.0) (subst (λ (z : ℕ). (d * (n / d) + n % d) * e < z * d) (sym b.0) x)

pub by_quotients : (n d m e : ℕ) → 0 < d → 0 < e → n / d ≢ m / e → nat_cmp (n / d) (m / e) ≡ nat_cmp (n * e) (m * d)
by_quotients n d m e hd he ne = ⊎_elim
    (λ (x : n / d ≡ m / e). absurd (ne x))
    (λ (h : (n / d < m / e) ⊎ (m / e < n / d)). ⊎_elim
    (λ (l : n / d < m / e). sym (nat_cmp_is _ _ Less l) ∙ nat_cmp_is _ _ Less (by_quotients-less n d m e hd he l))
    (λ (r : m / e < n / d). sym (nat_cmp_is _ _ Greater r) ∙ nat_cmp_is _ _ Greater (by_quotients-less m e n d he hd r)) h)
    (cases_order (n / d) (m / e))

pub by_remainders : (n d m e : ℕ) → 0 < d → 0 < e → n / d ≡ m / e → nat_cmp ((n % d) * e) ((m % e) * d) ≡ nat_cmp (n * e) (m * d)
by_remainders n d m e hd he h =
    let a = split n d hd in
    let b = split m e he in
    sym (ap₂ nat_cmp (left n d e (n / d) (n % d) a.0) (right m e d (n / d) (m / e) (m % e) b.0 h)
    ∙ cmp-shifted (n / d * (d * e)) (n % d * e) (m % e * d))
  where
    left : (n d e p r : ℕ) → n ≡ d * p + r → n * e ≡ p * (d * e) + r * e
    left n d e p r x = subst (λ (z : ℕ). z * e ≡ p * (d * e) + r * e) (sym x) (omega arith)

    right : (m e d p q s : ℕ) → m ≡ e * q + s → p ≡ q → m * d ≡ p * (d * e) + s * d
    right m e d p q s x y =
        subst (λ (z : ℕ). z * d ≡ p * (d * e) + s * d) (sym x)
        (subst (λ (z : ℕ). (e * q + s) * d ≡ z * (d * e) + s * d) (sym y) (omega arith))

-- one remainder is 0
pub by_zero : (r s d e : ℕ) → 0 < d → 0 < e → (r ≡ 0) ⊎ (s ≡ 0) → nat_cmp r s ≡ nat_cmp (r * e) (s * d)
by_zero zero zero d e hd he h = sym (nat_cmp_is 0 0 Equal refl) ∙ nat_cmp_is (0 * e) (0 * d) Equal (omega arith)
by_zero zero (suc s) d e hd he h = sym (nat_cmp_is 0 (suc s) Less (omega arith)) ∙ nat_cmp_is (0 * e) (suc s * d) Less (omega arith)
by_zero (suc r) zero d e hd he h = sym (nat_cmp_is (suc r) 0 Greater (omega arith)) ∙ nat_cmp_is (suc r * e) (0 * d) Greater (omega arith)
by_zero (suc r) (suc s) d e hd he h = absurd (⊎_elim (λ (x : suc r ≡ 0). none r x) (λ (x : suc s ≡ 0). none s x) h)
  where
    none : (r : ℕ) → suc r ≡ 0 → ⊥
    none r x = omega arith

pub crossed : (r s d e : ℕ) → nat_cmp (e * r) (d * s) ≡ nat_cmp (r * e) (s * d)
crossed r s d e = ap₂ nat_cmp (mul_comm e r) (mul_comm d s)

-- ---- signed numbers

up-is : (z : ℤ) → int_lt z (pos 0) ≡ false → z ≡ pos (unsigned_abs z)
up-is z h = omega (arith, ints)

ups : (n d m e : ℤ) (a x b y : ℕ) → n ≡ pos a → d ≡ pos x → m ≡ pos b → e ≡ pos y → nat_cmp (a * y) (b * x) ≡ int_cmp (n *ℤ e) (m *ℤ d)
ups n d m e a x b y p q r s = rw (p, q, r, s) (cmp-pos (a * y) (b * x))

pub cmp-ups : (n d m e : ℤ) → pos 0 <ℤ d → pos 0 <ℤ e → int_lt n (pos 0) ≡ false → int_lt m (pos 0) ≡ false
    → nat_cmp (unsigned_abs n * unsigned_abs e) (unsigned_abs m * unsigned_abs d) ≡ int_cmp (n *ℤ e) (m *ℤ d)
cmp-ups n d m e hd he hn hm = ups n d m e _ _ _ _ (up-is n hn) (abs_is d hd) (up-is m hm) (abs_is e he)

pub weak : (z : ℤ) → pos 0 <ℤ z → pos 0 ≤ℤ z
weak z h = omega (arith, ints)
