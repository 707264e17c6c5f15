-- Numbers with no common factor: Euclid's lemma, products, and that a reduced fraction has one form.
use Rattle.std.proofs.Common.{◌≡◌, ℕ, zero, suc, ◌+◌, ◌*◌, ◌/◌, ◌%◌, ◌<◌, ◌==◌, Bool, true, false, cond, refl, ap, subst, sym, ◌∙◌, arith}
use Rattle.std.specs.Int.{IsGcd, ◌∣◌}
use Rattle.std.proofs.lemmas.Bool.Decides.{nat_tests}
use Rattle.std.proofs.lemmas.Nat.{mod-mul-add}
use Rattle.std.proofs.lemmas.Nat.Gcd.{IsGcd-from_zero, IsGcd-from_mod, IsGcd-swap, same_from_IsGcd, dvd-zero, dvd_trans, dvd_antisymm}
use Rattle.std.proofs.Math.Nat.{one-dvd, dvd-mul_left, dvd-mul_right, mul-lt-mul_of_pos_right, eq_of_mul-eq-mul_right}
use Rattle.rg_integers.specs.Divisor.{gcd_steps, gcd_of}
use Rattle.rg_integers.proofs.Divisors.{gcd_of-is, divides_by}

times-mod : (a b k : ℕ) → 0 < b → 0 < k → (a * k) % (b * k) ≡ (a % b) * k
times-mod a b k hb hk =
    let small : (a % b) * k < b * k = mul-lt-mul_of_pos_right (below a b hb) hk in
    ap (λ (n : ℕ). n % (b * k)) (split a b k hb) ∙ mod-mul-add (a / b) (b * k) ((a % b) * k) small
  where
    below : (a b : ℕ) → 0 < b → a % b < b
    below a b h = omega arith

    parts : (a b : ℕ) → 0 < b → a ≡ b * (a / b) + a % b
    parts a b h = omega arith

    spread : (a b k q r : ℕ) → a ≡ b * q + r → a * k ≡ q * (b * k) + r * k
    spread a b k q r e = subst (λ (n : ℕ). n * k ≡ q * (b * k) + r * k) (sym e) (omega arith)

    split : (a b k : ℕ) → 0 < b → a * k ≡ (a / b) * (b * k) + (a % b) * k
    split a b k h = spread a b k (a / b) (a % b) (parts a b h)

gcd_steps-times : (f a b k : ℕ) → b < f → 0 < k → IsGcd (a * k) (b * k) (gcd_steps f a b * k)
gcd_steps-times zero a b k h hk = absurd (none b h)
  where
    none : (b : ℕ) → b < 0 → ⊥
    none b h = omega arith
gcd_steps-times (suc f) a b k h hk = step (b == 0) refl (λ l. gcd_steps-times f b (a % b) k l hk)
  where
    is_zero : (b k : ℕ) → (b == 0) ≡ true → b * k ≡ 0
    is_zero b k e = let z : b ≡ 0 = grind (arith, nat_tests) in subst (λ (n : ℕ). n * k ≡ 0) (sym z) (omega arith)

    above : (b : ℕ) → (b == 0) ≡ false → 0 < b
    above b e = grind (arith, nat_tests)

    smaller : (a b f : ℕ) → b < suc f → 0 < b → a % b < f
    smaller a b f h p = omega arith

    step : (t : Bool) → (b == 0) ≡ t → (a % b < f → IsGcd (b * k) ((a % b) * k) (gcd_steps f b (a % b) * k))
        → IsGcd (a * k) (b * k) (cond t a (gcd_steps f b (a % b)) * k)
    step true e r = IsGcd-from_zero (a * k) (b * k) (is_zero b k e)
    step false e r =
        IsGcd-from_mod (a * k) (b * k) (gcd_steps f b (a % b) * k)
        (subst (λ (n : ℕ). IsGcd (b * k) n (gcd_steps f b (a % b) * k)) (sym (times-mod a b k (above b e) hk)) (r (smaller a b f h (above b e))))

-- the greatest common divisor of multiples
pub IsGcd-times : (a b g k : ℕ) → IsGcd a b g → 0 < k → IsGcd (a * k) (b * k) (g * k)
unfolding gcd_of
IsGcd-times a b g k h hk =
    subst (λ (n : ℕ). IsGcd (a * k) (b * k) (n * k)) (same_from_IsGcd a b (gcd_steps (suc b) a b) g (gcd_of-is a b) h)
    (gcd_steps-times (suc b) a b k (below b) hk)
  where
    below : (b : ℕ) → b < suc b
    below b = omega arith

-- Euclid's lemma: a number that has no common factor with n, and divides n * e, divides e
pub coprime_divides : (d n e : ℕ) → IsGcd d n 1 → d ∣ n * e → d ∣ e
coprime_divides d n zero h p = dvd-zero d
coprime_divides d n (suc e) h p =
    let g = IsGcd-times d n 1 (suc e) h (omega arith) in
    subst (λ (x : ℕ). d ∣ x) (one (suc e)) (g.2 d (dvd-mul_right d (suc e)) p)
  where
    one : (x : ℕ) → 1 * x ≡ x
    one x = omega arith

-- a factor of a number that has no common factor with n has none either
pub coprime_factor : (a b n x : ℕ) → a * b ≡ n → IsGcd n x 1 → IsGcd a x 1
coprime_factor a b n x e h = (one-dvd a, one-dvd x, λ d s t. h.2 d (dvd_trans d s (divides_by n a b (sym e))) t)

-- the product of two numbers that have no common factor with c
pub coprime_product : (a b c : ℕ) → IsGcd a c 1 → IsGcd b c 1 → IsGcd (a * b) c 1
coprime_product a b c h k = (
  one-dvd _,
  one-dvd _,
  λ d p q. k.2 d (coprime_divides d a b (one-dvd _, one-dvd _, λ x s t. h.2 x t (dvd_trans _ s q)) p) q,
)

-- two products, where no factor of the first has a common factor with one of the second
pub coprime_products : (a b c d : ℕ) → IsGcd a c 1 → IsGcd a d 1 → IsGcd b c 1 → IsGcd b d 1 → IsGcd (a * b) (c * d) 1
coprime_products a b c d ac ad bc bd =
    IsGcd-swap _ _ _ (coprime_product c d (a * b) (IsGcd-swap _ _ _ (coprime_product a b c ac bc)) (IsGcd-swap _ _ _ (coprime_product a b d ad bd)))

-- one value, one reduced form
pub one_form : (n d m e : ℕ) → 0 < d → IsGcd n d 1 → IsGcd m e 1 → n * e ≡ m * d → (n ≡ m) × (d ≡ e)
one_form n d m e hd h k p =
    let a : d ∣ e = coprime_divides d n e (IsGcd-swap _ _ _ h) (subst (λ (x : ℕ). d ∣ x) (sym p) (dvd-mul_left d m)) in
    let b : e ∣ d = coprime_divides e m d (IsGcd-swap _ _ _ k) (subst (λ (x : ℕ). e ∣ x) p (dvd-mul_left e n)) in
    let s : d ≡ e = dvd_antisymm a b in
    (eq_of_mul-eq-mul_right d hd n m (subst (λ (x : ℕ). n * x ≡ m * d) (sym s) p), s)

-- where b * p = a * q for a = x * g and b = y * g, with x and y without a common factor, x divides p
pub cross_divides : (a b g x y p q : ℕ) → IsGcd x y 1 → 0 < g → x * g ≡ a → y * g ≡ b → b * p ≡ a * q → x ∣ p
cross_divides a b g x y p q h positive e f cross =
    let whole : y * p * g ≡ x * q * g = regroup in
    coprime_divides x y p h (divides_by (y * p) x q (eq_of_mul-eq-mul_right g positive _ _ whole))
  where
    left : y * g * p ≡ b * p
    left = ap (λ n. n * p) f

    right : x * g * q ≡ a * q
    right = ap (λ n. n * q) e

    regroup : y * p * g ≡ x * q * g
    regroup = omega (arith, left, right, cross)
