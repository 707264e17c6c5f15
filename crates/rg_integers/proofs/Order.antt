-- Signs of products, factors that can be taken away, and the order of products.
use Rattle.std.proofs.Common.{◌≡◌, ◌≢◌, ◌⊎◌, ◌↔◌, ℕ, zero, suc, ◌*◌, ◌<◌, ap, subst, sym, ◌∙◌, inl, inr, arith}
use Rattle.std.specs.Prelude.{ℤ, pos, negsuc, neg_ℤ, ◌-ℤ◌, ◌*ℤ◌, ◌≤ℤ◌, ◌<ℤ◌, unsigned_abs}
use Rattle.std.proofs.lemmas.Int.{ints, unsigned_abs-mul, by_lt_z}
use Rattle.std.proofs.Math.IntN.{*ℤ_comm}
use Rattle.std.proofs.Math.Nat.{eq_of_mul-eq-mul_right}
use Rattle.rg_integers.proofs.Ring.{add-mul, neg-mul, mul-neg}

pub is_zero_or_not : (z : ℤ) → (z ≡ pos 0) ⊎ (z ≢ pos 0)
is_zero_or_not z = by_lt_z z (pos 0)
    (λ less. inr (λ e. omega (arith, ints)))
    (λ most. by_lt_z (pos 0) z (λ more. inr (λ e. omega (arith, ints))) (λ least. inl (omega (arith, ints))))

pub positive_differs : (d : ℤ) → pos 0 <ℤ d → d ≢ pos 0
positive_differs d h e = omega (arith, ints)

-- ---- zero and equal products

pub mul_is_zero : (z d : ℤ) → d ≢ pos 0 → z *ℤ d ≡ pos 0 → z ≡ pos 0
mul_is_zero z d h e =
    let product : unsigned_abs z * unsigned_abs d ≡ 0 = sym (unsigned_abs-mul z d) ∙ ap unsigned_abs e in
    let big : 0 < unsigned_abs d = omega (arith, ints) in
    from_size z (factor (unsigned_abs z) (unsigned_abs d) product big)
  where
    from_size : (z : ℤ) → unsigned_abs z ≡ 0 → z ≡ pos 0
    from_size z e = omega (arith, ints)

    factor : (m n : ℕ) → m * n ≡ 0 → 0 < n → m ≡ 0
    factor m n e h = eq_of_mul-eq-mul_right n h m 0 (omega arith)

pub mul-cancel : (a b d : ℤ) → d ≢ pos 0 → a *ℤ d ≡ b *ℤ d → a ≡ b
mul-cancel a b d h e =
    let z : (a -ℤ b) *ℤ d ≡ pos 0 = simp (add-mul, neg-mul) (omega (arith, ints)) in
    let y = mul_is_zero (a -ℤ b) d h z in
    omega (arith, ints)

pub mul-cancel_left : (d a b : ℤ) → d ≢ pos 0 → d *ℤ a ≡ d *ℤ b → a ≡ b
mul-cancel_left d a b h e = mul-cancel a b d h (*ℤ_comm a d ∙ e ∙ *ℤ_comm d b)

-- ---- signs of products

pub mul_positive : (a b : ℤ) → pos 0 <ℤ a → pos 0 <ℤ b → pos 0 <ℤ (a *ℤ b)
mul_positive (pos zero) b h g = absurd (omega (arith, ints))
mul_positive (pos (suc m)) (pos zero) h g = absurd (omega (arith, ints))
mul_positive (pos (suc m)) (pos (suc n)) h g = omega (arith, ints)
mul_positive (pos (suc m)) (negsuc n) h g = absurd (omega (arith, ints))
mul_positive (negsuc m) b h g = absurd (omega (arith, ints))

pub mul_not_negative : (a b : ℤ) → pos 0 ≤ℤ a → pos 0 ≤ℤ b → pos 0 ≤ℤ (a *ℤ b)
mul_not_negative (pos m) (pos n) h k = omega (arith, ints)
mul_not_negative (pos m) (negsuc n) h k = absurd (omega (arith, ints))
mul_not_negative (negsuc m) b h k = absurd (omega (arith, ints))

pub mul_negative : (a b : ℤ) → a <ℤ pos 0 → pos 0 <ℤ b → (a *ℤ b) <ℤ pos 0
mul_negative a b h k =
    let turned : pos 0 <ℤ neg_ℤ a = omega (arith, ints) in
    let more = mul_positive (neg_ℤ a) b turned k in
    let is : neg_ℤ a *ℤ b ≡ neg_ℤ (a *ℤ b) = neg-mul a b in
    omega (arith, ints)

-- ---- a factor has the sign of the product where the other is positive

pub factor_not_negative : (d z : ℤ) → pos 0 <ℤ d → pos 0 ≤ℤ (d *ℤ z) → pos 0 ≤ℤ z
factor_not_negative d z h g = by_lt_z z (pos 0)
    (λ less.
    let turned : pos 0 <ℤ neg_ℤ z = omega (arith, ints) in
    let more = mul_positive d (neg_ℤ z) h turned in
    let is : d *ℤ neg_ℤ z ≡ neg_ℤ (d *ℤ z) = mul-neg d z in
    absurd (omega (arith, ints)))
    (λ most. most)

-- it is enough that the other is not negative
pub factor_positive : (d z : ℤ) → pos 0 ≤ℤ d → pos 0 <ℤ (d *ℤ z) → pos 0 <ℤ z
factor_positive d z h g = by_lt_z (pos 0) z (λ more. more)
    (λ most.
    let turned : pos 0 ≤ℤ neg_ℤ z = omega (arith, ints) in
    let more = mul_not_negative d (neg_ℤ z) h turned in
    let is : d *ℤ neg_ℤ z ≡ neg_ℤ (d *ℤ z) = mul-neg d z in
    absurd (omega (arith, ints)))

-- two numbers of which positive multiples are equal have one sign
pub same_sign : (t u r v : ℤ) → pos 0 <ℤ t → pos 0 <ℤ u → u *ℤ r ≡ t *ℤ v → (pos 0 ≤ℤ r) ↔ (pos 0 ≤ℤ v)
same_sign t u r v h k e = (
  (λ p. factor_not_negative t v h (subst (λ w. pos 0 ≤ℤ w) e (mul_not_negative u r (weak u k) p))),
  (λ p. factor_not_negative u r k (subst (λ w. pos 0 ≤ℤ w) (sym e) (mul_not_negative t v (weak t h) p))),
)
  where
    weak : (z : ℤ) → pos 0 <ℤ z → pos 0 ≤ℤ z
    weak z p = omega (arith, ints)

-- a positive product with a negative number has a negative factor
pub factor_negative : (a b : ℤ) → b <ℤ pos 0 → pos 0 <ℤ (a *ℤ b) → a <ℤ pos 0
factor_negative a b h g = by_lt_z a (pos 0) (λ less. less)
    (λ most.
    let turned : pos 0 ≤ℤ neg_ℤ b = omega (arith, ints) in
    let more = mul_not_negative a (neg_ℤ b) most turned in
    let is : a *ℤ neg_ℤ b ≡ neg_ℤ (a *ℤ b) = mul-neg a b in
    absurd (omega (arith, ints)))

-- the quotient of a positive number
pub quotient_positive : (x k d : ℤ) → pos 0 ≤ℤ k → x *ℤ k ≡ d → pos 0 <ℤ d → pos 0 <ℤ x
quotient_positive x k d h e p = factor_positive k x h (subst (λ z. pos 0 <ℤ z) (sym e ∙ *ℤ_comm x k) p)

-- ---- the order of products

pub mul-le : (a b c : ℤ) → pos 0 ≤ℤ c → a ≤ℤ b → (a *ℤ c) ≤ℤ (b *ℤ c)
mul-le a b c h k =
    let d : pos 0 ≤ℤ (b -ℤ a) = omega (arith, ints) in
    let p = mul_not_negative (b -ℤ a) c d h in
    let e : (b -ℤ a) *ℤ c ≡ (b *ℤ c) -ℤ (a *ℤ c) = simp (add-mul, neg-mul) (omega (arith, ints)) in
    let q = rw e at p in
    omega (arith, ints)
