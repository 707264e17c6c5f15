-- Newton's step doubles the last bits in which an inverse is right.
use Rattle.std.proofs.Common.{◌≡◌, ℕ, suc, ◌+◌, ◌-◌, ◌*◌, ◌/◌, ◌%◌, ◌^◌, ◌<◌, ◌≤◌, ap, refl, subst, sym, ◌∙◌, arith}
use Rattle.std.specs.Prelude.{ℤ, pos, negsuc, neg_ℤ, ◌+ℤ◌, ◌-ℤ◌, ◌*ℤ◌}
use Rattle.std.proofs.lemmas.Int.{ints}
use Rattle.std.proofs.lemmas.Nat.{pow-add, pow_below, pow_pos, mul-mod, mul-mod_second, mod-mul-add}
use Rattle.std.proofs.Math.Nat.{div-mul_cancel, mul-div_cancel, div-le_self}
use Rattle.std.specs.Int.{◌∣◌}
use Rattle.rg_integers.proofs.Ring.{ring}
use Rattle.rg_fraction.specs.Exact.{IsTakenApart}

-- ---- the step over whole numbers

c1 : (o x v m q : ℤ) → o *ℤ ((x *ℤ v) -ℤ (m *ℤ q)) ≡ ((o *ℤ x) *ℤ v) -ℤ (m *ℤ (o *ℤ q))
c1 o x v m q = simp ring (omega (arith, ints))

c2 : (p m q r : ℤ) → p *ℤ ((pos 2 +ℤ (m -ℤ (p -ℤ (m *ℤ q)))) -ℤ (m *ℤ r)) ≡ (p *ℤ (pos 2 -ℤ p)) +ℤ (m *ℤ (p *ℤ ((pos 1 +ℤ q) -ℤ r)))
c2 p m q r = simp ring (omega (arith, ints))

c3 : (j a : ℤ) → ((j *ℤ a) +ℤ pos 1) *ℤ (pos 2 -ℤ ((j *ℤ a) +ℤ pos 1)) ≡ pos 1 -ℤ ((j *ℤ j) *ℤ (a *ℤ a))
c3 j a = ap (λ z. ((j *ℤ a) +ℤ pos 1) *ℤ z) (less (j *ℤ a)) ∙ square (j *ℤ a) ∙ ap (λ z. pos 1 -ℤ z) (turned j a)
  where
    less : (z : ℤ) → pos 2 -ℤ (z +ℤ pos 1) ≡ pos 1 -ℤ z
    less z = omega (arith, ints)

    square : (z : ℤ) → (z +ℤ pos 1) *ℤ (pos 1 -ℤ z) ≡ pos 1 -ℤ (z *ℤ z)
    square z = simp ring (omega (arith, ints))

    turned : (j a : ℤ) → (j *ℤ a) *ℤ (j *ℤ a) ≡ (j *ℤ j) *ℤ (a *ℤ a)
    turned j a = simp ring

c4 : (s w p q a : ℤ) → ((pos 1 -ℤ (s *ℤ a)) +ℤ ((s *ℤ w) *ℤ p)) -ℤ ((s *ℤ w) *ℤ q) ≡ pos 1 +ℤ (s *ℤ ((w *ℤ (p -ℤ q)) -ℤ a))
c4 s w p q a = simp ring (omega (arith, ints))

newton : (o x y v u p m j a q r t w : ℤ) → p ≡ o *ℤ x → p ≡ (j *ℤ a) +ℤ pos 1 → p ≡ (m *ℤ q) +ℤ u → pos 2 +ℤ (m -ℤ u) ≡ (m *ℤ r) +ℤ v
    → x *ℤ v ≡ (m *ℤ t) +ℤ y → m ≡ (j *ℤ j) *ℤ w
    → o *ℤ y ≡ pos 1 +ℤ ((j *ℤ j) *ℤ ((w *ℤ ((p *ℤ ((pos 1 +ℤ q) -ℤ r)) -ℤ (o *ℤ t))) -ℤ (a *ℤ a)))
newton o x y v u p m j a q r t w ep ej eu ev ey em =
    ap (λ z. o *ℤ z) (y_is (x *ℤ v) (m *ℤ t) y ey)
    ∙ c1 o x v m t
    ∙ ap (λ z. (z *ℤ v) -ℤ (m *ℤ (o *ℤ t))) (sym ep)
    ∙ ap (λ z. (p *ℤ z) -ℤ (m *ℤ (o *ℤ t))) (v_is m u (m *ℤ r) v (m *ℤ q) p ev eu)
    ∙ ap (λ z. z -ℤ (m *ℤ (o *ℤ t))) (c2 p m q r)
    ∙ ap (λ z. (z +ℤ (m *ℤ (p *ℤ ((pos 1 +ℤ q) -ℤ r)))) -ℤ (m *ℤ (o *ℤ t))) (ap (λ z. z *ℤ (pos 2 -ℤ z)) ej ∙ c3 j a)
    ∙ ap (λ z. ((pos 1 -ℤ ((j *ℤ j) *ℤ (a *ℤ a))) +ℤ (z *ℤ (p *ℤ ((pos 1 +ℤ q) -ℤ r)))) -ℤ (z *ℤ (o *ℤ t))) em
    ∙ c4 (j *ℤ j) w (p *ℤ ((pos 1 +ℤ q) -ℤ r)) (o *ℤ t) (a *ℤ a)
  where
    y_is : (n k y : ℤ) → n ≡ k +ℤ y → y ≡ n -ℤ k
    y_is n k y e = omega (arith, ints)

    v_is : (m u k v n p : ℤ) → pos 2 +ℤ (m -ℤ u) ≡ k +ℤ v → p ≡ n +ℤ u → v ≡ (pos 2 +ℤ (m -ℤ (p -ℤ n))) -ℤ k
    v_is m u k v n p e f = omega (arith, ints)

-- ---- the step over natural numbers

-- a number above a multiple of d by 1 is a multiple of d above 1
one_above : (n d : ℕ) (z : ℤ) → 1 < d → pos n ≡ pos 1 +ℤ (pos d *ℤ z) → n % d ≡ 1
one_above n d (pos k) h e = same (by n (d * k) e) (mod-mul-add k d 1 h)
  where
    by : (n m : ℕ) → pos n ≡ pos 1 +ℤ pos m → n ≡ m + 1
    by n m e = omega (arith, ints)

    same : n ≡ d * k + 1 → (k * d + 1) % d ≡ 1 → n % d ≡ 1
    same e f = ap (λ x. x % d) (e ∙ turn d k) ∙ f
      where
        turn : (d k : ℕ) → d * k + 1 ≡ k * d + 1
        turn d k = omega arith
one_above n d (negsuc k) h e = absurd (below n (d * suc k) (d_below d k h) e)
  where
    d_below : (d k : ℕ) → 1 < d → 1 < d * suc k
    d_below d k h = omega arith

    below : (n m : ℕ) → 1 < m → pos n ≡ pos 1 +ℤ neg_ℤ (pos m) → ⊥
    below n m h e = omega (arith, ints)

-- a number by its quotient and remainder
parts : (n m : ℕ) → 0 < m → pos n ≡ (pos m *ℤ pos (n / m)) +ℤ pos (n % m)
parts n m h = ap pos (by n m h)
  where
    by : (n m : ℕ) → 0 < m → n ≡ m * (n / m) + n % m
    by n m h = omega arith

-- the step: p is o * x, u what is left of it, v what is left of 2 - u, y what is left of x * v
step : (o x m d w : ℕ) → 0 < m → 1 < d * d → 0 < d → m ≡ d * d * w → (o * x) % d ≡ 1
    → (o * ((x * ((2 + (m - (o * x) % m)) % m)) % m)) % (d * d) ≡ 1
step o x m d w some more least em right =
    let p = o * x in
    let u = p % m in
    let s = 2 + (m - u) in
    let v = s % m in
    let n = x * v in
    let y = n % m in
    one_above (o * y) (d * d) _ more
    (newton (pos o) (pos x) (pos y) (pos v) (pos u) (pos p) (pos m) (pos d) (pos (p / d)) (pos (p / m)) (pos (s / m)) (pos (n / m)) (pos w)
    refl (above p d least right) (parts p m some) (left m u s (below p m some) refl ∙ parts s m some) (parts n m some) (ap pos em))
  where
    above : (p d : ℕ) → 0 < d → p % d ≡ 1 → pos p ≡ (pos d *ℤ pos (p / d)) +ℤ pos 1
    above p d h e = parts p d h ∙ ap (λ r. (pos d *ℤ pos (p / d)) +ℤ pos r) e

    below : (p m : ℕ) → 0 < m → p % m ≤ m
    below p m h = omega arith

    left : (m u s : ℕ) → u ≤ m → s ≡ 2 + (m - u) → pos 2 +ℤ (pos m -ℤ pos u) ≡ pos s
    left m u s h e = omega (arith, ints)

pub refines : (o x j k : ℕ) → 0 < j → j + j + k ≡ 128 → (o * x) % 2 ^ j ≡ 1
    → (o * ((x * ((2 + (2 ^ 128 - (o * x) % 2 ^ 128)) % 2 ^ 128)) % 2 ^ 128)) % 2 ^ (j + j) ≡ 1
refines o x j k some whole right =
    subst (λ d. (o * ((x * ((2 + (2 ^ 128 - (o * x) % 2 ^ 128)) % 2 ^ 128)) % 2 ^ 128)) % d ≡ 1) (sym (pow-add 2 j j))
    (step o x (2 ^ 128) (2 ^ j) (2 ^ k) (omega arith) (subst (λ d. 1 < d) (pow-add 2 j j) (pow_below 0 (j + j) (omega arith))) (pow_pos j) split right)
  where
    split : 2 ^ 128 ≡ 2 ^ j * 2 ^ j * 2 ^ k
    split = ap (λ n. 2 ^ n) (sym whole) ∙ pow-add 2 (j + j) k ∙ ap (λ n. n * 2 ^ k) (pow-add 2 j j)

-- in the last bit an odd number is its own inverse
pub odd_square : (o : ℕ) → o % 2 ≡ 1 → (o * o) % 2 ^ 1 ≡ 1
odd_square o e = mul-mod o o 2 ∙ ap (λ r. (r * r) % 2) e

-- ---- exact quotients

-- the quotient of a multiple of the divisor, by its inverse
pub share_is : (n size twos inverse : ℕ) → IsTakenApart size twos inverse → size ∣ n → n < 2 ^ 128 → ((n / 2 ^ twos * inverse) % 2 ^ 128) * size ≡ n
share_is n size twos inverse apart divides small =
    let m = n / size in
    let e : n ≡ m * size = sym (div-mul_cancel size divides) in
    let halved : n / 2 ^ twos ≡ m * (size / 2 ^ twos) =
    ap (λ x. x / 2 ^ twos) (e ∙ ap (λ x. m * x) apart.parts ∙ regroup m (size / 2 ^ twos) (2 ^ twos)) ∙ mul-div_cancel (m * (size / 2 ^ twos)) (pow_pos twos) in
    let below : m < 2 ^ 128 = smaller m n (div-le_self n size) small in
    ap (λ x. x * size) (ap (λ x. (x * inverse) % 2 ^ 128) halved ∙ turned m (size / 2 ^ twos) inverse below apart.inverse_is) ∙ sym e
  where
    regroup : (m o p : ℕ) → m * (o * p) ≡ m * o * p
    regroup m o p = omega arith

    smaller : (m n : ℕ) → m ≤ n → n < 2 ^ 128 → m < 2 ^ 128
    smaller m n h k = omega arith

    turned : (m o x : ℕ) → m < 2 ^ 128 → (o * x) % 2 ^ 128 ≡ 1 → (m * o * x) % 2 ^ 128 ≡ m
    turned m o x below right = ap (λ y. y % 2 ^ 128) (regroup_back m o x) ∙ sym (mul-mod_second m (o * x) (2 ^ 128)) ∙ ap (λ r. (m * r) % 2 ^ 128) right ∙ same m below
      where
        regroup_back : (m o x : ℕ) → m * o * x ≡ m * (o * x)
        regroup_back m o x = omega arith

        same : (m : ℕ) → m < 2 ^ 128 → (m * 1) % 2 ^ 128 ≡ m
        same m h = omega arith
