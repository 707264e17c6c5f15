-- Sums below a number.
use Rattle.std.proofs.Common.{◌≡◌, ◌≢◌, ◌⊎◌, ℕ, zero, suc, ◌+◌, ◌<◌, ◌≤◌, if◌then◌else◌, eq-eqb, ne_eqb, ap, ap₂, refl, subst, sym, ◌∙◌, inl, inr, arith}
use Rattle.std.specs.Prelude.{ℤ, pos, ◌+ℤ◌, ◌*ℤ◌, ◌≤ℤ◌}
use Rattle.std.proofs.Math.IntN.{zero-*ℤ}
use Rattle.std.proofs.lemmas.Int.{ints}
use Rattle.std.proofs.lemmas.Bool.{cases_lt}
use Rattle.rg_integers.specs.Sum.{sum_below, only}
use Rattle.rg_integers.proofs.Ring.{mul-add}

pub sum_below-same : (n : ℕ) (f g : ℕ → ℤ) → ((m : ℕ) → m < n → f m ≡ g m) → sum_below n f ≡ sum_below n g
sum_below-same zero f g same = refl
sum_below-same (suc n) f g same = ap₂ ◌+ℤ◌ (sum_below-same n f g (λ m h. same m (omega arith))) (same n (omega arith))

pub sum_below-zero : (n : ℕ) (f : ℕ → ℤ) → ((m : ℕ) → m < n → f m ≡ pos 0) → sum_below n f ≡ pos 0
sum_below-zero zero f none = refl
sum_below-zero (suc n) f none =
    let ih = sum_below-zero n f (λ m h. none m (omega arith)) in
    let here = none n (omega arith) in
    omega (arith, ints)

pub sum_below-plus : (n : ℕ) (f g : ℕ → ℤ) → sum_below n (λ m. f m +ℤ g m) ≡ sum_below n f +ℤ sum_below n g
sum_below-plus zero f g = refl
sum_below-plus (suc n) f g = let ih = sum_below-plus n f g in omega (arith, ints)

pub sum_below-times : (n : ℕ) (k : ℤ) (f : ℕ → ℤ) → sum_below n (λ m. k *ℤ f m) ≡ k *ℤ sum_below n f
sum_below-times zero k f = omega (arith, ints)
sum_below-times (suc n) k f =
    let ih = sum_below-times n k f in
    let e = mul-add k (sum_below n f) (f n) in
    omega (arith, ints)

-- a * f and b * g added
pub sum_below-both : (n : ℕ) (a b : ℤ) (f g : ℕ → ℤ) → sum_below n (λ m. (a *ℤ f m) +ℤ (b *ℤ g m)) ≡ (a *ℤ sum_below n f) +ℤ (b *ℤ sum_below n g)
sum_below-both n a b f g = sum_below-plus n (λ m. a *ℤ f m) (λ m. b *ℤ g m) ∙ ap₂ ◌+ℤ◌ (sum_below-times n a f) (sum_below-times n b g)

-- all numbers but one are 0
pub sum_below-only : (n i : ℕ) (f : ℕ → ℤ) → i < n → ((m : ℕ) → m < n → m ≢ i → f m ≡ pos 0) → sum_below n f ≡ f i
sum_below-only zero i f lt none = absurd (omega arith)
sum_below-only (suc n) i f lt none = split (cases_lt i n) (λ below. sum_below-only n i f below (λ m h. none m (omega arith)))
  where
    split : (i < n) ⊎ (n ≤ i) → (i < n → sum_below n f ≡ f i) → sum_below n f +ℤ f n ≡ f i
    split (inl below) ih =
        let here = ih below in
        let last : f n ≡ pos 0 = none n (omega arith) (λ e. omega arith) in
        omega (arith, ints)
    split (inr past) ih =
        let is : i ≡ n = omega arith in
        let rest : sum_below n f ≡ pos 0 = sum_below-zero n f (λ m h. none m (omega arith) (λ e. omega arith)) in
        let here = ap f is in
        omega (arith, ints)

-- one number, z, is multiplied by what stands at its index
pub sum_below-at : (n i : ℕ) (z : ℤ) (f : ℕ → ℤ) → i < n → sum_below n (λ m. only i z m *ℤ f m) ≡ z *ℤ f i
sum_below-at n i z f lt = sum_below-only n i (λ m. only i z m *ℤ f m) lt others ∙ here
  where
    others : (m : ℕ) → m < n → m ≢ i → only i z m *ℤ f m ≡ pos 0
    others m h ne = ap (λ b. (if b then z else pos 0) *ℤ f m) (ne_eqb m i ne) ∙ zero-*ℤ (f m)

    here : only i z i *ℤ f i ≡ z *ℤ f i
    here = ap (λ b. (if b then z else pos 0) *ℤ f i) (eq-eqb i i refl)

-- the sum of the first a numbers, and of the others
pub sum_below-split : (a b : ℕ) (f : ℕ → ℤ) → sum_below (a + b) f ≡ sum_below a f +ℤ sum_below b (λ i. f (a + i))
sum_below-split a zero f = subst (λ n. sum_below n f ≡ sum_below a f +ℤ pos 0) (sym (add-zero a)) (same a f)
  where
    add-zero : (a : ℕ) → a + 0 ≡ a
    add-zero a = omega arith

    same : (a : ℕ) (f : ℕ → ℤ) → sum_below a f ≡ sum_below a f +ℤ pos 0
    same a f = omega (arith, ints)
sum_below-split a (suc b) f =
    let ih = sum_below-split a b f in
    let e : sum_below (a + suc b) f ≡ sum_below (suc (a + b)) f = ap (λ n. sum_below n f) (add-suc a b) in
    e ∙ assoc (sum_below (a + b) f) (sum_below a f) (sum_below b (λ i. f (a + i))) (f (a + b)) ih
  where
    add-suc : (a b : ℕ) → a + suc b ≡ suc (a + b)
    add-suc a b = omega arith

    assoc : (s x y z : ℤ) → s ≡ x +ℤ y → s +ℤ z ≡ x +ℤ (y +ℤ z)
    assoc s x y z e = omega (arith, ints)

-- the first number, and the sum of the others
pub sum_below-first : (n : ℕ) (f : ℕ → ℤ) → sum_below (suc n) f ≡ f 0 +ℤ sum_below n (λ i. f (suc i))
sum_below-first zero f = omega (arith, ints)
sum_below-first (suc n) f = let ih = sum_below-first n f in omega (arith, ints)

-- two sums change places
pub sum_below-swap : (a b : ℕ) (f : ℕ → ℕ → ℤ) → sum_below a (λ i. sum_below b (λ j. f i j)) ≡ sum_below b (λ j. sum_below a (λ i. f i j))
sum_below-swap zero b f = sym (sum_below-zero b (λ j. pos 0) (λ j lt. refl))
sum_below-swap (suc a) b f =
    ap (λ z. z +ℤ sum_below b (λ j. f a j)) (sum_below-swap a b f)
    ∙ sym (sum_below-plus b (λ j. sum_below a (λ i. f i j)) (λ j. f a j))

pub sum_below-not_negative : (n : ℕ) (f : ℕ → ℤ) → ((m : ℕ) → m < n → pos 0 ≤ℤ f m) → pos 0 ≤ℤ sum_below n f
sum_below-not_negative zero f each = omega (arith, ints)
sum_below-not_negative (suc n) f each =
    let ih = sum_below-not_negative n f (λ m h. each m (omega arith)) in
    let here = each n (omega arith) in
    omega (arith, ints)
