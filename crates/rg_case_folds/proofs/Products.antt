-- Turns of products, and other small laws of numbers.
use Rattle.std.proofs.Common.{◌≡◌, ℕ, zero, suc, ◌-◌, ◌<◌, sym, arith}
use Rattle.std.specs.Prelude.{ℤ, pos, ◌+ℤ◌, ◌-ℤ◌, ◌*ℤ◌, ◌≤ℤ◌}
use Rattle.std.proofs.lemmas.Int.{ints}
use Rattle.std.proofs.Math.IntN.{*ℤ-zero}
use Rattle.rg_integers.specs.Sum.{sum_below}
use Rattle.rg_integers.proofs.Ring.{ring}

pub mul_right_comm : (a b c : ℤ) → (a *ℤ b) *ℤ c ≡ (a *ℤ c) *ℤ b
mul_right_comm a b c = simp ring

pub mul_rotate : (a b c : ℤ) → (a *ℤ b) *ℤ c ≡ (b *ℤ c) *ℤ a
mul_rotate a b c = simp ring

pub mul_second_out : (a b c : ℤ) → (a *ℤ b) *ℤ c ≡ b *ℤ (a *ℤ c)
mul_second_out a b c = simp ring

pub mul_last_in : (a b c : ℤ) → a *ℤ (b *ℤ c) ≡ (a *ℤ c) *ℤ b
mul_last_in a b c = simp ring

pub grouped : (a b c : ℤ) → a *ℤ (b *ℤ c) ≡ (a *ℤ b) *ℤ c
grouped a b c = simp ring

pub once : (z : ℤ) → z ≡ pos 1 *ℤ z
once z = omega (arith, ints)

pub by_one_more : (z : ℤ) → z ≡ z *ℤ pos 1
by_one_more z = omega (arith, ints)

pub none_of : (z : ℤ) → pos 0 ≡ z *ℤ pos 0
none_of z = omega (arith, ints)

pub both_nothing : (a b : ℤ) → pos 0 *ℤ a ≡ pos 0 *ℤ b
both_nothing a b = omega (arith, ints)

-- ---- sums and order

pub and_nothing : (z : ℤ) → z ≡ z +ℤ pos 0
and_nothing z = omega (arith, ints)

pub less_nothing : (a b : ℤ) → (a *ℤ b) -ℤ (pos 0 *ℤ pos 0) ≡ a *ℤ b
less_nothing a b = omega (arith, ints)

pub first_of_sum : (a b c : ℤ) → a +ℤ b ≡ c → b ≡ pos 0 → a ≡ c
first_of_sum a b c p q = omega (arith, ints)

pub itself_taken : (n : ℕ) → n - n ≡ 0
itself_taken n = omega arith

pub itself : (z : ℤ) → z ≤ℤ z
itself z = omega (arith, ints)

pub natural : (n : ℕ) → pos 0 ≤ℤ pos n
natural n = omega (arith, ints)

-- ---- multiples

abbrev pub IsTimes : ℤ → ℤ → Type 0
IsTimes k z = (u : ℤ) × (z ≡ k *ℤ u)

pub join : (k a b u w : ℤ) → a ≡ k *ℤ u → b ≡ k *ℤ w → a +ℤ b ≡ k *ℤ (u +ℤ w)
join k a b u w e g = let h : k *ℤ (u +ℤ w) ≡ (k *ℤ u) +ℤ (k *ℤ w) = simp ring (omega (arith, ints)) in omega (arith, ints)

pub sum_times : (k : ℤ) (n : ℕ) (f : ℕ → ℤ) → ((t : ℕ) → t < n → IsTimes k (f t)) → IsTimes k (sum_below n f)
sum_times k zero f each = (pos 0, sym (*ℤ-zero k))
sum_times k (suc n) f each =
    let (u, e) = sum_times k n f (λ t lt. each t (omega arith)) in
    let (w, g) = each n (omega arith) in
    (u +ℤ w, join k (sum_below n f) (f n) u w e g)
