-- The laws of ℤ as a ring that std lacks, and `ring`, a set for `simp` that sorts a polynomial.
use Rattle.std.proofs.Common.{◌≡◌, ℕ, ◌+◌, ◌*◌, ap, ap₂, ◌∙◌, arith}
use Rattle.std.specs.Prelude.{ℤ, pos, ◌+ℤ◌, ◌*ℤ◌, neg_ℤ}
use Rattle.std.proofs.Math.IntN.{*ℤ_comm, *ℤ-zero, zero-*ℤ}
use Rattle.std.proofs.lemmas.Int.{ints}
use borrow.Author.Differences.{up, down, product_is, sum_is_lem, neg_is, same_in}

-- ---- a number is `up z - down z`

pub up-mul : (a b : ℤ) → up (a *ℤ b) ≡ up a * up b + down a * down b
up-mul a b = (product_is a b).0

pub down-mul : (a b : ℤ) → down (a *ℤ b) ≡ up a * down b + down a * up b
down-mul a b = (product_is a b).1

pub up-neg : (a : ℤ) → up (neg_ℤ a) ≡ down a
up-neg a = (neg_is a).0

pub down-neg : (a : ℤ) → down (neg_ℤ a) ≡ up a
down-neg a = (neg_is a).1

-- ---- products

pub mul_assoc : (a b c : ℤ) → (a *ℤ b) *ℤ c ≡ a *ℤ (b *ℤ c)
mul_assoc a b c = same_in _ _ (simp (up-mul, down-mul) (omega arith))

pub mul_left_comm : (a b c : ℤ) → a *ℤ (b *ℤ c) ≡ b *ℤ (a *ℤ c)
mul_left_comm a b c = same_in _ _ (simp (up-mul, down-mul) (omega arith))

pub neg-mul : (a b : ℤ) → neg_ℤ a *ℤ b ≡ neg_ℤ (a *ℤ b)
neg-mul a b = same_in _ _ (simp (up-mul, down-mul, up-neg, down-neg) (omega arith))

pub mul-neg : (a b : ℤ) → a *ℤ neg_ℤ b ≡ neg_ℤ (a *ℤ b)
mul-neg a b = same_in _ _ (simp (up-mul, down-mul, up-neg, down-neg) (omega arith))

pub add-mul : (a b c : ℤ) → (a +ℤ b) *ℤ c ≡ (a *ℤ c) +ℤ (b *ℤ c)
add-mul a b c =
    let s = sum_is_lem a b in
    let u = ap (λ (n : ℕ). n * up c) s in
    let d = ap (λ (n : ℕ). n * down c) s in
    let t = sum_is_lem (a *ℤ c) (b *ℤ c) in
    let t' = simp (up-mul, down-mul) at t in
    same_in _ _ (simp (up-mul, down-mul) (omega arith))

pub mul-add : (a b c : ℤ) → a *ℤ (b +ℤ c) ≡ (a *ℤ b) +ℤ (a *ℤ c)
mul-add a b c = *ℤ_comm a (b +ℤ c) ∙ add-mul b c a ∙ ap₂ ◌+ℤ◌ (*ℤ_comm b a) (*ℤ_comm c a)

pub one-mul : (z : ℤ) → pos 1 *ℤ z ≡ z
one-mul z = omega (arith, ints)

pub mul-one : (z : ℤ) → z *ℤ pos 1 ≡ z
mul-one z = omega (arith, ints)

-- for `simp ring`, and `simp (e, ring) (omega (arith, ints))` from equations e
pub ruleset ring = (mul_assoc, *ℤ_comm, mul_left_comm, neg-mul, mul-neg, add-mul, mul-add, one-mul, mul-one, zero-*ℤ, *ℤ-zero)
