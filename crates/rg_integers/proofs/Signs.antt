-- Signs, and sizes and their bounds.
use Rattle.std.proofs.Common.{◌≡◌, ◌≢◌, ℕ, ◌+◌, ◌*◌, ◌<◌, ◌≤◌, le_refl, ap, subst, sym, ◌∙◌, arith}
use Rattle.std.specs.Prelude.{ℤ, pos, negsuc, neg_ℤ, ◌+ℤ◌, ◌-ℤ◌, ◌*ℤ◌, ◌<ℤ◌, unsigned_abs}
use Rattle.std.proofs.lemmas.Int.{ints, unsigned_abs-mul}
use Rattle.std.proofs.Math.IntN.{*ℤ_comm}
use Rattle.std.proofs.Math.Nat.{mul-le-mul}
use Rattle.rg_integers.specs.Sign.{sign, size}

-- ---- the sign times the number is the size

pub sign-times : (z : ℤ) → sign z *ℤ z ≡ size z
sign-times (pos n) = omega (arith, ints)
sign-times (negsuc n) = omega (arith, ints)

pub times-sign : (z : ℤ) → z *ℤ sign z ≡ size z
times-sign z = *ℤ_comm z (sign z) ∙ sign-times z

-- ---- sizes

pub size_positive : (z : ℤ) → z ≢ pos 0 → pos 0 <ℤ size z
size_positive z h = omega (arith, ints)

pub abs_positive : (z : ℤ) → z ≢ pos 0 → 0 < unsigned_abs z
abs_positive z h = omega (arith, ints)

pub abs_is : (z : ℤ) → pos 0 <ℤ z → z ≡ pos (unsigned_abs z)
abs_is z h = omega (arith, ints)

pub abs-negated : (z : ℤ) → unsigned_abs (neg_ℤ z) ≡ unsigned_abs z
abs-negated z = omega (arith, ints)

-- ---- bounds of sizes

pub abs-plus : (x y : ℤ) (a b : ℕ) → unsigned_abs x ≤ a → unsigned_abs y ≤ b → unsigned_abs (x +ℤ y) ≤ a + b
abs-plus x y a b h g = omega (arith, ints)

pub abs-minus : (x y : ℤ) (a b : ℕ) → unsigned_abs x ≤ a → unsigned_abs y ≤ b → unsigned_abs (x -ℤ y) ≤ a + b
abs-minus x y a b h g = omega (arith, ints)

pub abs-times : (x y : ℤ) (a b : ℕ) → unsigned_abs x ≤ a → unsigned_abs y ≤ b → unsigned_abs (x *ℤ y) ≤ a * b
abs-times x y a b h g = subst (λ n. n ≤ a * b) (sym (unsigned_abs-mul x y)) (mul-le-mul h g)

pub abs-neg : (x : ℤ) (a : ℕ) → unsigned_abs x ≤ a → unsigned_abs (neg_ℤ x) ≤ a
abs-neg x a h = omega (arith, ints)

pub abs-signed : (s x : ℤ) (a : ℕ) → unsigned_abs x ≤ a → unsigned_abs (sign s *ℤ x) ≤ a
abs-signed (pos n) x a h = omega (arith, ints)
abs-signed (negsuc n) x a h = omega (arith, ints)

-- a factor is no larger than the product
pub abs-factor : (f x y : ℤ) (b : ℕ) → pos 0 <ℤ f → y ≡ f *ℤ x → unsigned_abs y ≤ b → unsigned_abs x ≤ b
abs-factor f x y b h e g =
    let whole : unsigned_abs y ≡ unsigned_abs f * unsigned_abs x = ap unsigned_abs e ∙ unsigned_abs-mul f x in
    let one : 1 ≤ unsigned_abs f = omega (arith, ints) in
    let more = mul-le-mul one (le_refl (unsigned_abs x)) in
    omega (arith, more, whole, g)
