-- Which numbers are in range with others.
use Rattle.std.proofs.Common.{◌≡◌, ◌⊎◌, ⊎_elim, ◌*◌, ◌<◌, ◌^◌, inl, inr, ap, subst, sym, ◌∙◌, arith}
use Rattle.std.specs.Prelude.{ℤ, pos, neg_ℤ, ◌-ℤ◌, ◌*ℤ◌, ◌<ℤ◌, unsigned_abs}
use Rattle.std.specs.Int.{w128, cast_signed, cast_unsigned}
use Rattle.std.proofs.lemmas.Bool.{cases_lt}
use Rattle.std.proofs.lemmas.Int.{ints}
use Rattle.rg_integers.specs.Range.{InRange, Fits}
use Rattle.rg_integers.specs.Sign.{sign}
use Rattle.rg_integers.proofs.Casts.{back}
use Rattle.rg_integers.proofs.Signs.{abs-neg, abs-signed, abs-factor}

pub in_range_or_not : (z : ℤ) → InRange z ⊎ ¬ InRange z
in_range_or_not z = ⊎_elim (λ less. inl less) (λ past. inr (λ h. omega arith)) (cases_lt (unsigned_abs z) (2 ^ 127))

pub fits_or_not : (a b c d : ℤ) → Fits a b c d ⊎ ¬ Fits a b c d
fits_or_not a b c d = go (in_range_or_not (a *ℤ b)) (in_range_or_not (c *ℤ d)) (in_range_or_not ((a *ℤ b) -ℤ (c *ℤ d)))
  where
    go : InRange (a *ℤ b) ⊎ ¬ InRange (a *ℤ b) → InRange (c *ℤ d) ⊎ ¬ InRange (c *ℤ d)
        → InRange ((a *ℤ b) -ℤ (c *ℤ d)) ⊎ ¬ InRange ((a *ℤ b) -ℤ (c *ℤ d)) → Fits a b c d ⊎ ¬ Fits a b c d
    go (inl x) (inl y) (inl z) = inl (record { left = x; right = y; difference = z })
    go (inr x) _ _ = inr (λ f. x f.left)
    go (inl _) (inr y) _ = inr (λ f. y f.right)
    go (inl _) (inl _) (inr z) = inr (λ f. z f.difference)

pub zero_in_range : InRange (pos 0)
zero_in_range = omega arith

pub in_range-neg : (z : ℤ) → InRange z → InRange (neg_ℤ z)
in_range-neg z h = let g = abs-neg z (unsigned_abs z) (omega arith) in omega arith

pub in_range-signed : (s z : ℤ) → InRange z → InRange (sign s *ℤ z)
in_range-signed s z h = let g = abs-signed s z (unsigned_abs z) (omega arith) in omega arith

pub in_range-factor : (f x y : ℤ) → pos 0 <ℤ f → y ≡ f *ℤ x → InRange y → InRange x
in_range-factor f x y h e g = let r = abs-factor f x y (unsigned_abs y) h e (omega arith) in omega arith

-- the negative that the code forms
pub negated : (z : ℤ) → InRange z → cast_signed w128 (cast_unsigned w128 (pos 0 -ℤ cast_signed w128 (cast_unsigned w128 z))) ≡ neg_ℤ z
negated z h = ap (λ x. cast_signed w128 (cast_unsigned w128 (pos 0 -ℤ x))) (back z h) ∙ back (pos 0 -ℤ z) (subst InRange (sym is) (in_range-neg z h)) ∙ is
  where
    is : pos 0 -ℤ z ≡ neg_ℤ z
    is = omega (arith, ints)
