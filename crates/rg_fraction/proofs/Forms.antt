-- What the terms of a sum and of a product are worth, and that those of a product have no common factor.
use Rattle.std.proofs.Common.{◌≡◌, ◌≢◌, ◌⊎◌, ⊎_elim, ℕ, ◌*◌, ap, sym, ◌∙◌, arith}
use Rattle.std.specs.Prelude.{ℤ, pos, neg_ℤ, ◌+ℤ◌, ◌-ℤ◌, ◌*ℤ◌, ◌≤ℤ◌, ◌<ℤ◌, unsigned_abs, int_div}
use Rattle.std.specs.Int.{IsGcd}
use Rattle.std.proofs.lemmas.Int.{ints, unsigned_abs-mul}
use Rattle.std.proofs.lemmas.Nat.Gcd.{IsGcd-swap}
use Rattle.rg_integers.specs.Divisor.{gcd_of, int_gcd}
use Rattle.rg_integers.specs.Value.{SameValue}
use Rattle.rg_integers.proofs.Ring.{ring}
use Rattle.rg_integers.proofs.Order.{mul_positive, positive_differs, quotient_positive}
use Rattle.rg_integers.proofs.Divisors.{gcd_of-is, exact, parts_reduced, int_gcd_positive}
use Rattle.rg_integers.proofs.Coprime.{coprime_factor, coprime_products}
use Rattle.rg_integers.proofs.Values.{SameValue-parts, SameValue-neg}
use Rattle.rg_fraction.specs.Terms.{product_term, sum_top, sum_bottom, product_top, product_bottom, ProductIsReduced}
use Rattle.rg_integers.specs.Term.{term_value}

-- ---- a term that is a product alone

pub product_term_is : (x y : ℤ) → term_value (product_term x y) ≡ x *ℤ y
product_term_is x y = omega (arith, ints)

product_term-positive : (x y : ℤ) → pos 0 <ℤ x → pos 0 <ℤ y → pos 0 <ℤ term_value (product_term x y)
product_term-positive x y h k = rw (product_term_is x y) (mul_positive x y h k)

-- ---- quotients by the greatest common divisor

pub left_exact : (a b : ℤ) → int_div a (int_gcd a b) *ℤ int_gcd a b ≡ a
left_exact a b = exact a (int_gcd a b) (gcd_of-is (unsigned_abs a) (unsigned_abs b)).0

pub right_exact : (a b : ℤ) → int_div b (int_gcd a b) *ℤ int_gcd a b ≡ b
right_exact a b = exact b (int_gcd a b) (gcd_of-is (unsigned_abs a) (unsigned_abs b)).1

divisor_not_negative : (a b : ℤ) → pos 0 ≤ℤ int_gcd a b
divisor_not_negative a b = above (gcd_of (unsigned_abs a) (unsigned_abs b))
  where
    above : (n : ℕ) → pos 0 ≤ℤ pos n
    above n = omega (arith, ints)

pub left_positive : (a b : ℤ) → pos 0 <ℤ a → pos 0 <ℤ int_div a (int_gcd a b)
left_positive a b h = quotient_positive (int_div a (int_gcd a b)) (int_gcd a b) a (divisor_not_negative a b) (left_exact a b) h

pub right_positive : (a b : ℤ) → pos 0 <ℤ b → pos 0 <ℤ int_div b (int_gcd a b)
right_positive a b h = quotient_positive (int_div b (int_gcd a b)) (int_gcd a b) b (divisor_not_negative a b) (right_exact a b) h

pub quotients_reduced : (a b : ℤ) → b ≢ pos 0 → IsGcd (unsigned_abs (int_div a (int_gcd a b))) (unsigned_abs (int_div b (int_gcd a b))) 1
quotients_reduced a b ne =
    parts_reduced a b (int_gcd a b) _ _ (gcd_of-is (unsigned_abs a) (unsigned_abs b)) (positive_differs (int_gcd a b) (int_gcd_positive a b ne))
    (left_exact a b) (right_exact a b)

-- ---- the sum

-- n/d + m/e over the denominator (d/g)*e, where d = x*g and e = y*g
sum_parts : (n d m e g x y : ℤ) → x *ℤ g ≡ d → y *ℤ g ≡ e → SameValue ((n *ℤ y) -ℤ (neg_ℤ m *ℤ x)) (x *ℤ e) ((n *ℤ e) +ℤ (m *ℤ d)) (d *ℤ e)
sum_parts n d m e g x y p q = simp (sym p, sym q, ring) (omega (arith, ints))

pub sum-value : (n d m e : ℤ) → SameValue (term_value (sum_top n d m e)) (term_value (sum_bottom n d m e)) ((n *ℤ e) +ℤ (m *ℤ d)) (d *ℤ e)
sum-value n d m e =
    rw (product_term_is (int_div d (int_gcd d e)) e)
    (sum_parts n d m e (int_gcd d e) (int_div d (int_gcd d e)) (int_div e (int_gcd d e)) (left_exact d e) (right_exact d e))

pub sum-positive : (n d m e : ℤ) → pos 0 <ℤ d → pos 0 <ℤ e → pos 0 <ℤ term_value (sum_bottom n d m e)
sum-positive n d m e hd he = product_term-positive (int_div d (int_gcd d e)) e (left_positive d e hd) he

-- ---- the product

-- n/d * m/e over (d/h)*(e/g), where n = a*g, e = b*g, m = x*h and d = y*h
product_parts : (n d m e g h a b x y : ℤ) → a *ℤ g ≡ n → b *ℤ g ≡ e → x *ℤ h ≡ m → y *ℤ h ≡ d → SameValue (a *ℤ x) (y *ℤ b) (n *ℤ m) (d *ℤ e)
product_parts n d m e g h a b x y p q r s = simp (sym p, sym q, sym r, sym s, ring)

sizes : (x g z : ℤ) → x *ℤ g ≡ z → unsigned_abs x * unsigned_abs g ≡ unsigned_abs z
sizes x g z e = sym (unsigned_abs-mul x g) ∙ ap unsigned_abs e

-- no factor of a numerator that is left has a common factor with a denominator that is left
product_reduced : (n d m e g h a b x y : ℤ) → IsGcd (unsigned_abs n) (unsigned_abs d) 1 → IsGcd (unsigned_abs m) (unsigned_abs e) 1
    → IsGcd (unsigned_abs a) (unsigned_abs b) 1 → IsGcd (unsigned_abs x) (unsigned_abs y) 1
    → a *ℤ g ≡ n → b *ℤ g ≡ e → x *ℤ h ≡ m → y *ℤ h ≡ d → IsGcd (unsigned_abs (a *ℤ x)) (unsigned_abs (y *ℤ b)) 1
product_reduced n d m e g h a b x y nd me ab xy p q r s =
    rw (unsigned_abs-mul a x, unsigned_abs-mul y b)
    (coprime_products (unsigned_abs a) (unsigned_abs x) (unsigned_abs y) (unsigned_abs b)
    (both (unsigned_abs a) (unsigned_abs g) (unsigned_abs n) (unsigned_abs y) (unsigned_abs h) (unsigned_abs d) (sizes a g n p) (sizes y h d s) nd)
    ab xy
    (both (unsigned_abs x) (unsigned_abs h) (unsigned_abs m) (unsigned_abs b) (unsigned_abs g) (unsigned_abs e) (sizes x h m r) (sizes b g e q) me))
  where
    both : (a g n y h d : ℕ) → a * g ≡ n → y * h ≡ d → IsGcd n d 1 → IsGcd a y 1
    both a g n y h d p q k = IsGcd-swap y a 1 (coprime_factor y h d a q (IsGcd-swap a d 1 (coprime_factor a g n d p k)))

pub product-positive : (n d m e : ℤ) → pos 0 <ℤ d → pos 0 <ℤ e → pos 0 <ℤ term_value (product_bottom n d m e)
product-positive n d m e hd he =
    product_term-positive (int_div d (int_gcd m d)) (int_div e (int_gcd n e)) (right_positive m d hd) (right_positive n e he)

pub product-value : (n d m e : ℤ) → SameValue (term_value (product_top n d m e)) (term_value (product_bottom n d m e)) (n *ℤ m) (d *ℤ e)
product-value n d m e =
    rw (product_term_is (int_div n (int_gcd n e)) (int_div m (int_gcd m d)), product_term_is (int_div d (int_gcd m d)) (int_div e (int_gcd n e)))
    (product_parts n d m e (int_gcd n e) (int_gcd m d)
    (int_div n (int_gcd n e)) (int_div e (int_gcd n e)) (int_div m (int_gcd m d)) (int_div d (int_gcd m d))
    (left_exact n e) (right_exact n e) (left_exact m d) (right_exact m d))

-- the two terms are the reduced form of the product of reduced fractions
pub product_form : (n d m e : ℤ) → pos 0 <ℤ d → pos 0 <ℤ e → IsGcd (unsigned_abs n) (unsigned_abs d) 1 → IsGcd (unsigned_abs m) (unsigned_abs e) 1
    → ProductIsReduced n d m e
product_form n d m e hd he nd me = record {
  positive = product-positive n d m e hd he;
  reduced = rw (
    product_term_is (int_div n (int_gcd n e)) (int_div m (int_gcd m d)),
    product_term_is (int_div d (int_gcd m d)) (int_div e (int_gcd n e)),
  )
      (product_reduced n d m e (int_gcd n e) (int_gcd m d)
      (int_div n (int_gcd n e)) (int_div e (int_gcd n e)) (int_div m (int_gcd m d)) (int_div d (int_gcd m d)) nd me
      (quotients_reduced n e (positive_differs e he)) (quotients_reduced m d (positive_differs d hd))
      (left_exact n e) (right_exact n e) (left_exact m d) (right_exact m d));
  value = product-value n d m e;
}

-- ---- what `new` answers

-- n = top * g over d = bottom * g, with either sign
pub from_reduced-value : (p q top bottom n d g : ℤ) → top *ℤ g ≡ n → bottom *ℤ g ≡ d
    → ((p ≡ top) × (q ≡ bottom)) ⊎ ((p ≡ neg_ℤ top) × (q ≡ neg_ℤ bottom)) → SameValue p q n d
from_reduced-value p q top bottom n d g e f h = ⊎_elim
    (λ (s : (p ≡ top) × (q ≡ bottom)). rw (s.0, s.1) (SameValue-parts n d top bottom g e f))
    (λ (s : (p ≡ neg_ℤ top) × (q ≡ neg_ℤ bottom)). rw (s.0, s.1) (SameValue-neg n d top bottom (SameValue-parts n d top bottom g e f))) h
