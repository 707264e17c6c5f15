-- Sums and products of whole numbers: the terms of fractions over 1.
use Rattle.std.proofs.Common.{◌≡◌, inl, Ok, Err, ap, refl, sym, subst, arith}
use Rattle.std.specs.Prelude.{ℤ, pos, neg_ℤ, ◌+ℤ◌, ◌*ℤ◌}
use Rattle.std.proofs.lemmas.Int.{ints}
use Rattle.rg_integers.specs.Value.{SameValue}
use Rattle.rg_fraction.specs.declared.fraction.Fraction.{Fraction}
use Rattle.rg_fraction.specs.Terms.{sum_term, product_term, sum_top, sum_bottom, product_top, product_bottom}
use Rattle.rg_integers.specs.Term.{FitsTerm}
use Rattle.rg_fraction.specs.Fractions.{Shows, IsSum, IsProduct}
use Rattle.rg_fraction.proofs.Ones.{first_part, second_part}

-- ---- the terms

top_is : (n m : ℤ) → sum_top n (pos 1) m (pos 1) ≡ sum_term n m
top_is n m = ap (λ x. record { a = n; b = x; c = neg_ℤ m; d = x }) (second_part (pos 1))

bottom_is : (n m : ℤ) → sum_bottom n (pos 1) m (pos 1) ≡ product_term (pos 1) (pos 1)
bottom_is n m = ap (λ x. product_term x (pos 1)) (second_part (pos 1))

product_top_is : (n m : ℤ) → product_top n (pos 1) m (pos 1) ≡ product_term n m
product_top_is n m = rw (first_part n, first_part m) refl

product_bottom_is : (n m : ℤ) → product_bottom n (pos 1) m (pos 1) ≡ product_term (pos 1) (pos 1)
product_bottom_is n m = rw (second_part n, second_part m) refl

pub ones_fit : FitsTerm (product_term (pos 1) (pos 1))
ones_fit = record { left = omega arith; right = omega arith; difference = omega arith }

bottom_fits : (n m : ℤ) → FitsTerm (sum_bottom n (pos 1) m (pos 1))
bottom_fits n m = subst FitsTerm (sym (bottom_is n m)) ones_fit

-- ---- what the calls for whole numbers answer

pub whole_sum_taken : (n m z : ℤ) (f : Fraction) → FitsTerm (sum_term n m) → z ≡ n +ℤ m → Shows f z (pos 1) → IsSum n (pos 1) m (pos 1) (Ok f)
whole_sum_taken n m z f fits e shows = (subst FitsTerm (sym (top_is n m)) fits, bottom_fits n m, value f.numerator f.denominator shows)
  where
    value : (p q : ℤ) → (p ≡ z) × (q ≡ pos 1) → SameValue p q ((n *ℤ pos 1) +ℤ (m *ℤ pos 1)) (pos 1 *ℤ pos 1)
    value p q s = rw (s.0, s.1, e) (omega (arith, ints))

pub whole_sum_refused : (n m : ℤ) → (FitsTerm (sum_term n m) → ⊥) → IsSum n (pos 1) m (pos 1) (Err (sum_term n m))
whole_sum_refused n m h = inl ((λ fits. h (subst FitsTerm (top_is n m) fits)), sym (top_is n m))

pub whole_product_taken : (n m z : ℤ) (f : Fraction) → FitsTerm (product_term n m) → z ≡ n *ℤ m → Shows f z (pos 1)
    → IsProduct n (pos 1) m (pos 1) (Ok f)
whole_product_taken n m z f fits e shows = (
  subst FitsTerm (sym (product_top_is n m)) fits,
  subst FitsTerm (sym (product_bottom_is n m)) ones_fit,
  value f.numerator f.denominator shows,
)
  where
    value : (p q : ℤ) → (p ≡ z) × (q ≡ pos 1) → SameValue p q (n *ℤ m) (pos 1 *ℤ pos 1)
    value p q s = rw (s.0, s.1, e) refl

pub whole_product_refused : (n m : ℤ) → (FitsTerm (product_term n m) → ⊥) → IsProduct n (pos 1) m (pos 1) (Err (product_term n m))
whole_product_refused n m h = inl ((λ fits. h (subst FitsTerm (product_top_is n m) fits)), sym (product_top_is n m))
