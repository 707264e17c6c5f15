-- Terms of value 0: they are never out of range, and leave a sum as it is.
use Rattle.std.proofs.Common.{◌≡◌, ◌≢◌, ℕ, zero, suc, ◌/◌, ◌<◌, ◌≤◌, ◌^◌, ap, refl, subst, sym, List, ◌∷◌, Ok, Err, Result, inr, arith}
use Rattle.std.specs.Prelude.{ℤ, pos, negsuc, neg_ℤ, ◌+ℤ◌, ◌-ℤ◌, ◌*ℤ◌, ◌<ℤ◌, unsigned_abs, int_div}
use Rattle.std.proofs.Math.Nat.{zero-div, div-le_self}
use Rattle.std.proofs.lemmas.Int.{ints}
use Rattle.rg_integers.specs.Range.{InRange}
use Rattle.rg_integers.specs.Divisor.{gcd_of, int_gcd}
use Rattle.rg_integers.specs.Value.{SameValue}
use Rattle.rg_integers.proofs.Order.{positive_differs}
use Rattle.rg_integers.proofs.Values.{SameValue-parts, SameValue-neg}
use Rattle.rg_integers.specs.declared.term.Wide.{Wide}
use Rattle.rg_fraction.specs.declared.fraction.Fraction.{Fraction}
use Rattle.rg_fraction.specs.Terms.{product_term, sum_top, sum_bottom, product_top, product_bottom}
use Rattle.rg_integers.specs.Term.{FitsTerm}
use Rattle.rg_fraction.proofs.Ones.{one_is_reduced, first_part, second_part}
use Rattle.rg_fraction.proofs.Forms.{left_exact, right_exact, right_positive, quotients_reduced}
use Rattle.rg_folds.specs.Fold.{and_then, further, Ratio, whole, ratio_of, IsRatio, quotient, add, mul, IsWithin}
use Rattle.rg_integers.proofs.Ring.{mul-one as times_one}
use Rattle.rg_fraction.proofs.Wholes.{ones_fit as one_fits}

-- a quotient is no greater than the number
smaller : (z : ℤ) (n : ℕ) → InRange z → InRange (int_div z (pos n))
smaller (pos a) n h = let l : a / n ≤ a = div-le_self a n in omega arith
smaller (negsuc a) n h = let l : suc a / n ≤ suc a = div-le_self (suc a) n in negated (suc a / n) (omega arith)
  where
    negated : (m : ℕ) → m < 2 ^ 127 → InRange (neg_ℤ (pos m))
    negated m h = omega (arith, ints)

-- ---- every quotient of numbers in range has a value, with numbers in range

abbrev pub SomeQuotient : ℤ → ℤ → Type 0
SomeQuotient n d = (k : Ratio) × IsRatio k n d × IsWithin k

positive_quotient : (n d : ℤ) → pos 0 <ℤ d → InRange n → InRange d → SomeQuotient n d
positive_quotient n d h hn hd = (
  record { top = int_div n (int_gcd n d); bottom = int_div d (int_gcd n d) },
  record {
    nonzero = positive_differs d h;
    positive = right_positive n d h;
    reduced = quotients_reduced n d (positive_differs d h);
    value = SameValue-parts n d _ _ (int_gcd n d) (left_exact n d) (right_exact n d);
  },
  record {
    positive = right_positive n d h;
    reduced = quotients_reduced n d (positive_differs d h);
    top_in_range = smaller n (gcd_of (unsigned_abs n) (unsigned_abs d)) hn;
    bottom_in_range = smaller d (gcd_of (unsigned_abs n) (unsigned_abs d)) hd;
  },
)

turned_quotient : (n d : ℤ) → d ≢ pos 0 → SomeQuotient (neg_ℤ n) (neg_ℤ d) → SomeQuotient n d
turned_quotient n d ne (k, h, within) = (
  k,
  record {
    nonzero = ne;
    positive = h.positive;
    reduced = h.reduced;
    value = back k.top k.bottom h.value;
  },
  within,
)
  where
    twice : (z : ℤ) → neg_ℤ (neg_ℤ z) ≡ z
    twice z = omega (arith, ints)

    back : (p q : ℤ) → SameValue p q (neg_ℤ n) (neg_ℤ d) → SameValue p q n d
    back p q e = sym (rw (twice n, twice d) at (SameValue-neg p q (neg_ℤ n) (neg_ℤ d) (sym e)))

pub some_quotient : (n d : ℤ) → d ≢ pos 0 → InRange n → InRange d → SomeQuotient n d
some_quotient n (pos zero) ne hn hd = absurd (ne refl)
some_quotient n (pos (suc d)) ne hn hd = positive_quotient n (pos (suc d)) (above d) hn hd
  where
    above : (d : ℕ) → pos 0 <ℤ pos (suc d)
    above d = omega (arith, ints)
some_quotient n (negsuc d) ne hn hd = turned_quotient n (negsuc d) ne (positive_quotient (neg_ℤ n) (neg_ℤ (negsuc d)) (above d) (turned n hn) (turned (negsuc d) hd))
  where
    above : (d : ℕ) → pos 0 <ℤ neg_ℤ (negsuc d)
    above d = omega (arith, ints)

    turned : (z : ℤ) → InRange z → InRange (neg_ℤ z)
    turned z h = omega (arith, ints)

-- ---- terms

product_fits : (x y : ℤ) → InRange (x *ℤ y) → FitsTerm (product_term x y)
product_fits x y h = record { left = h; right = omega arith; difference = by (x *ℤ y) h }
  where
    by : (z : ℤ) → InRange z → InRange (z -ℤ (pos 0 *ℤ pos 0))
    by z h = omega (arith, ints)

zero_times : (z : ℤ) → InRange (pos 0 *ℤ z)
zero_times z = omega (arith, ints)

times_zero : (z : ℤ) → InRange (z *ℤ pos 0)
times_zero z = omega (arith, ints)

-- 0 over a number that isn't 0
pub zero_ratio : (d : ℤ) → d ≢ pos 0 → IsRatio (whole (pos 0)) (pos 0) d
zero_ratio d ne = record { nonzero = ne; positive = omega (arith, ints); reduced = one_is_reduced 0; value = both d }
  where
    both : (d : ℤ) → SameValue (pos 0) (pos 1) (pos 0) d
    both d = omega (arith, ints)

once : (z : ℤ) → InRange z → InRange (pos 1 *ℤ z)
once z h = omega (arith, ints)

once_back : (z : ℤ) → InRange z → InRange (z *ℤ pos 1)
once_back z h = omega (arith, ints)

less_none : (z y : ℤ) → InRange z → InRange ((z *ℤ pos 1) -ℤ (pos 0 *ℤ y))
less_none z y h = omega (arith, ints)

kept : (p q : ℤ) → SameValue p q (p +ℤ (pos 0 *ℤ q)) q
kept p q = rw (none p q) refl
  where
    none : (p q : ℤ) → p +ℤ (pos 0 *ℤ q) ≡ p
    none p q = omega (arith, ints)

none_left : (e : ℤ) → int_div (pos 0) (int_gcd (pos 0) e) ≡ pos 0
none_left e = ap pos (zero-div (gcd_of 0 (unsigned_abs e)))

-- 0 over a product with a number above 0
zero_ratio_of : (n d : ℤ) → pos 0 <ℤ d → IsRatio (whole (pos 0)) (n *ℤ pos 0) d
zero_ratio_of n d h = subst (λ z. IsRatio (whole (pos 0)) z d) (sym (none n)) (zero_ratio d (positive_differs d h))
  where
    none : (n : ℤ) → n *ℤ pos 0 ≡ pos 0
    none n = omega (arith, ints)

none_of : (n d : ℤ) → pos 0 <ℤ d → IsRatio (whole (pos 0)) (pos 0 *ℤ n) (pos 1 *ℤ d)
none_of n d h = subst (λ z. IsRatio (whole (pos 0)) z (pos 1 *ℤ d)) (sym (none n)) (zero_ratio (pos 1 *ℤ d) (differs d h))
  where
    none : (n : ℤ) → pos 0 *ℤ n ≡ pos 0
    none n = omega (arith, ints)

    differs : (d : ℤ) → pos 0 <ℤ d → pos 1 *ℤ d ≢ pos 0
    differs d h e = omega (arith, ints)

-- ---- products

-- a count of 0 times a number
pub zero_count : (k : Ratio) → IsWithin k → mul (whole (pos 0)) k (Ok (whole (pos 0)))
zero_count k h = (top, bottom, none_of k.top k.bottom h.positive)
  where
    part : InRange (int_div k.bottom (int_gcd (pos 0) k.bottom))
    part = smaller k.bottom (gcd_of 0 (unsigned_abs k.bottom)) h.bottom_in_range

    top : FitsTerm (product_top (pos 0) (pos 1) k.top k.bottom)
    top = subst (λ x. FitsTerm (product_term x (int_div k.top (int_gcd k.top (pos 1))))) (sym (none_left k.bottom))
        (product_fits (pos 0) (int_div k.top (int_gcd k.top (pos 1))) (zero_times (int_div k.top (int_gcd k.top (pos 1)))))

    bottom : FitsTerm (product_bottom (pos 0) (pos 1) k.top k.bottom)
    bottom = subst (λ x. FitsTerm (product_term x (int_div k.bottom (int_gcd (pos 0) k.bottom)))) (sym (second_part k.top))
        (product_fits (pos 1) _ (once (int_div k.bottom (int_gcd (pos 0) k.bottom)) part))

-- a count times 0
pub zero_entry : (z : ℤ) → InRange z → mul (whole z) (whole (pos 0)) (Ok (whole (pos 0)))
zero_entry z h = (top, bottom, zero_ratio_of z (pos 1) (omega (arith, ints)))
  where
    top : FitsTerm (product_top z (pos 1) (pos 0) (pos 1))
    top = subst (λ x. FitsTerm (product_term x (int_div (pos 0) (int_gcd (pos 0) (pos 1))))) (sym (first_part z))
        (subst (λ x. FitsTerm (product_term z x)) (sym (none_left (pos 1))) (product_fits z (pos 0) (times_zero z)))

    bottom : FitsTerm (product_bottom z (pos 1) (pos 0) (pos 1))
    bottom = subst (λ x. FitsTerm (product_term x (int_div (pos 1) (int_gcd z (pos 1))))) (sym (second_part (pos 0)))
        (subst (λ x. FitsTerm (product_term (pos 1) x)) (sym (second_part z)) one_fits)

-- ---- sums

pub plus_zero : (f : Ratio) → IsWithin f → add f (whole (pos 0)) (Ok f)
plus_zero f h = (top, bottom, value)
  where
    top : FitsTerm (sum_top f.top f.bottom (pos 0) (pos 1))
    top = subst (λ x. FitsTerm (record { a = f.top; b = x; c = pos 0; d = int_div f.bottom (int_gcd f.bottom (pos 1)) })) (sym (second_part f.bottom))
        (record {
          left = once_back f.top h.top_in_range;
          right = zero_times (int_div f.bottom (int_gcd f.bottom (pos 1)));
          difference = less_none f.top (int_div f.bottom (int_gcd f.bottom (pos 1))) h.top_in_range;
        })

    bottom : FitsTerm (sum_bottom f.top f.bottom (pos 0) (pos 1))
    bottom = subst (λ x. FitsTerm (product_term x (pos 1))) (sym (first_part f.bottom)) (product_fits f.bottom (pos 1) (once_back f.bottom h.bottom_in_range))

    value : IsRatio f ((f.top *ℤ pos 1) +ℤ (pos 0 *ℤ f.bottom)) (f.bottom *ℤ pos 1)
    value = record {
      nonzero = rw (times_one f.bottom) (positive_differs f.bottom h.positive);
      positive = h.positive;
      reduced = h.reduced;
      value = rw (times_one f.bottom, times_one f.top) (kept f.top f.bottom);
    }

-- ---- what a label adds

-- a count of 0 adds nothing, nor does an entry of 0
pub count_adds_nothing : (n d : ℤ) → d ≢ pos 0 → InRange n → InRange d → and_then (quotient n d) (mul (whole (pos 0))) (Ok (whole (pos 0)))
count_adds_nothing n d ne hn hd = let (k, h, within) = some_quotient n d ne hn hd in (k, h, zero_count k within)

pub entry_adds_nothing : (d count : ℤ) → d ≢ pos 0 → InRange count → and_then (quotient (pos 0) d) (mul (whole count)) (Ok (whole (pos 0)))
entry_adds_nothing d count ne h = (whole (pos 0), zero_ratio d ne, zero_entry count h)

-- a fold passes over an item that is made to 0
pub passes_over : {A : Type 0} (make : A → Result Ratio Wide → Type 0) (a : A) (rest : List A) (sum : Ratio) (r : Result Ratio Wide)
    → IsWithin sum → make a (Ok (whole (pos 0))) → further add make sum rest r → further add make sum (a ∷ rest) r
passes_over make a rest sum (Ok y) within made h = (whole (pos 0), made, (sum, plus_zero sum within, h))
passes_over make a rest sum (Err w) within made h = inr (whole (pos 0), made, inr (sum, plus_zero sum within, h))

pub fraction_within : (f : Fraction) → IsWithin (ratio_of f)
fraction_within f = record { positive = f.positive; reduced = f.reduced; top_in_range = f.numerator_in_range; bottom_in_range = f.denominator_in_range }
