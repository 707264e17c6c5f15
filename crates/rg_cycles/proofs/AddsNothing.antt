-- One step of the sum for a free label: a term that is added, and one of value 0 that is passed over.
use Rattle.std.proofs.Common.{◌≡◌, ◌≢◌, Result, Ok, Err, inr, subst, sym, arith}
use Rattle.std.specs.Prelude.{ℤ, pos, ◌*ℤ◌, ◌-ℤ◌}
use Rattle.std.proofs.Math.IntN.{*ℤ_comm}
use Rattle.std.proofs.lemmas.Int.{ints}
use Rattle.std.specs.Int.{w128, cast_unsigned}
use Rattle.rg_integers.specs.Range.{InRange}
use Rattle.rg_integers.proofs.Casts.{zero_of_bits}
use Rattle.rg_integers.specs.declared.term.Wide.{Wide}
use Rattle.rg_fraction.specs.declared.fraction.Fraction.{Fraction}
use Rattle.rg_fraction.specs.Fractions.{numerator_of, denominator_of}
use Rattle.rg_fraction.specs.Terms.{product_term}
use Rattle.rg_integers.specs.Term.{FitsTerm}
use Rattle.rg_folds.specs.Fold.{and_then, Ratio, whole, ratio_of, shown_result, IsRatio, quotient, add, mul}
use Rattle.rg_folds.proofs.Zeros.{count_adds_nothing, entry_adds_nothing, plus_zero, zero_count, zero_ratio, fraction_within}
use Rattle.rg_folds.proofs.Folding.{whole_is}

pub entry_passed_over : (n d count : ℤ) (sum : Fraction) → InRange n → cast_unsigned w128 n ≡ 0 → d ≢ pos 0 → InRange count
    → and_then (and_then (quotient n d) (mul (whole count))) (add (ratio_of sum)) (Ok (ratio_of sum))
entry_passed_over n d count sum h e ne hc =
    subst (λ z. and_then (and_then (quotient z d) (mul (whole count))) (add (ratio_of sum)) (Ok (ratio_of sum))) (sym (zero_of_bits n h e))
    (whole (pos 0), entry_adds_nothing d count ne hc, plus_zero (ratio_of sum) (fraction_within sum))

pub term_added : (first : Result Ratio Wide → Type 0) (sum x : Ratio) (r : Result Fraction Wide) → first (Ok x) → add sum x (shown_result ratio_of r)
    → and_then first (add sum) (shown_result ratio_of r)
term_added first sum x (Ok h) made joins = (x, made, joins)
term_added first sum x (Err w) made joins = inr (x, made, joins)

-- ---- products of fractions with 0

-- the fraction whose numerator is 0
pub none_is : (f : Fraction) → numerator_of f ≡ pos 0 → ratio_of f ≡ whole (pos 0)
none_is f e = whole_is f (pos 0) (value (numerator_of f) (denominator_of f) e)
  where
    value : (n d : ℤ) → n ≡ pos 0 → n *ℤ pos 1 ≡ pos 0 *ℤ d
    value n d e = omega (arith, ints)

fits_turned : (x y : ℤ) → FitsTerm (product_term x y) → FitsTerm (product_term y x)
fits_turned x y h = record {
  left = subst InRange (*ℤ_comm x y) h.left;
  right = h.right;
  difference = subst (λ z. InRange (z -ℤ (pos 0 *ℤ pos 0))) (*ℤ_comm x y) h.difference;
}

product_turned : (f g h : Ratio) → mul f g (Ok h) → mul g f (Ok h)
product_turned f g h (top, bottom, is) = (
  fits_turned _ _ top,
  fits_turned _ _ bottom,
  subst (λ z. IsRatio h z (g.bottom *ℤ f.bottom)) (*ℤ_comm f.top g.top) (subst (λ z. IsRatio h (f.top *ℤ g.top) z) (*ℤ_comm f.bottom g.bottom) is),
)

-- a fraction times 0
pub times_none : (f : Fraction) → mul (ratio_of f) (whole (pos 0)) (Ok (whole (pos 0)))
times_none f = product_turned (whole (pos 0)) (ratio_of f) (whole (pos 0)) (zero_count (ratio_of f) (fraction_within f))

-- a fraction of value 0 times a number
pub value_adds_nothing : (n d : ℤ) (f : Fraction) → d ≢ pos 0 → InRange n → InRange d → numerator_of f ≡ pos 0 → and_then (quotient n d) (mul (ratio_of f)) (Ok (whole (pos 0)))
value_adds_nothing n d f ne hn hd e = subst (λ v. and_then (quotient n d) (mul v) (Ok (whole (pos 0)))) (sym (none_is f e)) (count_adds_nothing n d ne hn hd)

-- a fraction times a number that is 0
pub number_adds_nothing : (n d : ℤ) (f : Fraction) → d ≢ pos 0 → n ≡ pos 0 → and_then (quotient n d) (mul (ratio_of f)) (Ok (whole (pos 0)))
number_adds_nothing n d f ne e = (whole (pos 0), subst (λ z. quotient z d (Ok (whole (pos 0)))) (sym e) (zero_ratio d ne), times_none f)

-- a sum with a term of value 0
pub plus_none : (sum term : Fraction) → numerator_of term ≡ pos 0 → add (ratio_of sum) (ratio_of term) (Ok (ratio_of sum))
plus_none sum term e = subst (λ z. add (ratio_of sum) z (Ok (ratio_of sum))) (sym (none_is term e)) (plus_zero (ratio_of sum) (fraction_within sum))
