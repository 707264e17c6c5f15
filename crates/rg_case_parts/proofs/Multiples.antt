-- Least common multiples of positive numbers.
use Rattle.std.proofs.Common.{◌≡◌, ℕ, suc, ◌+◌, ◌<◌, List, [], ◌∷◌, All, map, drop, length, Result, Ok, Err, ap, refl, subst, sym, ◌∙◌, inl, inr, add-one, arith}
use Rattle.std.specs.Prelude.{ℤ, pos, ◌-ℤ◌, ◌*ℤ◌, int_div, unsigned_abs, slice_index_or}
use Rattle.std.proofs.Math.Nat.{one-dvd}
use Rattle.std.proofs.Math.Seq.{drop-cons}
use Rattle.std.proofs.lemmas.Int.{ints}
use Rattle.rg_integers.specs.Divisor.{int_gcd}
use Rattle.rg_integers.specs.Range.{InRange}
use Rattle.rg_integers.specs.Term.{FitsTerm}
use Rattle.rg_integers.specs.declared.term.Wide.{Wide}
use Rattle.rg_integers.proofs.Divisors.{gcd_of-only}
use Rattle.rg_integers.proofs.Order.{positive_differs}
use Rattle.rg_integers.proofs.Ring.{mul-one}
use Rattle.rg_fraction.specs.declared.fraction.Fraction.{Fraction}
use Rattle.rg_fraction.specs.Fractions.{numerator_of, denominator_of}
use Rattle.rg_fraction.specs.Terms.{product_term, product_top, product_bottom}
use Rattle.rg_fraction.proofs.Ones.{first_part, second_part, one_is_reduced, over_one}
use Rattle.rg_folds.specs.Fold.{gives, each, further, common_multiple, multiple_of_all, IsRatio, IsWithin, Ratio, ratio_of, whole, mul, term}
use Rattle.rg_case_folds.specs.Rewriting.{scaled_fold}
use Rattle.rg_folds.proofs.Folding.{further_next, further_unjoined}
use Rattle.rg_folds.proofs.Zeros.{fraction_within}

-- the multiple so far, and the numbers from i on
module _ (all : List ℤ) (i : ℕ) (d : ℤ) (lt : i < length all) (sum : ℤ) (target : Result ℤ Wide → Type 0)
    (so_far : (r : Result ℤ Wide) → further common_multiple gives sum (drop i all) r → target r) where
  at : (r : Result ℤ Wide) → further common_multiple gives sum (slice_index_or all i d ∷ drop (i + 1) all) r → target r
  at r h = so_far r (subst (λ l. further common_multiple gives sum l r) (sym (drop-cons all i d lt ∙ ap (λ n. slice_index_or all i d ∷ drop n all) (sym (add-one i)))) h)

  pub multiple_next : (more : ℤ) → common_multiple sum (slice_index_or all i d) (Ok more) → (r : Result ℤ Wide) → further common_multiple gives more (drop (i + 1) all) r → target r
  multiple_next more joins r h = at r (further_next common_multiple gives (slice_index_or all i d) (drop (i + 1) all) sum (slice_index_or all i d) more refl joins r h)

  pub multiple_fails : (w : Wide) → common_multiple sum (slice_index_or all i d) (Err w) → target (Err w)
  multiple_fails w joins = at (Err w) (further_unjoined common_multiple gives (slice_index_or all i d) (drop (i + 1) all) sum (slice_index_or all i d) w refl joins)

-- ---- the numbers of fractions

pub bottoms : (fs : List Fraction) → map (λ (r : Ratio). r.bottom) (map ratio_of fs) ≡ map denominator_of fs
bottoms [] = refl
bottoms (f ∷ fs) = ap (λ l. denominator_of f ∷ l) (bottoms fs)

pub tops : (fs : List Fraction) → map (λ (r : Ratio). r.top) (map ratio_of fs) ≡ map numerator_of fs
tops [] = refl
tops (f ∷ fs) = ap (λ l. numerator_of f ∷ l) (tops fs)

-- ---- the fractions, multiplied

module _ (numbers : List Ratio) where
  pub scaled_unmultiplied : (w : Wide) → multiple_of_all (map (λ r. r.bottom) numbers) (Err w) → scaled_fold numbers (Err w)
  scaled_unmultiplied w h = inl h

  module _ (m : ℤ) (multiple : multiple_of_all (map (λ r. r.bottom) numbers) (Ok m)) where
    pub scaled_unmade : (w : Wide) → each (λ r. mul r (whole m)) numbers (Err w) → scaled_fold numbers (Err w)
    scaled_unmade w h = inr (m, multiple, inl h)

    pub scaled_made : (products : List Ratio) → each (λ r. mul r (whole m)) numbers (Ok products) → scaled_fold numbers (Ok (record { multiple = m; numbers = map (λ r. r.top) products }))
    scaled_made products h = (m, multiple, (products, h, refl))

-- ---- by 1

once_fits : (z : ℤ) → InRange z → FitsTerm (product_term z (pos 1))
once_fits z h = record { left = once z h; right = omega arith; difference = less_none z h }
  where
    once : (z : ℤ) → InRange z → InRange (z *ℤ pos 1)
    once z h = omega (arith, ints)

    less_none : (z : ℤ) → InRange z → InRange ((z *ℤ pos 1) -ℤ (pos 0 *ℤ pos 0))
    less_none z h = omega (arith, ints)

-- the least common multiple with 1
pub multiple_with_one : (x : ℤ) → InRange x → common_multiple x (pos 1) (Ok x)
multiple_with_one x h = subst (λ z. term (product_term z (pos 1)) (Ok x)) (sym (first_part x)) (once_fits x h, value x)
  where
    value : (z : ℤ) → z ≡ (z *ℤ pos 1) -ℤ (pos 0 *ℤ pos 0)
    value z = omega (arith, ints)

one_divides : (d : ℤ) → int_gcd (pos 1) d ≡ pos 1
one_divides d = ap pos (sym (gcd_of-only 1 _ 1 (one-dvd _, one-dvd _, λ k p q. p)))

-- a number times 1
times_one : (f : Ratio) → IsWithin f → mul f (whole (pos 1)) (Ok f)
times_one f h = (top, bottom, value)
  where
    top : FitsTerm (product_top f.top f.bottom (pos 1) (pos 1))
    top = subst (λ x. FitsTerm (product_term x (int_div (pos 1) (int_gcd (pos 1) f.bottom)))) (sym (first_part f.top))
        (subst (λ g. FitsTerm (product_term f.top (int_div (pos 1) g))) (sym (one_divides f.bottom)) (once_fits f.top h.top_in_range))

    bottom : FitsTerm (product_bottom f.top f.bottom (pos 1) (pos 1))
    bottom = subst (λ x. FitsTerm (product_term (int_div f.bottom (int_gcd (pos 1) f.bottom)) x)) (sym (second_part f.top))
        (subst (λ g. FitsTerm (product_term (int_div f.bottom g) (pos 1))) (sym (one_divides f.bottom))
        (subst (λ x. FitsTerm (product_term x (pos 1))) (sym (over_one f.bottom)) (once_fits f.bottom h.bottom_in_range)))

    value : IsRatio f (f.top *ℤ pos 1) (f.bottom *ℤ pos 1)
    value = record {
      nonzero = rw (mul-one f.bottom) (positive_differs f.bottom h.positive);
      positive = h.positive;
      reduced = h.reduced;
      value = rw (mul-one f.bottom, mul-one f.top) refl;
    }

-- fractions times 1
pub all_times_one : (fs : List Fraction) → each (λ f. mul f (whole (pos 1))) (map ratio_of fs) (Ok (map ratio_of fs))
all_times_one [] = refl
all_times_one (f ∷ fs) = (ratio_of f, times_one (ratio_of f) (fraction_within f), (map ratio_of fs, all_times_one fs, refl))

-- ---- whole numbers

all_whole : (zs : List ℤ) → All InRange zs → each (λ r. mul r (whole (pos 1))) (map whole zs) (Ok (map whole zs))
all_whole [] h = refl
all_whole (z ∷ zs) h = (whole z, times_one (whole z) (within z (h 0 z (omega arith))), (map whole zs, all_whole zs (λ k d lt. h (suc k) d (omega arith)), refl))
  where
    within : (z : ℤ) → InRange z → IsWithin (whole z)
    within z h = record { positive = omega (arith, ints); reduced = one_is_reduced (unsigned_abs z); top_in_range = h; bottom_in_range = omega arith }

-- the least common multiple of ones
further_ones : (zs : List ℤ) → further common_multiple gives (pos 1) (map (λ (r : Ratio). r.bottom) (map whole zs)) (Ok (pos 1))
further_ones [] = refl
further_ones (z ∷ zs) = (pos 1, refl, (pos 1, multiple_with_one (pos 1) (omega arith), further_ones zs))

multiple_of_ones : (zs : List ℤ) → multiple_of_all (map (λ (r : Ratio). r.bottom) (map whole zs)) (Ok (pos 1))
multiple_of_ones [] = refl
multiple_of_ones (z ∷ zs) = (pos 1, refl, further_ones zs)

tops_of_wholes : (zs : List ℤ) → map (λ (r : Ratio). r.top) (map whole zs) ≡ zs
tops_of_wholes [] = refl
tops_of_wholes (z ∷ zs) = ap (λ l. z ∷ l) (tops_of_wholes zs)

-- whole numbers are without denominators
pub scaled_wholes : (zs : List ℤ) → All InRange zs → scaled_fold (map whole zs) (Ok (record { multiple = pos 1; numbers = zs }))
scaled_wholes zs h =
    subst (λ l. scaled_fold (map whole zs) (Ok (record { multiple = pos 1; numbers = l }))) (tops_of_wholes zs)
    (scaled_made (map whole zs) (pos 1) (multiple_of_ones zs) (map whole zs) (all_whole zs h))
