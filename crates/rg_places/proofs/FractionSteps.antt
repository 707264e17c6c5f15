-- What calls of fractions answer are steps of folds.
use Rattle.std.proofs.Common.{◌≡◌, ◌≢◌, ℕ, ◌<◌, slice_index_or, subst, List, [], ◌∷◌, length, ap, sym, ◌∙◌, Result, Ok, Err, inr, arith}
use Rattle.std.specs.Prelude.{ℤ, pos, neg_ℤ, ◌+ℤ◌, ◌*ℤ◌}
use Rattle.rg_integers.specs.declared.term.Wide.{Wide}
use Rattle.rg_fraction.specs.declared.fraction.Fraction.{Fraction}
use Rattle.rg_fraction.specs.Fractions.{numerator_of, denominator_of, IsValue, IsSum, IsProduct}
use Rattle.rg_integers.proofs.Order.{mul_positive, positive_differs}
use Rattle.rg_folds.specs.Fold.{and_then, joined, ratio_of, shown_result, quotient, add, mul, Ratio, whole}
use Rattle.rg_case_folds.specs.Placing.{negated, ratio_at, top_at}
use Rattle.std.proofs.lemmas.List.{length-map, get_or_default}
use Rattle.rg_integers.specs.Range.{InRange}
use Rattle.rg_folds.proofs.Folding.{whole_is}
use Rattle.rg_cycles.proofs.AddsNothing.{value_adds_nothing, number_adds_nothing}
use Rattle.rg_places.specs.PointValues.{ratios_of}
use Rattle.rg_places.proofs.FoldSteps.{map_at}
use Rattle.rg_folds.proofs.FoldLemmas.{new_step, mul_step}

-- a difference is the sum with the negated number
pub sub_step : (f g : Fraction) (r : Result Fraction Wide) → IsSum (numerator_of f) (denominator_of f) (neg_ℤ (numerator_of g)) (denominator_of g) r
    → add (ratio_of f) (negated (ratio_of g)) (shown_result ratio_of r)
sub_step f g (Ok h) (top, bottom, v) = (
  top,
  bottom,
  new_step h ((numerator_of f *ℤ denominator_of g) +ℤ (neg_ℤ (numerator_of g) *ℤ denominator_of f))
      (denominator_of f *ℤ denominator_of g) (positive_differs (denominator_of f *ℤ denominator_of g)
      (mul_positive (denominator_of f) (denominator_of g) f.positive g.positive)) v,
)
sub_step f g (Err w) passes = passes

-- a sum
pub add_step : (f g : Fraction) (r : Result Fraction Wide) → IsSum (numerator_of f) (denominator_of f) (numerator_of g) (denominator_of g) r → add (ratio_of f) (ratio_of g) (shown_result ratio_of r)
add_step f g (Ok h) (top, bottom, v) = (
  top,
  bottom,
  new_step h ((numerator_of f *ℤ denominator_of g) +ℤ (numerator_of g *ℤ denominator_of f))
      (denominator_of f *ℤ denominator_of g) (positive_differs (denominator_of f *ℤ denominator_of g)
      (mul_positive (denominator_of f) (denominator_of g) f.positive g.positive)) v,
)
add_step f g (Err w) passes = passes

-- a value times a quotient
pub share_step : (n d : ℤ) (value share : Fraction) (r : Result Fraction Wide) → d ≢ pos 0 → IsValue share n d
    → IsProduct (numerator_of value) (denominator_of value) (numerator_of share) (denominator_of share) r
    → and_then (quotient n d) (λ k. mul (ratio_of value) k) (shown_result ratio_of r)
share_step n d value share r ne v p = go r (mul_step value share r p)
  where
    go : (r : Result Fraction Wide) → mul (ratio_of value) (ratio_of share) (shown_result ratio_of r) → and_then (quotient n d) (λ k. mul (ratio_of value) k) (shown_result ratio_of r)
    go (Ok h) m = (ratio_of share, new_step share n d ne v, m)
    go (Err w) m = inr (ratio_of share, new_step share n d ne v, m)

-- where the value or the number is 0
module _ (n d : ℤ) (value none : Fraction) (nonzero : d ≢ pos 0) where
  pub share_of_no_value : InRange n → InRange d → numerator_of value ≡ pos 0 → IsValue none (pos 0) (pos 1) → and_then (quotient n d) (λ k. mul (ratio_of value) k) (Ok (ratio_of none))
  share_of_no_value hn hd e v = subst (λ r. and_then (quotient n d) (λ k. mul (ratio_of value) k) (Ok r)) (sym (whole_is none (pos 0) v)) (value_adds_nothing n d value nonzero hn hd e)

  pub share_of_no_number : n ≡ pos 0 → IsValue none (pos 0) (pos 1) → and_then (quotient n d) (λ k. mul (ratio_of value) k) (Ok (ratio_of none))
  share_of_no_number e v = subst (λ r. and_then (quotient n d) (λ k. mul (ratio_of value) k) (Ok r)) (sym (whole_is none (pos 0) v)) (number_adds_nothing n d value nonzero e)

-- of no items
pub joined_none : {A X : Type 0} (join : X → X → Result X Wide → Type 0) (make : A → Result X Wide → Type 0) (none x : X) (items : List A)
    → length items ≡ 0 → x ≡ none → joined join make none items (Ok x)
joined_none join make none x [] e is = is
joined_none join make none x (a ∷ rest) e is = absurd (omega arith)

-- ---- the top at a place

pub ratio_there : (xs : List Fraction) (i : ℕ) (x : Fraction) → i < length xs → x ≡ slice_index_or xs i x → ratio_of x ≡ ratio_at (ratios_of xs) i
ratio_there xs i x lt at = map_at ratio_of xs i x at ∙ get_or_default (ratios_of xs) i (ratio_of x) (whole (pos 0)) (subst (λ n. i < n) (sym (length-map xs ratio_of)) lt)

pub top_there : (xs : List Fraction) (i : ℕ) (x : Fraction) → i < length xs → x ≡ slice_index_or xs i x → numerator_of x ≡ top_at (ratios_of xs) i
top_there xs i x lt at = ap (λ (r : Ratio). r.top) (ratio_there xs i x lt at)
