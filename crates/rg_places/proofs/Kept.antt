-- Sums with 0, which leave numbers as they are.
use Rattle.std.proofs.Common.{◌≡◌, List, [], ◌∷◌, Ok, ap, refl, subst, sym}
use Rattle.std.specs.Prelude.{pos}
use Rattle.rg_fraction.specs.declared.fraction.Fraction.{Fraction}
use Rattle.rg_fraction.specs.Fractions.{numerator_of, denominator_of, IsSum}
use Rattle.rg_folds.specs.Fold.{each, add, whole, Ratio, ratio_of}
use Rattle.rg_folds.proofs.Zeros.{plus_zero, fraction_within}
use Rattle.rg_case_folds.specs.Placing.{negated}
use Rattle.rg_cycles.proofs.AddsNothing.{none_is, plus_none}
use Rattle.rg_places.specs.PointValues.{ratios_of}

-- one number
pub sum_with_none : (f g : Fraction) → numerator_of g ≡ pos 0 → IsSum (numerator_of f) (denominator_of f) (numerator_of g) (denominator_of g) (Ok f)
sum_with_none f g e = let h = plus_none f g e in (h.0, h.1, h.2.value)

-- each of them
all_with_zero : (numbers : List Fraction) → each (λ m. add m (whole (pos 0))) (ratios_of numbers) (Ok (ratios_of numbers))
all_with_zero [] = refl
all_with_zero (f ∷ rest) = (ratio_of f, plus_zero (ratio_of f) (fraction_within f), (ratios_of rest, all_with_zero rest, refl))

module _ (numbers : List Fraction) (by : Fraction) (none : numerator_of by ≡ pos 0) where
  pub all_with_none : each (λ m. add m (ratio_of by)) (ratios_of numbers) (Ok (ratios_of numbers))
  all_with_none = subst (λ (z : Ratio). each (λ m. add m z) (ratios_of numbers) (Ok (ratios_of numbers))) (sym (none_is by none)) (all_with_zero numbers)

  pub all_less_none : each (λ m. add m (negated (ratio_of by))) (ratios_of numbers) (Ok (ratios_of numbers))
  all_less_none = subst (λ (z : Ratio). each (λ m. add m z) (ratios_of numbers) (Ok (ratios_of numbers))) (sym (ap negated (none_is by none))) (all_with_zero numbers)
