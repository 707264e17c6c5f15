-- Sums of products, index by index: linearity, a loop's step, and the same sum below a number.
use Rattle.std.proofs.Common.{◌≡◌, ◌+◌, List, [], ◌∷◌, length, get_or, refl, ap, ap₂, sym, ◌∙◌}
use Rattle.std.specs.Prelude.{ℤ, pos, ◌+ℤ◌, ◌*ℤ◌, map}
use Rattle.std.proofs.Math.IntN.{*ℤ_comm, *ℤ-zero}
use Rattle.rg_integers.specs.Sum.{sum_below, dot}
use Rattle.rg_integers.proofs.Ring.{ring}
use Rattle.rg_integers.proofs.Sums.{sum_below-zero, sum_below-first}

-- ---- linear in the first list

pub dot-times : (k : ℤ) (xs zs : List ℤ) → dot (map (λ x. k *ℤ x) xs) zs ≡ k *ℤ dot xs zs
dot-times k [] zs = sym (*ℤ-zero k)
dot-times k (x ∷ xs) [] = sym (*ℤ-zero k)
dot-times k (x ∷ xs) (z ∷ zs) = step k x z (dot xs zs) (dot (map (λ x. k *ℤ x) xs) zs) (dot-times k xs zs)
  where
    step : (k a c s u : ℤ) → u ≡ k *ℤ s → ((k *ℤ a) *ℤ c) +ℤ u ≡ k *ℤ ((a *ℤ c) +ℤ s)
    step k a c s u e = simp (e, ring)

pub dot_comm : (xs ys : List ℤ) → dot xs ys ≡ dot ys xs
dot_comm [] [] = refl
dot_comm [] (y ∷ ys) = refl
dot_comm (x ∷ xs) [] = refl
dot_comm (x ∷ xs) (y ∷ ys) = ap₂ ◌+ℤ◌ (*ℤ_comm x y) (dot_comm xs ys)

-- ---- the indices of the first list

pub dot-sum_below : (xs ys : List ℤ) → dot xs ys ≡ sum_below (length xs) (λ j. get_or xs j (pos 0) *ℤ get_or ys j (pos 0))
dot-sum_below [] ys = refl
dot-sum_below (x ∷ xs) [] =
    sym (sum_below-zero (length (x ∷ xs)) (λ j. get_or (x ∷ xs) j (pos 0) *ℤ pos 0) (λ j lt. *ℤ-zero (get_or (x ∷ xs) j (pos 0))))
dot-sum_below (x ∷ xs) (y ∷ ys) =
    ap (λ z. (x *ℤ y) +ℤ z) (dot-sum_below xs ys)
    ∙ sym (sum_below-first (length xs) (λ j. get_or (x ∷ xs) j (pos 0) *ℤ get_or (y ∷ ys) j (pos 0)))
