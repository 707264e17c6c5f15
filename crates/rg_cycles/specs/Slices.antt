-- Lists of entries, told apart by their numbers.
use Rattle.std.proofs.Common.{◌≡◌, Bool, ◌&&◌, List, [], ◌∷◌, map, ap₂, refl, sym, ◌∙◌}
use Rattle.std.specs.Prelude.{ℤ}
use Rattle.std.specs.Bool.{Decides}
use Rattle.std.specs.Ordering.{int_eq}
use Rattle.std.specs.Cmp.Lexicographic.{pointwise}
use Rattle.std.proofs.lemmas.Bool.Decides.{Decides-int_eq}
use Rattle.std.proofs.lemmas.Slice.Eq.{slice_eq-Decides}

module _ {N : Type 0} (number : N → ℤ) (numbers : List N → List ℤ) (one_each : (entries : List N) → numbers entries ≡ map number entries) where
  -- slices are the same where their numbers are
  pub slices_decide : (same : N → N → Bool) → ((a b : N) → same a b ≡ int_eq (number a) (number b)) → (x y : List N) → Decides (pointwise same x y) (numbers x ≡ numbers y)
  slices_decide same compares x y = slice_eq-Decides Decides-int_eq (numbers x) (numbers y) (pointwise same x y)
      (each x y ∙ ap₂ (pointwise int_eq) (sym (one_each x)) (sym (one_each y)))
    where
      each : (x y : List N) → pointwise same x y ≡ pointwise int_eq (map number x) (map number y)
      each [] [] = refl
      each [] (b ∷ y) = refl
      each (a ∷ x) [] = refl
      each (a ∷ x) (b ∷ y) = λ i. compares a b i && each x y i
