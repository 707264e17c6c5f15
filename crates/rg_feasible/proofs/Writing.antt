-- Rows that are written number by number.
use Rattle.std.proofs.Common.{◌≡◌, ◌≢◌, ⊎_elim, ℕ, ◌<◌, List, length, subst, sym, ◌∙◌, arith, get_or-set_other, get_or-set_same}
use Rattle.std.proofs.Math.ListN.{set, length-set}
use Rattle.std.specs.Prelude.{ℤ, pos, neg_ℤ}
use Rattle.rg_linear.proofs.Members.{equal_or_not}
use Rattle.rg_integers.specs.Range.{InRange}
use Rattle.rg_integers.specs.Sum.{number_at}
use Rattle.rg_feasible.specs.Renewal.{RowInRange, IsTurned}

-- a number in range is written
pub in_range-set : (xs : List ℤ) (n : ℕ) (z : ℤ) → RowInRange xs → InRange z → RowInRange (set xs n z)
in_range-set xs n z all h k lt = ⊎_elim
    (λ (e : k ≡ n). subst (λ m. InRange (number_at (set xs n z) m)) (sym e) (subst InRange (sym (get_or-set_same xs n z (pos 0) (within e))) h))
    (λ ne. subst InRange (sym (get_or-set_other xs n k z (pos 0) ne)) (all k inside))
    (equal_or_not k n)
  where
    inside : k < length xs
    inside = omega (arith, length-set xs n z)

    within : k ≡ n → n < length xs
    within e = omega (arith, inside)

-- the row of negatives, with its first number and that at index p written
pub turned : (pivot row : List ℤ) (p : ℕ) (x y : ℤ) → length row ≡ length pivot → 1 < p → p < length pivot → ((n : ℕ) → n < length pivot → number_at row n ≡ neg_ℤ (number_at pivot n))
    → x ≡ number_at pivot p → y ≡ number_at pivot 0 → IsTurned pivot (set (set row 0 x) p y) p
turned pivot row p x y same after inside done is_x is_y = record {
  same_length = length-set (set row 0 x) p y ∙ length-set row 0 x ∙ same;
  d = let ne : 0 ≢ p = omega arith in get_or-set_other (set row 0 x) p 0 y (pos 0) ne ∙ get_or-set_same row 0 x (pos 0) (omega arith) ∙ is_x;
  others = λ n more less ne. let first : n ≢ 0 = omega arith in get_or-set_other (set row 0 x) p n y (pos 0) ne ∙ get_or-set_other row 0 n x (pos 0) first ∙ done n less;
  new = get_or-set_same (set row 0 x) p y (pos 0) (omega (arith, length-set row 0 x)) ∙ is_y;
}
