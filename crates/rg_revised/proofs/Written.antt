-- A row of the table, written number by number.
use Rattle.std.proofs.Common.{◌≡◌, ⊎_elim, ℕ, ◌<◌, ◌≤◌, Bool, if◌then◌else◌, List, length, ap, subst, sym, ◌∙◌, arith, get_or-set_other, get_or-set_same}
use Rattle.std.specs.Prelude.{ℤ, pos, neg_ℤ, ◌-ℤ◌, ◌*ℤ◌, unsigned_abs}
use Rattle.std.proofs.Math.ListN.{set, length-set}
use Rattle.rg_integers.specs.Sum.{number_at}
use Rattle.rg_linear.proofs.Members.{equal_or_not}
use Rattle.rg_revised.specs.Rows.{RowWithin, RowRenewed}

-- a small number is written
pub within-set : (most : ℕ) (xs : List ℤ) (n : ℕ) (z : ℤ) → RowWithin most xs → unsigned_abs z ≤ most → RowWithin most (set xs n z)
within-set most xs n z all h k lt = ⊎_elim
    (λ (e : k ≡ n). subst (λ m. unsigned_abs (number_at (set xs n z) m) ≤ most) (sym e) (subst (λ x. unsigned_abs x ≤ most) (sym (get_or-set_same xs n z (pos 0) (at_n e))) h))
    (λ ne. subst (λ x. unsigned_abs x ≤ most) (sym (get_or-set_other xs n k z (pos 0) ne)) (all k inside))
    (equal_or_not k n)
  where
    inside : k < length xs
    inside = omega (arith, length-set xs n z)

    at_n : k ≡ n → n < length xs
    at_n e = omega (arith, inside)

-- the row with the new member's number at its index
pub renewed_row : (pivot old new : List ℤ) (p : ℕ) (negative : Bool) (d : ℤ) (most : ℕ) (z : ℤ) → length new ≡ length old → p < length old
    → ((k : ℕ) → k < length old → d *ℤ number_at new k ≡ (number_at old k *ℤ number_at pivot p) -ℤ (number_at pivot k *ℤ number_at old p))
    → RowWithin most new → z ≡ (if negative then neg_ℤ (number_at old p) else number_at old p) → unsigned_abs z ≤ most → RowRenewed pivot old (set new p z) p negative d most
renewed_row pivot old new p negative d most z same lt done within is small = record {
  same_length = length-set new p z ∙ same;
  others = λ n less ne. ap (λ x. d *ℤ x) (get_or-set_other new p n z (pos 0) ne) ∙ done n less;
  index = get_or-set_same new p z (pos 0) (subst (λ n. p < n) (sym same) lt) ∙ is;
  within = within-set most new p z within small;
}
