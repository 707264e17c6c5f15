-- The constant of a row's relation, from the constants of the columns.
use Rattle.std.proofs.Common.{◌≡◌, ℕ, ◌+◌, ◌<◌, ◌≤◌, List, length, ap, subst, sym, ◌∙◌, arith}
use Rattle.std.specs.Prelude.{ℤ, pos, ◌+ℤ◌, ◌*ℤ◌, ◌≤ℤ◌, ◌<ℤ◌, unsigned_abs, int_lt, IsTrue}
use Rattle.std.proofs.lemmas.Int.{by_lt_z, ints}
use Rattle.rg_integers.specs.Sum.{number_at, sum_below}
use Rattle.rg_integers.proofs.Sums.{sum_below-same}
use Rattle.rg_linear.specs.System.{LinearSystem, entry}
use Rattle.rg_linear.specs.Descent.{IsSatisfied}
use Rattle.rg_linear.proofs.TableRows.{length-row}
use Rattle.rg_revised.specs.Basis.{row_over}
use Rattle.rg_linear.specs.Table.{row_at}
use Rattle.rg_revised.specs.Rows.{RowWithin}
use Rattle.rg_revised.specs.Held.{column_relation}
use Rattle.rg_revised.specs.Reading.{IsRead, constant_over}
use Rattle.rg_revised.specs.View.{BasisState}
use Rattle.rg_revised.specs.State.{IsSmallHeld, HasConstants, IsRow}
use Rattle.rg_revised.proofs.Relations.{row_passes}
use Rattle.rg_revised.proofs.RowRelations.{row_follows}

module _ (b : BasisState) (constants : List ℤ) (named : List ℕ) (h : HasConstants b constants named) where
  -- the constant among the numbers that were read
  pub read_constant : (coeffs : List ℤ) (constant : ℤ) (numbers : List ℤ) → length coeffs ≡ length b.slots → IsRead (length b.slots + 1) coeffs constant b.table b.d numbers
      → number_at numbers (length b.slots) ≡ constant_over coeffs constants constant b.d
  read_constant coeffs constant numbers each read = read.constant_is (length b.slots) (omega arith)
      ∙ ap (λ z. z +ℤ (b.d *ℤ constant)) (sum_below-same (length coeffs) _ _ (λ t lt. ap (λ z. number_at coeffs t *ℤ z) (sym (h.values t (subst (λ n. t < n) each lt)))))

  module _ (system : LinearSystem) (members : List ℕ) (most : ℕ) (small : IsSmallHeld system members b most) where
    -- the constants are as small as the table
    pub constants_small : RowWithin most constants
    constants_small t lt = subst (λ z. unsigned_abs z ≤ most) (sym (h.values t below)) (small.within t below (length b.slots) inside)
      where
        below : t < length b.slots
        below = subst (λ n. t < n) h.size lt

        inside : length b.slots < length (row_at (length b.slots + 1) b.table t)
        inside = let w = length-row (length b.slots + 1) b.table system.columns t small.held.size (subst (λ n. t < n) small.held.count below) in omega arith

    module _ (i : ℕ) (coeffs : List ℤ) (constant : ℤ) (row : IsRow system i coeffs constant) where
      pub constant_at : (row_over system b.d (column_relation b) i).constant ≡ constant_over coeffs constants constant b.d
      constant_at =
          ap (λ z. sum_below system.columns (λ j. entry system i j *ℤ number_at (row_at (length b.slots + 1) b.table j) (length b.slots)) +ℤ (b.d *ℤ z)) row.constant_is
          ∙ ap (λ n. sum_below n (λ j. entry system i j *ℤ number_at (row_at (length b.slots + 1) b.table j) (length b.slots)) +ℤ (b.d *ℤ constant)) (sym row.each)
          ∙ ap (λ cs. sum_below (length coeffs) (λ j. number_at cs j *ℤ number_at (row_at (length b.slots + 1) b.table j) (length b.slots)) +ℤ (b.d *ℤ constant)) row.coeffs_are
          ∙ ap (λ z. z +ℤ (b.d *ℤ constant)) (sum_below-same (length coeffs) _ _
          (λ t lt. ap (λ z. number_at coeffs t *ℤ z) (sym (h.values t (subst (λ n. t < n) (row.each ∙ sym small.held.count) lt)))))

      -- a row whose constant isn't negative passes
      pub passes_at : ¬ (constant_over coeffs constants constant b.d <ℤ pos 0) → IsSatisfied system members i
      passes_at none = row_passes system members i (row_over system b.d (column_relation b) i) small.held.basis.free row.inside
          (row_follows system members b.d (column_relation b) small.held.basis i row.inside)
          (subst (λ z. pos 0 ≤ℤ z) (sym constant_at)
          (by_lt_z (constant_over coeffs constants constant b.d) (pos 0) (λ less. absurd (none less)) (λ least. least)))

pub sign_test : (z w : ℤ) → z ≡ w → (IsTrue (int_lt z (pos 0)) → w <ℤ pos 0) × (w <ℤ pos 0 → IsTrue (int_lt z (pos 0)))
sign_test z w e = ((λ t. subst (λ x. x <ℤ pos 0) e (negative z t)), (λ h. test z (subst (λ x. x <ℤ pos 0) (sym e) h)))
  where
    negative : (x : ℤ) → IsTrue (int_lt x (pos 0)) → x <ℤ pos 0
    negative x t = omega (arith, ints)

    test : (x : ℤ) → x <ℤ pos 0 → IsTrue (int_lt x (pos 0))
    test x h = sym (omega (arith, ints))
