-- The relations of rows, from those of the columns.
use Rattle.std.proofs.Common.{◌≡◌, ◌⊎◌, ℕ, ◌+◌, ◌-◌, ◌<◌, ◌≤◌, List, Contains, length, ap, refl, subst, sym, ◌∙◌, inl, inr, arith}
use Rattle.std.specs.Prelude.{ℤ, pos, ◌+ℤ◌, ◌*ℤ◌}
use Rattle.std.proofs.lemmas.Int.{ints}
use Rattle.std.proofs.lemmas.Bool.{cases_lt}
use Rattle.std.proofs.Math.IntN.{*ℤ-zero}
use Rattle.rg_linear.specs.System.{LinearSystem, variables, row_variable, row_at, entry, IsPoint}
use Rattle.rg_integers.specs.Sum.{sum_below}
use Rattle.rg_linear.specs.Dictionary.{Relation, Holds, IsOver, DictionaryRow, HasDictionary, column_set}
use Rattle.rg_integers.proofs.Ring.{ring}
use Rattle.rg_integers.proofs.Sums.{sum_below-same, sum_below-zero, sum_below-times, sum_below-both, sum_below-swap, sum_below-at}
use Rattle.rg_linear.proofs.Members.{differs, Contains-numbers_from}
use Rattle.rg_linear.proofs.Columns.{columns_free}
use Rattle.rg_revised.specs.Basis.{IsRelationOf, itself, IsBasis, row_over}
use Rattle.rg_revised.proofs.Relations.{multiple_row}

module _ (system : LinearSystem) (members : List ℕ) (d : ℤ) (relation : ℕ → Relation) (basis : IsBasis system members d relation) where
  module _ (i : ℕ) (lt : i < length system.rows) where
    -- d times a column's share in the row
    share_at : (scale : ℤ) (v : ℕ → ℤ) → IsPoint system scale v → (j : ℕ) → j < system.columns
        → d *ℤ (entry system i j *ℤ v j) ≡ (scale *ℤ (entry system i j *ℤ (relation j).constant)) +ℤ
        (pos 1 *ℤ sum_below (variables system) (λ m. entry system i j *ℤ ((relation j).coefficient m *ℤ v m)))
    share_at scale v p j below = finish (entry system i j) d (v j) (relation j).constant scale _ _
        (subst (λ z. z *ℤ v j ≡ ((relation j).constant *ℤ scale) +ℤ sum_below (variables system) (λ m. (relation j).coefficient m *ℤ v m)) (basis.denominator j below)
        ((basis.columns j below).holds scale v p)) (sum_below-times (variables system) (entry system i j) (λ m. (relation j).coefficient m *ℤ v m))
      where
        finish : (a d y c s sum times : ℤ) → d *ℤ y ≡ (c *ℤ s) +ℤ sum → times ≡ a *ℤ sum → d *ℤ (a *ℤ y) ≡ (s *ℤ (a *ℤ c)) +ℤ (pos 1 *ℤ times)
        finish a d y c s sum times e t =
            let b : a *ℤ (d *ℤ y) ≡ a *ℤ ((c *ℤ s) +ℤ sum) = ap (λ z. a *ℤ z) e in
            let b' = simp ring at b in
            rw t (simp ring (omega (arith, ints)))

    -- the sums over members, column by column and member by member
    sums_swap : (v : ℕ → ℤ) → sum_below system.columns (λ j. sum_below (variables system) (λ m. entry system i j *ℤ ((relation j).coefficient m *ℤ v m))) ≡ sum_below (variables system)
        (λ m. (row_over system d relation i).coefficient m *ℤ v m)
    sums_swap v = sum_below-swap system.columns (variables system) (λ j m. entry system i j *ℤ ((relation j).coefficient m *ℤ v m)) ∙ sum_below-same (variables system) _ _ (λ m below. at m)
      where
        turn : (a b y : ℤ) → a *ℤ (b *ℤ y) ≡ y *ℤ (a *ℤ b)
        turn a b y = simp ring

        back : (y z : ℤ) → y *ℤ z ≡ z *ℤ y
        back y z = simp ring

        at : (m : ℕ) → sum_below system.columns (λ j. entry system i j *ℤ ((relation j).coefficient m *ℤ v m)) ≡ sum_below system.columns (λ j. entry system i j *ℤ (relation j).coefficient m) *ℤ v m
        at m = sum_below-same system.columns _ (λ j. v m *ℤ (entry system i j *ℤ (relation j).coefficient m)) (λ j below. turn (entry system i j) ((relation j).coefficient m) (v m))
            ∙ sum_below-times system.columns (v m) (λ j. entry system i j *ℤ (relation j).coefficient m) ∙ back (v m) (sum_below system.columns (λ j. entry system i j *ℤ (relation j).coefficient m))

    row_over-holds : Holds system (row_variable system i) (row_over system d relation i)
    row_over-holds scale v p = finish d (v (row_variable system i)) _ (row_at system i).constant scale _ _ _ (p.rows i lt) (sym (sum_below-times system.columns d (λ j. entry system i j *ℤ v j))
        ∙ sum_below-same system.columns _ _ (share_at scale v p) ∙ sum_below-both system.columns scale (pos 1) (λ j. entry system i j *ℤ (relation j).constant)
        (λ j. sum_below (variables system) (λ m. entry system i j *ℤ ((relation j).coefficient m *ℤ v m)))) (sums_swap v)
      where
        finish : (d x sum c s constants shares rest : ℤ) → x ≡ sum +ℤ (c *ℤ s) → d *ℤ sum ≡ (s *ℤ constants) +ℤ (pos 1 *ℤ shares) → shares ≡ rest → d *ℤ x ≡ ((constants +ℤ (d *ℤ c)) *ℤ s) +ℤ rest
        finish d x sum c s constants shares rest e f g =
            let b : d *ℤ x ≡ d *ℤ (sum +ℤ (c *ℤ s)) = ap (λ z. d *ℤ z) e in
            let b' = simp ring at b in
            let f' = simp ring at f in
            simp ring (omega (arith, ints))

    row_over-over : IsOver members (row_over system d relation i)
    row_over-over m lacks = sum_below-zero system.columns _ (λ j below. ap (λ z. entry system i j *ℤ z) ((basis.columns j below).over m lacks) ∙ *ℤ-zero (entry system i j))

    pub row_follows : IsRelationOf system members (row_variable system i) (row_over system d relation i)
    row_follows = record { positive = basis.positive; over = row_over-over; holds = row_over-holds }

  pub basis_has : HasDictionary system members
  basis_has = record { free = basis.free; rows = λ w lt outside. at w lt outside (cases_lt w system.columns) }
    where
      at : (w : ℕ) → w < variables system → ¬ Contains members w → (w < system.columns) ⊎ (system.columns ≤ w) → (k : Relation) × DictionaryRow system members w k
      at w lt outside (inl below) = let (l, row, r) = multiple_row system members w (relation w) basis.free lt outside (basis.columns w below) in (l, row)
      at w lt outside (inr past) =
          let i : ℕ = w - system.columns in
          let e : system.columns + i ≡ w = omega arith in
          let li : i < length system.rows = omega arith in
          let (l, row, r) = multiple_row system members w (row_over system d relation i) basis.free lt outside
          (subst (λ x. IsRelationOf system members x (row_over system d relation i)) e (row_follows i li)) in
          (l, row)

-- ---- the start

pub columns_basis : (system : LinearSystem) → IsBasis system (column_set system) (pos 1) (itself (pos 1))
columns_basis system = record { free = columns_free system; positive = omega (arith, ints); columns = column; denominator = λ t below. refl }
  where
    alone : (x s t : ℤ) → t ≡ pos 1 *ℤ x → pos 1 *ℤ x ≡ (pos 0 *ℤ s) +ℤ t
    alone x s t e = simp ring (omega (arith, ints))

    column : (t : ℕ) → t < system.columns → IsRelationOf system (column_set system) t (itself (pos 1) t)
    column t below = record {
      positive = omega (arith, ints);
      over = λ m lacks. rw (differs m t (λ e. lacks (subst (Contains (column_set system)) (sym e) (Contains-numbers_from 0 system.columns t (omega arith) (omega arith))))) refl;
      holds = λ scale v p. alone (v t) scale _ (sum_below-at (variables system) t (pos 1) v (omega arith));
    }
