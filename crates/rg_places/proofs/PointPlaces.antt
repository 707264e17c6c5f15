-- What a point's fractions say of Start and of the free labels.
use Rattle.std.proofs.Common.{◌≡◌, ◌≢◌, ⊎_elim, ℕ, zero, suc, ◌+◌, ◌<◌, ◌==◌, Bool, true, false, if◌then◌else◌, List, [], ◌∷◌, length, map, drop, slice_index_or, ap, ap₂, refl, sym, subst, ◌∙◌, arith, eqb-true, eq-eqb}
use Rattle.std.specs.Prelude.{ℤ, pos, ◌<ℤ◌}
use Rattle.std.proofs.lemmas.Int.{ints}
use Rattle.std.proofs.lemmas.Bool.{cases_Bool}
use Rattle.std.proofs.lemmas.List.{length-drop, drop-map, get_or-drop, get_or_default}
use Rattle.std.proofs.lemmas.Simd.{map-map}
use Rattle.rg_theory.specs.System.{System, labels}
use Rattle.rg_theory.specs.declared.Class.{Class}
use Rattle.rg_fraction.specs.declared.fraction.Fraction.{Fraction}
use Rattle.rg_integers.specs.Value.{SameValue}
use Rattle.rg_linear.specs.System.{LinearSystem}
use Rattle.rg_linear.specs.Cycle.{CycleBasis}
use Rattle.rg_linear.proofs.Members.{IsInOrder}
use Rattle.rg_folds.specs.Fold.{Ratio, whole, ratio_of}
use Rattle.rg_case_folds.specs.Rewriting.{free_columns, has_start, column_count}
use Rattle.rg_case_folds.proofs.ColumnValues.{count_is}
use Rattle.rg_case_folds.specs.Placing.{ratio_at}
use Rattle.rg_case_folds.specs.Shown.{IsValueAt, PointOf}
use Rattle.rg_case_folds.specs.Meaning.{first_column}
use Rattle.rg_cycles.proofs.Labels.{where_order}
use Rattle.rg_case_folds.specs.Places.{IsReduced, AreAtPoint}
use Rattle.rg_case_folds.proofs.Overs.{whole_reduced}
use Rattle.rg_places.specs.PointValues.{ratios_of, ratio_beside, point_start, point_value, HasValues}
use Rattle.rg_places.specs.Steps.{value_by, AreFreeColumns}
use Rattle.rg_places.specs.declared.columns.Column.{Column}

-- ---- the value of a column

beside_in_order : (ls : List ℕ) (rs : List Ratio) → IsInOrder ls → (i : ℕ) → i < length ls → ratio_beside ls rs (slice_index_or ls i 0) ≡ ratio_at rs i
beside_in_order [] rs order i lt = absurd (omega arith)
beside_in_order (x ∷ ls) [] order i lt = refl
beside_in_order (x ∷ ls) (r ∷ rs) order zero lt = ap (λ b. if b then r else ratio_beside ls rs x) (eq-eqb x x refl)
beside_in_order (x ∷ ls) (r ∷ rs) order (suc i) lt = ⊎_elim (λ same. absurd (differs (eqb-true x (slice_index_or ls i 0) same)))
    (λ other. ap (λ b. if b then r else ratio_beside ls rs (slice_index_or ls i 0)) other ∙ beside_in_order ls rs order.1 i (omega arith))
    (cases_Bool (x == slice_index_or ls i 0))
  where
    above : x < slice_index_or ls i 0
    above = order.0 (slice_index_or ls i 0) (i, omega arith, get_or_default ls i (slice_index_or ls i 0) 0 (omega arith))

    differs : x ≢ slice_index_or ls i 0
    differs e = let k = above in omega arith

-- the value of a free label with an arc is that of its column
pub value_at_column : (lts : System) (basis : CycleBasis) (class : Class) (point : List Fraction) (i : ℕ) → i < length (free_columns lts basis)
    → point_value lts basis class point (slice_index_or (free_columns lts basis) i 0) ≡ ratio_at (ratios_of point) (first_column class + i)
value_at_column lts basis class point i lt =
    beside_in_order (free_columns lts basis) (drop (first_column class) (ratios_of point)) (where_order _ 0 (labels lts)) i lt
    ∙ get_or-drop (first_column class) (ratios_of point) i (whole (pos 0))

-- ---- how many columns there are

module _ (lts : System) (basis : CycleBasis) (class : Class) (point : List Fraction) (columns : length point ≡ column_count lts basis class) where
  pub one_each : length (drop (first_column class) point) ≡ length (free_columns lts basis)
  one_each = let a = count_is lts basis class in let b = columns in let c = length-drop (first_column class) point in omega arith

  pub start_is_there : has_start class ≡ true → 0 < length point
  start_is_there e = let a = count_is lts basis class in let b = columns in let c : first_column class ≡ 1 = ap (λ b. if b then 1 else 0) e in omega arith

-- the columns of code with the point's values
pub value_is : (lts : System) (basis : CycleBasis) (class : Class) (point : List Fraction) (columns : List Column) → AreFreeColumns lts basis columns
    → map (λ c. c.value) columns ≡ drop (first_column class) point → value_by columns ≡ point_value lts basis class point
value_is lts basis class point columns are values =
    ap₂ ratio_beside are.labels_are (sym (map-map ratio_of (λ c. c.value) columns) ∙ ap ratios_of values ∙ sym (drop-map ratio_of (first_column class) point))

-- ---- a point of a system

module _ (lts : System) (basis : CycleBasis) (class : Class) (point : List Fraction) (columns : length point ≡ column_count lts basis class) where
  within : (i : ℕ) → i < length (free_columns lts basis) → first_column class + i < length point
  within i lt = let a = count_is lts basis class in let b = columns in omega arith

  bottom_positive : (j : ℕ) → pos 0 <ℤ (ratio_at (ratios_of point) j).bottom
  bottom_positive j = go point j
    where
      go : (xs : List Fraction) (j : ℕ) → pos 0 <ℤ (ratio_at (ratios_of xs) j).bottom
      go [] j = omega (arith, ints)
      go (x ∷ xs) zero = x.positive
      go (x ∷ xs) (suc j) = go xs j

  is_reduced : (j : ℕ) → IsReduced (ratio_at (ratios_of point) j)
  is_reduced j = go point j
    where
      go : (xs : List Fraction) (j : ℕ) → IsReduced (ratio_at (ratios_of xs) j)
      go [] j = whole_reduced (pos 0)
      go (x ∷ xs) zero = x.reduced
      go (x ∷ xs) (suc j) = go xs j

  -- where the fractions are the values of a point, so are Start and the values of the labels
  pub at_point : (scale : ℤ) (v : ℕ → ℤ) → HasValues scale v point → AreAtPoint lts basis class scale v (point_start class point) (point_value lts basis class point)
  at_point scale v values = record {
    start_bottom = start_bottom (has_start class);
    start_reduced = start_reduced (has_start class);
    start_is = λ e. subst (λ (r : Ratio). SameValue r.top r.bottom (v 0) scale) (sym (ap (λ b. if b then ratio_at (ratios_of point) 0 else whole (pos 0)) e)) (values 0 (start_there e));
    no_start = λ e. ap (λ b. if b then ratio_at (ratios_of point) 0 else whole (pos 0)) e;
    reduced = λ i lt. subst IsReduced (sym (value_at_column lts basis class point i lt)) (is_reduced (first_column class + i));
    bottoms = λ i lt. subst (λ (r : Ratio). pos 0 <ℤ r.bottom) (sym (value_at_column lts basis class point i lt)) (bottom_positive (first_column class + i));
    values = λ i lt. subst (λ (r : Ratio). SameValue r.top r.bottom (v (first_column class + i)) scale)
        (sym (value_at_column lts basis class point i lt)) (values (first_column class + i) (within i lt));
  }
    where
      start_there : has_start class ≡ true → 0 < length point
      start_there = start_is_there lts basis class point columns

      start_bottom : (b : Bool) → pos 0 <ℤ (if b then ratio_at (ratios_of point) 0 else whole (pos 0)).bottom
      start_bottom true = bottom_positive 0
      start_bottom false = omega (arith, ints)

      start_reduced : (b : Bool) → IsReduced (if b then ratio_at (ratios_of point) 0 else whole (pos 0))
      start_reduced true = is_reduced 0
      start_reduced false = whole_reduced (pos 0)

  -- where they are the values of the columns at a set, so are Start and the values of the labels
  pub point_of : (system : LinearSystem) (members : List ℕ)
      → ((j : ℕ) → j < length point → IsValueAt system members j (ratio_at (ratios_of point) j))
      → PointOf lts basis class system members (point_start class point) (point_value lts basis class point)
  point_of system members values = record {
    start_is = λ e. subst (IsValueAt system members 0) (sym (ap (λ b. if b then ratio_at (ratios_of point) 0 else whole (pos 0)) e)) (values 0 (start_is_there lts basis class point columns e));
    no_start = λ e. ap (λ b. if b then ratio_at (ratios_of point) 0 else whole (pos 0)) e;
    values = λ i f lt e. subst (λ u. IsValueAt system members (first_column class + i) (point_value lts basis class point u)) e
        (subst (IsValueAt system members (first_column class + i)) (sym (value_at_column lts basis class point i lt)) (values (first_column class + i) (within i lt)));
  }
