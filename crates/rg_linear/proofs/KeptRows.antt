-- The rows that code keeps, and rows that are tested one by one.
use Rattle.std.proofs.Common.{◌≡◌, ℕ, ◌+◌, ◌<◌, ◌≤◌, ◌^◌, List, [], length, map, All, refl, slice_index_or, ap, subst, sym, ◌∙◌, arith}
use Rattle.std.specs.Prelude.{pos}
use Rattle.std.proofs.lemmas.List.{get_or-map, length-map}
use Rattle.rg_integers.specs.Range.{InRange}
use Rattle.rg_integers.specs.Sum.{number_at}
use Rattle.rg_linear.specs.System.{LinearSystem, LinearRow, row_at}
use Rattle.rg_linear.specs.declared.row.Row.{Row}
use Rattle.rg_linear.specs.View.{linear_row, linear_system, IsWellFormed}

-- the row that code keeps at an index
pub item_is : (system : LinearSystem) (rows : List Row) (i : ℕ) (item : Row) → map linear_row rows ≡ system.rows → i < length rows
    → item ≡ slice_index_or rows i item → linear_row item ≡ row_at system i
item_is system rows i item are lt at = ap linear_row at ∙ sym (get_or-map linear_row rows i item (record { coeffs = []; constant = pos 0 }) lt)
    ∙ ap (λ xs. slice_index_or xs i (record { coeffs = []; constant = pos 0 })) are

pub below_rows : (system : LinearSystem) (rows : List Row) (i : ℕ) → map linear_row rows ≡ system.rows → i < length rows → i < length system.rows
below_rows system rows i are lt = subst (λ n. i < n) (sym (length-map rows linear_row) ∙ ap length are) lt

module _ (system : LinearSystem) (well : IsWellFormed system) (rows : List Row) (i : ℕ) (item : Row) (are : map linear_row rows ≡ system.rows)
    (lt : i < length rows) (at : item ≡ slice_index_or rows i item) where
  row_is : linear_row item ≡ row_at system i
  row_is = item_is system rows i item are lt at

  below : i < length system.rows
  below = below_rows system rows i are lt

  pub row_length : length (linear_row item).coeffs ≡ system.columns
  row_length = ap (λ (r : LinearRow). length r.coeffs) row_is ∙ well.one_each i below

  pub row_in_range : (j : ℕ) → j < length (linear_row item).coeffs → InRange (number_at (linear_row item).coeffs j)
  row_in_range j less = subst (λ (r : LinearRow). InRange (number_at r.coeffs j)) (sym row_is) (well.coeffs i j below (let e = row_length in omega arith))

  pub constant_in_range : InRange item.constant
  constant_in_range = subst (λ (r : LinearRow). InRange r.constant) (sym row_is) (well.constants i below)

-- a row of so many coefficients, in range
pub record IsFine (columns : ℕ) (row : LinearRow) : Type 0 where
  pub size : length row.coeffs ≡ columns
  pub coeffs : All InRange row.coeffs
  pub constant : InRange row.constant

pub item_fine : (columns : ℕ) (rows : List Row) (i : ℕ) (item : Row) → i < length rows → item ≡ slice_index_or rows i item
    → length (linear_row item).coeffs ≡ columns → All InRange (linear_row item).coeffs → InRange item.constant → IsFine columns (row_at (linear_system columns rows) i)
item_fine columns rows i item lt at size coeffs constant =
    subst (IsFine columns) (item_is (linear_system columns rows) rows i item refl lt at) (record { size = size; coeffs = coeffs; constant = constant })

pub all_fine : (columns : ℕ) (rows : List Row) (n : ℕ) → columns + length rows < 2 ^ 32 → length rows ≤ n
    → ((i : ℕ) → i < n → IsFine columns (row_at (linear_system columns rows) i)) → IsWellFormed (linear_system columns rows)
all_fine columns rows n few past fine = record {
  few = subst (λ k. columns + k < 2 ^ 32) (sym (length-map rows linear_row)) few;
  one_each = λ i lt. (fine i (below i lt)).size;
  coeffs = λ i j lt less. (let is = fine i (below i lt) in is.coeffs j (pos 0) (subst (λ k. j < k) (sym is.size) less));
  constants = λ i lt. (fine i (below i lt)).constant;
}
  where
    below : (i : ℕ) → i < length (map linear_row rows) → i < n
    below i lt = let e = length-map rows linear_row in omega arith
