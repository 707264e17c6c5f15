-- A table that is filled row by row.
use Rattle.std.proofs.Common.{◌≡◌, ℕ, ◌+◌, ◌<◌, List, [], ◌∷◌, ◌++◌, length, map, take, append_assoc, length-append, slice_index_or, ap, refl, subst, sym, ◌∙◌, arith}
use Rattle.std.specs.Prelude.{pos}
use Rattle.std.specs.Int.{w128, cast_signed, cast_unsigned}
use Rattle.std.proofs.lemmas.List.{take_more, get_or_append_left, get_or-append_right}
use Rattle.rg_integers.specs.Range.{InRange}
use Rattle.rg_integers.specs.Sum.{number_at}
use Rattle.rg_integers.proofs.Casts.{back}
use Rattle.rg_linear.specs.System.{LinearSystem, LinearRow, row_at, with_rows}
use Rattle.rg_linear.specs.declared.row.Row.{Row}
use Rattle.rg_linear.specs.View.{linear_row, linear_system, IsWellFormed}
use Rattle.rg_linear.proofs.KeptRows.{item_is, below_rows, constant_in_range}
use Rattle.rg_feasible.specs.Contents.{Contents, IsDictionary, columns_alone, with_row}

module _ (system : LinearSystem) (columns : ℕ) (rows : List Row) (i : ℕ) (item : Row) (well : IsWellFormed (linear_system columns rows))
    (lt : i < length rows) (at : item ≡ slice_index_or rows i item) where
  -- one row more, as the code hands it on
  pub row_pushed : with_row (with_rows system (take i (map linear_row rows))) (linear_row item).coeffs
      (cast_signed w128 (cast_unsigned w128 item.constant)) ≡ with_rows system (take (i + 1) (map linear_row rows))
  row_pushed = ap (with_row (with_rows system (take i (map linear_row rows))) (linear_row item).coeffs)
      (back item.constant (constant_in_range (linear_system columns rows) well rows i item refl lt at))
      ∙ ap (λ (r : LinearRow). with_row (with_rows system (take i (map linear_row rows))) r.coeffs r.constant) (item_is (linear_system columns rows) rows i item refl lt at)
      ∙ (λ j. record {
        columns = system.columns;
        rows = (append_assoc system.rows (take i (map linear_row rows)) (row_at (linear_system columns rows) i ∷ [])
            ∙ ap (λ xs. system.rows ++ xs) (sym (take_more (map linear_row rows) i (record { coeffs = []; constant = pos 0 })
            (below_rows (linear_system columns rows) rows i refl lt)))) j;
      })

-- the rows of the system, over its columns alone
pub all_rows : (system : LinearSystem) (columns : ℕ) (rows : List LinearRow) (d : Contents) → columns ≡ system.columns → rows ≡ system.rows → IsDictionary (with_rows (columns_alone columns) rows) d
    → IsDictionary system d
all_rows system columns rows d count are = subst (λ s. IsDictionary s d) (λ j. record { columns = count j; rows = are j })

-- the rows of the first list of a system are as well formed as the whole
pub own_well_formed : (system : LinearSystem) (columns : ℕ) (own shared : List Row) → columns ≡ system.columns → map linear_row own ++ map linear_row shared ≡ system.rows
    → IsWellFormed system → IsWellFormed (linear_system columns own)
own_well_formed system columns own shared count are well = first (subst IsWellFormed (sym (λ j. record { columns = count j; rows = are j })) well)
  where
    first : IsWellFormed (with_rows (linear_system columns own) (map linear_row shared)) → IsWellFormed (linear_system columns own)
    first w = record {
      few = (let e = size in let f = w.few in omega arith);
      one_each = λ i lt. subst (λ (r : LinearRow). length r.coeffs ≡ columns) (same i lt) (w.one_each i (inside i lt));
      coeffs = λ i j lt less. subst (λ (r : LinearRow). InRange (number_at r.coeffs j)) (same i lt) (w.coeffs i j (inside i lt) less);
      constants = λ i lt. subst (λ (r : LinearRow). InRange r.constant) (same i lt) (w.constants i (inside i lt));
    }
      where
        size : length (map linear_row own ++ map linear_row shared) ≡ length (map linear_row own) + length (map linear_row shared)
        size = length-append (map linear_row own) (map linear_row shared)

        inside : (i : ℕ) → i < length (map linear_row own) → i < length (map linear_row own ++ map linear_row shared)
        inside i lt = omega (arith, size)

        same : (i : ℕ) → i < length (map linear_row own)
            → slice_index_or (map linear_row own ++ map linear_row shared) i (record { coeffs = []; constant = pos 0 }) ≡ row_at (linear_system columns own) i
        same i lt = get_or_append_left (map linear_row own) (map linear_row shared) (record { coeffs = []; constant = pos 0 }) i lt

-- rows after those of a system are as well formed as the whole
pub further_well_formed : (system : LinearSystem) (columns : ℕ) (further : List Row) → columns ≡ system.columns
    → IsWellFormed (with_rows system (map linear_row further)) → IsWellFormed (linear_system columns further)
further_well_formed system columns further count well = subst (λ n. IsWellFormed (linear_system n further)) (sym count) (record {
  few = (let e = size in let f = well.few in omega arith);
  one_each = λ i lt. subst (λ (r : LinearRow). length r.coeffs ≡ system.columns) (behind i) (well.one_each (length system.rows + i) (past i lt));
  coeffs = λ i j lt less. subst (λ (r : LinearRow). InRange (number_at r.coeffs j)) (behind i) (well.coeffs (length system.rows + i) j (past i lt) less);
  constants = λ i lt. subst (λ (r : LinearRow). InRange r.constant) (behind i) (well.constants (length system.rows + i) (past i lt));
})
  where
    size : length (system.rows ++ map linear_row further) ≡ length system.rows + length (map linear_row further)
    size = length-append system.rows (map linear_row further)

    past : (i : ℕ) → i < length (map linear_row further) → length system.rows + i < length (system.rows ++ map linear_row further)
    past i lt = omega (arith, size)

    behind : (i : ℕ) → row_at (with_rows system (map linear_row further)) (length system.rows + i) ≡ row_at (linear_system system.columns further) i
    behind i = get_or-append_right system.rows (map linear_row further) (length system.rows) (length system.rows + i) (record { coeffs = []; constant = pos 0 }) refl (omega arith)
        ∙ ap (λ k. slice_index_or (map linear_row further) k (record { coeffs = []; constant = pos 0 })) (omega arith)

-- and so are the rows of the second list
pub shared_well_formed : (system : LinearSystem) (columns : ℕ) (own shared : List Row) → columns ≡ system.columns → map linear_row own ++ map linear_row shared ≡ system.rows
    → IsWellFormed system → IsWellFormed (linear_system columns shared)
shared_well_formed system columns own shared count are well =
    further_well_formed (linear_system system.columns own) columns shared count (subst IsWellFormed (λ j. record { columns = system.columns; rows = sym are j }) well)
