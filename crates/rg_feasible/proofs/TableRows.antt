-- The rows of a table, of which one is written.
use Rattle.std.proofs.Common.{◌≡◌, ◌≢◌, ⊎_elim, ℕ, ◌+◌, ◌*◌, ◌-◌, ◌<◌, List, ◌++◌, take, drop, length, refl, subst, sym, ◌∙◌, arith}
use Rattle.std.specs.Prelude.{ℤ, pos}
use Rattle.std.proofs.lemmas.Bool.{cases_lt}
use Rattle.std.proofs.lemmas.List.{length-take, length-drop, length-append, get_or-take, get_or-drop, get_or_append_left, get_or-append_right}
use borrow.Rule.Slice.PartMut.{put_mid}
use Rattle.rg_integers.specs.Range.{InRange}
use Rattle.rg_integers.specs.Sum.{number_at}
use Rattle.rg_integers.specs.declared.term.Wide.{Wide}
use Rattle.rg_feasible.specs.Renewal.{RowInRange, IsKept, IsExchangedRow, RowsExchanged, FirstOfRow, FirstOfRows}
use Rattle.rg_linear.proofs.TableRows.{length-row, row_put, row_other}
use Rattle.rg_linear.specs.Table.{row_at}

-- ---- numbers in range

in_range-take : (n : ℕ) (xs : List ℤ) → RowInRange xs → RowInRange (take n xs)
in_range-take n xs all k lt = subst InRange (sym (get_or-take n xs k (pos 0) (omega (arith, length-take n xs)))) (all k (omega (arith, length-take n xs)))

in_range-drop : (n : ℕ) (xs : List ℤ) → RowInRange xs → RowInRange (drop n xs)
in_range-drop n xs all k lt = subst InRange (sym (get_or-drop n xs k (pos 0))) (all (n + k) (omega (arith, length-drop n xs)))

in_range-append : (xs ys : List ℤ) → RowInRange xs → RowInRange ys → RowInRange (xs ++ ys)
in_range-append xs ys h g k lt = ⊎_elim
    (λ less. subst InRange (sym (get_or_append_left xs ys (pos 0) k less)) (h k less))
    (λ past. subst InRange (sym (get_or-append_right xs ys (length xs) k (pos 0) refl past)) (g (k - length xs) (omega (arith, length-append xs ys))))
    (cases_lt k (length xs))

pub in_range-put : (a k : ℕ) (table row : List ℤ) → RowInRange table → RowInRange row → RowInRange (put_mid a k table row)
in_range-put a k table row h g = in_range-append (take a table) _ (in_range-take a table h) (in_range-append row _ g (in_range-drop k (drop a table) (in_range-drop a table h)))

pub in_range-part : (a n : ℕ) (table : List ℤ) → RowInRange table → RowInRange (take n (drop a table))
in_range-part a n table h = in_range-take n (drop a table) (in_range-drop a table h)

-- ---- one more variable

pub rows_skipped : (members : List ℕ) (i width : ℕ) (pivot old new : List ℤ) (p q w : ℕ) → RowsExchanged members i width pivot old new p q w
    → (IsKept members i w → ⊥) → RowsExchanged members i width pivot old new p q (w + 1)
rows_skipped members i width pivot old new p q w r none = record {
  same_length = r.same_length;
  done = λ v lt kept. ⊎_elim (λ less. r.done v less kept) (λ most. (let e : v ≡ w = omega arith in absurd (none (subst (IsKept members i) e kept)))) (cases_lt v w);
}

pub rows_more : (members : List ℕ) (i width : ℕ) (pivot old new row : List ℤ) (p q w n k : ℕ) → RowsExchanged members i width pivot old new p q w
    → length old ≡ n * width → w < n → k ≡ width → length row ≡ width
    → IsExchangedRow pivot (row_at width old w) row p q → length (put_mid (w * width) k new row) ≡ length old → RowsExchanged members i width pivot old (put_mid (w * width) k new row) p q (w + 1)
rows_more members i width pivot old new row p q w n k r size lt is same done whole = record {
  same_length = whole;
  done = λ v less kept. ⊎_elim (λ before. subst (λ x. IsExchangedRow pivot (row_at width old v) x p q) (sym (other v (λ e. omega arith)))
      (r.done v before kept)) (λ most. here v (omega arith)) (cases_lt v w);
}
  where
    other : (v : ℕ) → v ≢ w → row_at width (put_mid (w * width) k new row) v ≡ row_at width new v
    other v ne = row_other width new row n w k v (r.same_length ∙ size) lt same is ne

    here : (v : ℕ) → w ≡ v → IsExchangedRow pivot (row_at width old v) (row_at width (put_mid (w * width) k new row) v) p q
    here v e = subst (λ u. IsExchangedRow pivot (row_at width old u) (row_at width (put_mid (w * width) k new row) u) p q) e
        (subst (λ x. IsExchangedRow pivot (row_at width old w) x p q) (sym (row_put width new row n w k (r.same_length ∙ size) lt same)) done)

-- ---- the first term that passes

pub first_of_rows : (members : List ℕ) (i width : ℕ) (pivot old new : List ℤ) (p q w n e : ℕ) (t : Wide)
    → RowsExchanged members i width pivot old new p q w → length old ≡ n * width → w < n → IsKept members i w
    → number_at (row_at width old w) p ≢ pos 0 → FirstOfRow pivot (row_at width old w) p e t → FirstOfRows members i width pivot old p w e t
first_of_rows members i width pivot old new p q w n e t r size lt kept named row = record {
  kept = kept;
  named = named;
  row = row;
  first = λ v less other ne m inside. ((r.done v less other).changes ne).renewed.fits m (subst (λ x. m < x) (sym (length-row width old n v size (omega arith))) inside);
}
