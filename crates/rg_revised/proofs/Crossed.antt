-- Rows of long numbers, written number by number and row by row.
use Rattle.std.proofs.Common.{◌≡◌, ◌≢◌, ⊎_elim, ℕ, ◌+◌, ◌*◌, ◌<◌, Bool, if◌then◌else◌, List, length, subst, sym, ◌∙◌, arith, get_or-set_other, get_or-set_same}
use Rattle.std.proofs.Math.ListN.{set, length-set}
use Rattle.std.proofs.lemmas.Bool.{cases_lt}
use Rattle.std.specs.Prelude.{ℤ, pos, neg_ℤ, ◌-ℤ◌, ◌*ℤ◌}
use borrow.Rule.Slice.PartMut.{put_mid}
use Rattle.rg_integers.specs.Range.{InRange}
use Rattle.rg_integers.specs.Sum.{number_at}
use Rattle.rg_linear.proofs.TableRows.{row_put, row_other}
use Rattle.rg_linear.specs.Table.{row_at}
use Rattle.rg_revised.specs.Long.{RowCrossed, TableCrossed}
use Rattle.rg_revised.proofs.FewIndices.{each_set}

-- the row with the new member's number at its index
pub crossed_row : (pivot old crossed : List ℤ) (over : ℤ) (p : ℕ) (negative : Bool) (z : ℤ) → length crossed ≡ length old → p < length old
    → ((n : ℕ) → n < length old → number_at crossed n ≡ (number_at old n *ℤ number_at pivot p) -ℤ (number_at pivot n *ℤ number_at old p))
    → ((n : ℕ) → n < length old → InRange (number_at crossed n)) → z ≡ (if negative then neg_ℤ (over *ℤ number_at old p) else over *ℤ number_at old p) → InRange z
    → RowCrossed pivot over p negative old (set crossed p z)
crossed_row pivot old crossed over p negative z same lt done range is z_range = record {
  same_length = length-set crossed p z ∙ same;
  others = λ n less ne. get_or-set_other crossed p n z (pos 0) ne ∙ done n less;
  index = get_or-set_same crossed p z (pos 0) inside ∙ is;
  in_range = λ n less. each_set (λ k x. InRange x) crossed p n z inside (λ ne. range n less) z_range;
}
  where
    inside : p < length crossed
    inside = subst (λ n. p < n) (sym same) lt

-- one more row is written
pub rows_crossed_more : (width : ℕ) (pivot : List ℤ) (over : ℤ) (p : ℕ) (negative : Bool) (old crossed row : List ℤ) (t n k : ℕ) → TableCrossed width pivot over p negative old crossed t
    → length old ≡ n * width → t < n → k ≡ width → length row ≡ width → RowCrossed pivot over p negative (row_at width old t) row → length (put_mid (t * width) k crossed row) ≡ length old
    → TableCrossed width pivot over p negative old (put_mid (t * width) k crossed row) (t + 1)
rows_crossed_more width pivot over p negative old crossed row t n k r size lt is same done whole = record {
  same_length = whole;
  rows = λ v less. ⊎_elim (λ before. subst (RowCrossed pivot over p negative (row_at width old v)) (sym (other v (λ e. omega arith))) (r.rows v before)) (λ after. here v (omega arith)) (cases_lt v t);
}
  where
    other : (v : ℕ) → v ≢ t → row_at width (put_mid (t * width) k crossed row) v ≡ row_at width crossed v
    other v ne = row_other width crossed row n t k v (r.same_length ∙ size) lt same is ne

    here : (v : ℕ) → t ≡ v → RowCrossed pivot over p negative (row_at width old v) (row_at width (put_mid (t * width) k crossed row) v)
    here v e = subst (λ u. RowCrossed pivot over p negative (row_at width old u) (row_at width (put_mid (t * width) k crossed row) u)) e
        (subst (RowCrossed pivot over p negative (row_at width old t)) (sym (row_put width crossed row n t k (r.same_length ∙ size) lt same)) done)
