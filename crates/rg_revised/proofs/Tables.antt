-- The rows of a table, of which one is written.
use Rattle.std.proofs.Common.{◌≡◌, ◌≢◌, ⊎_elim, ℕ, ◌+◌, ◌*◌, ◌<◌, Bool, List, length, subst, sym, ◌∙◌, arith}
use Rattle.std.specs.Prelude.{ℤ}
use Rattle.std.proofs.lemmas.Bool.{cases_lt}
use borrow.Rule.Slice.PartMut.{put_mid}
use Rattle.rg_linear.proofs.TableRows.{row_put, row_other}
use Rattle.rg_linear.specs.Table.{row_at}
use Rattle.rg_revised.specs.Rows.{RowRenewed, TableRenewed}

-- one more row is renewed
pub rows_more : (width : ℕ) (pivot old new row : List ℤ) (p : ℕ) (negative : Bool) (d : ℤ) (most t n k : ℕ) → TableRenewed width pivot old new p negative d most t → length old ≡ n * width → t < n
    → k ≡ width → length row ≡ width
    → RowRenewed pivot (row_at width old t) row p negative d most → length (put_mid (t * width) k new row) ≡ length old
    → TableRenewed width pivot old (put_mid (t * width) k new row) p negative d most (t + 1)
rows_more width pivot old new row p negative d most t n k r size lt is same done whole = record {
  same_length = whole;
  rows = λ v less. ⊎_elim (λ before. subst (λ x. RowRenewed pivot (row_at width old v) x p negative d most) (sym (other v (λ e. omega arith))) (r.rows v before)) (λ after. here v (omega arith))
      (cases_lt v t);
}
  where
    other : (v : ℕ) → v ≢ t → row_at width (put_mid (t * width) k new row) v ≡ row_at width new v
    other v ne = row_other width new row n t k v (r.same_length ∙ size) lt same is ne

    here : (v : ℕ) → t ≡ v → RowRenewed pivot (row_at width old v) (row_at width (put_mid (t * width) k new row) v) p negative d most
    here v e = subst (λ u. RowRenewed pivot (row_at width old u) (row_at width (put_mid (t * width) k new row) u) p negative d most) e
        (subst (λ x. RowRenewed pivot (row_at width old t) x p negative d most) (sym (row_put width new row n t k (r.same_length ∙ size) lt same)) done)
