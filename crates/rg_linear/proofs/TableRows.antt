-- The rows of a flat table, of which one is written, and a list of which one number is.
use Rattle.std.proofs.Common.{◌≡◌, ◌≢◌, ⊎_elim, ℕ, ◌+◌, ◌*◌, ◌-◌, ◌<◌, ◌≤◌, List, ◌++◌, take, drop, length, le_refl, ap, refl, subst, sym, ◌∙◌, arith, below_more, get_or-set_other, get_or-set_same}
use Rattle.std.specs.Prelude.{ℤ, pos}
use Rattle.std.proofs.lemmas.Bool.{cases_lt}
use Rattle.std.proofs.lemmas.List.{length-take, length-drop, length-append}
use Rattle.std.proofs.lemmas.List.Edits.{length-between}
use Rattle.std.proofs.lemmas.Slice.{between_is, take-put_mid_below, drop-put_mid, between-put_mid}
use Rattle.std.proofs.Math.ListN.{set}
use Rattle.std.proofs.Math.Nat.{mul-le-mul}
use borrow.Rule.Slice.PartMut.{put_mid}
use Rattle.rg_integers.specs.Sum.{number_at}
use Rattle.rg_linear.specs.Table.{row_at}

pub row_end : (w width : ℕ) → (w + 1) * width ≡ w * width + width
row_end w width = omega arith

-- the rows of variables before others lie before them
pub rows_apart : (v w width : ℕ) → v < w → v * width + width ≤ w * width
rows_apart v w width lt = product (mul-le-mul one (le_refl width))
  where
    one : v + 1 ≤ w
    one = omega arith

    product : (v + 1) * width ≤ w * width → v * width + width ≤ w * width
    product m = omega (arith, row_end v width)

pub row_inside : (table : List ℤ) (width n w : ℕ) → length table ≡ n * width → w < n → w * width + width ≤ length table
row_inside table width n w size lt = let m = rows_apart w n width lt in omega arith

pub row_is : (width : ℕ) (table : List ℤ) (w e : ℕ) → e ≡ w * width + width → row_at width table w ≡ take (e - w * width) (drop (w * width) table)
row_is width table w e is = ap (λ n. take (n - w * width) (drop (w * width) table)) (row_end w width ∙ sym is)

pub length-row : (width : ℕ) (table : List ℤ) (n w : ℕ) → length table ≡ n * width → w < n → length (row_at width table w) ≡ width
length-row width table n w size lt = length-between table (w * width) ((w + 1) * width) (omega (arith, row_end w width, row_inside table width n w size lt)) ∙ omega (arith, row_end w width)

-- a part of the table that is a row
pub part_is : (width : ℕ) (old new : List ℤ) (w : ℕ) → row_at width new w ≡ row_at width old w → take ((w * width + width) - w * width) (drop (w * width) new) ≡ row_at width old w
part_is width old new w e = sym (row_is width new w (w * width + width) refl) ∙ e

pub length-part : (width : ℕ) (table row : List ℤ) (n w : ℕ) → length table ≡ n * width → w < n
    → length row ≡ length (take ((w * width + width) - w * width) (drop (w * width) table)) → length row ≡ width
length-part width table row n w size lt e = e ∙ ap length (part_is width table table w refl) ∙ length-row width table n w size lt

-- ---- the row that is written, and the others

pub row_put : (width : ℕ) (table row : List ℤ) (n w k : ℕ) → length table ≡ n * width → w < n → length row ≡ width → row_at width (put_mid (w * width) k table row) w ≡ row
row_put width table row n w k size lt same = between-put_mid (w * width) k table row ((w + 1) * width) (omega (arith, row_inside table width n w size lt)) (omega (arith, row_end w width))

pub length-put-mid : (width : ℕ) (table row : List ℤ) (n w k : ℕ) → length table ≡ n * width → w < n → length row ≡ width → k ≡ width → length (put_mid (w * width) k table row) ≡ length table
length-put-mid width table row n w k size lt same is =
    length-append (take (w * width) table) (row ++ drop k (drop (w * width) table))
    ∙ omega (
      arith,
      length-take (w * width) table,
      length-append row (drop k (drop (w * width) table)),
      length-drop k
          (drop (w * width) table),
      length-drop (w * width) table,
      row_inside table width n w size lt,
    )

pub row_other : (width : ℕ) (table row : List ℤ) (n w k v : ℕ) → length table ≡ n * width → w < n → length row ≡ width → k ≡ width → v ≢ w
    → row_at width (put_mid (w * width) k table row) v ≡ row_at width table v
row_other width table row n w k v size lt same is ne = ⊎_elim before behind (cases_lt v w)
  where
    inside : w * width ≤ length table
    inside = omega (arith, row_inside table width n w size lt)

    before : v < w → row_at width (put_mid (w * width) k table row) v ≡ row_at width table v
    before less = between_is (put_mid (w * width) k table row) (v * width) ((v + 1) * width)
        ∙ ap (drop (v * width)) (take-put_mid_below (w * width) k table row ((v + 1) * width) (omega (arith, row_end v width, rows_apart v w width less)) inside)
        ∙ sym (between_is table (v * width) ((v + 1) * width))

    behind : w ≤ v → row_at width (put_mid (w * width) k table row) v ≡ row_at width table v
    behind le = ap (take ((v + 1) * width - v * width)) (drop-put_mid (w * width) k table row (v * width) (omega (arith, is, rows_apart w v width (omega arith))) inside (same ∙ sym is))

-- one more number is written, and has the property of its index
pub below_set : (P : ℕ → ℤ → Type 0) (xs : List ℤ) (n : ℕ) (z : ℤ) → n < length xs → ((k : ℕ) → k < n → P k (number_at xs k)) → P n z → (k : ℕ) → k < n + 1 → P k (number_at (set xs n z) k)
below_set P xs n z lt all here = below_more (λ k. P k (number_at (set xs n z) k)) n
    (λ k h. let ne : k ≢ n = omega arith in subst (P k) (sym (get_or-set_other xs n k z (pos 0) ne)) (all k h))
    (subst (P n) (sym (get_or-set_same xs n z (pos 0) lt)) here)
