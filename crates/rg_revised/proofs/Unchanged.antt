-- The rows of a table that weren't changed since the start are unit rows.
use Rattle.std.proofs.Common.{◌≡◌, ◌≢◌, ⊎_elim, ℕ, ◌+◌, ◌*◌, ◌^◌, ◌<◌, ◌≤◌, Bool, true, false, if◌then◌else◌, List, length, get_or, ap, refl, subst, sym, ◌∙◌, arith, get_or-set_other}
use Rattle.std.specs.Prelude.{ℤ, pos, neg_ℤ, ◌-ℤ◌, ◌*ℤ◌}
use Rattle.std.proofs.Math.ListN.{set}
use Rattle.std.proofs.lemmas.Int.{ints}
use Rattle.std.proofs.lemmas.Bool.{cases_lt, true≢false}
use borrow.Rule.Slice.PartMut.{put_mid}
use Rattle.rg_integers.specs.Sum.{number_at}
use Rattle.rg_integers.proofs.Ring.{ring}
use Rattle.rg_linear.specs.Table.{row_at}
use Rattle.rg_linear.proofs.Members.{differs}
use Rattle.rg_linear.proofs.TableRows.{row_other, length-row}
use Rattle.rg_revised.specs.Rows.{RowWithin, RowRenewed, TableWithin, TableRenewed}
use Rattle.rg_revised.specs.Supports.{AreSupports}
use Rattle.rg_revised.specs.declared.support.Support.{Support}
use Rattle.rg_revised.specs.Starting.{IsUnitRow, IsUnitTable, AreUnitWhereUnchanged, IsKept}

true_or_false : (b : Bool) → b ≡ true → b ≡ false → ⊥
true_or_false b is isnt = true≢false (sym is ∙ isnt)

-- ---- which rows were changed

pub all_changed : (width : ℕ) (changed : List Bool) (table : List ℤ) → ((t : ℕ) → t < length changed → get_or changed t true ≡ true) → AreUnitWhereUnchanged width changed table
all_changed width changed table all t lt isnt = absurd (true_or_false (get_or changed t true) (all t lt) isnt)

pub units_everywhere : (width n : ℕ) (changed : List Bool) (table : List ℤ) → IsUnitTable width n table → length changed ≡ n → AreUnitWhereUnchanged width changed table
units_everywhere width n changed table unit count t lt isnt = unit t (subst (λ k. t < k) count lt)

-- ---- a row that was changed is written

pub units_still : (width : ℕ) (changed : List Bool) (table row : List ℤ) (t n k : ℕ) → AreUnitWhereUnchanged width changed table → length table ≡ n * width → t < n → k ≡ width → length row ≡ width
    → get_or changed t true ≡ true → AreUnitWhereUnchanged width changed (put_mid (t * width) k table row)
units_still width changed table row t n k unit size lt same is here v less isnt = subst (IsUnitRow v) (sym (row_other width table row n t k v size lt is same apart)) (unit v less isnt)
  where
    apart : v ≢ t
    apart e = true_or_false (get_or changed t true) here (subst (λ u. get_or changed u true ≡ false) e isnt)

-- ---- a row that names no leaving variable stays

pub zero_stays : (pivot row : List ℤ) (p : ℕ) (negative : Bool) (d : ℤ) (most : ℕ) → number_at pivot p ≡ d → number_at row p ≡ pos 0 → RowWithin most row → RowRenewed pivot row row p negative d most
zero_stays pivot row p negative d most size zero within = record {
  same_length = refl;
  others = λ n lt ne. rw (size, zero) (stays d (number_at row n) (number_at pivot n));
  index = rw zero (signed negative);
  within = within;
}
  where
    stays : (d x y : ℤ) → d *ℤ x ≡ (x *ℤ d) -ℤ (y *ℤ pos 0)
    stays d x y = simp ring (omega (arith, ints))

    signed : (b : Bool) → pos 0 ≡ (if b then neg_ℤ (pos 0) else pos 0)
    signed true = refl
    signed false = refl

-- the unit row of a column names no other
pub unit_stays : (pivot row : List ℤ) (p t : ℕ) (negative : Bool) (d : ℤ) (most : ℕ) → number_at pivot p ≡ d → IsUnitRow t row → p < length row → p ≢ t → RowWithin most row
    → RowRenewed pivot row row p negative d most
unit_stays pivot row p t negative d most size unit lt ne within =
    zero_stays pivot row p negative d most size (unit p lt ∙ ap (λ b. if b then pos 1 else pos 0) (differs p t ne)) within

-- one more row is renewed, which stays as it is
pub rows_more-stays : (width : ℕ) (pivot old new : List ℤ) (p : ℕ) (negative : Bool) (d : ℤ) (most t : ℕ) → TableRenewed width pivot old new p negative d most t
    → RowRenewed pivot (row_at width old t) (row_at width new t) p negative d most → TableRenewed width pivot old new p negative d most (t + 1)
rows_more-stays width pivot old new p negative d most t r done = record {
  same_length = r.same_length;
  rows = λ v less. ⊎_elim (λ before. r.rows v before)
      (λ after. let e : t ≡ v = omega arith in subst (λ u. RowRenewed pivot (row_at width old u) (row_at width new u) p negative d most) e done) (cases_lt v t);
}

-- so does a row that wasn't changed
pub unchanged_stays : (width : ℕ) (changed : List Bool) (pivot old new : List ℤ) (p : ℕ) (negative : Bool) (d : ℤ) (most t : ℕ) → TableRenewed width pivot old new p negative d most t
    → number_at pivot p ≡ d → AreUnitWhereUnchanged width changed old → get_or changed p true ≡ true → get_or changed t true ≡ false → t < length changed → length old ≡ length changed * width
    → p < width → TableWithin width (length changed) most old → row_at width new t ≡ row_at width old t → TableRenewed width pivot old new p negative d most (t + 1)
unchanged_stays width changed pivot old new p negative d most t r size unit leaves isnt lt count inside within same = rows_more-stays width pivot old new p negative d most t r
    (subst (λ x. RowRenewed pivot (row_at width old t) x p negative d most) (sym same)
    (unit_stays pivot (row_at width old t) p t negative d most size (unit t lt isnt) (subst (λ n. p < n) (sym (length-row width old (length changed) t count lt)) inside) apart (within t lt)))
  where
    apart : p ≢ t
    apart e = true_or_false (get_or changed t true) (subst (λ u. get_or changed u true ≡ true) e leaves) isnt

-- its constant is 0
pub unchanged_constant : (changed : List Bool) (table : List ℤ) (t : ℕ) → t < length changed → length table ≡ length changed * (length changed + 1)
    → AreUnitWhereUnchanged (length changed + 1) changed table
    → get_or changed t true ≡ false → pos 0 ≡ number_at (row_at (length changed + 1) table t) (length changed)
unchanged_constant changed table t lt size unit isnt =
    sym (unit t lt isnt (length changed) inside ∙ ap (λ b. if b then pos 1 else pos 0) (differs (length changed) t (λ e. omega arith)))
  where
    inside : length changed < length (row_at (length changed + 1) table t)
    inside = let w = length-row (length changed + 1) table (length changed) t size lt in omega arith

-- ---- back to the start, row by row

-- one more row is a unit row, and the others after it that weren't changed still are
pub unit_again : (width : ℕ) (changed : List Bool) (table row : List ℤ) (t n k : ℕ) → length table ≡ n * width → t < n → k ≡ width → length row ≡ width
    → ((v : ℕ) → t ≤ v → v < n → get_or changed v true ≡ false → IsUnitRow v (row_at width table v))
    → (v : ℕ) → t + 1 ≤ v → v < n → get_or (set changed t false) v true ≡ false → IsUnitRow v (row_at width (put_mid (t * width) k table row) v)
unit_again width changed table row t n k size lt is same left v le less isnt = subst (IsUnitRow v) (sym (row_other width table row n t k v size lt same is apart))
    (left v (omega arith) less (sym (get_or-set_other changed t v false true apart) ∙ isnt))
  where
    apart : v ≢ t
    apart e = omega arith

-- ---- the invariant

pub kept : (slots : List ℕ) (d : ℤ) (table : List ℤ) (changed : List Bool) (supports : List Support) (n : ℕ) → length slots ≡ n → n < 2 ^ 32 → length table ≡ n * (n + 1) → length changed ≡ n
    → AreUnitWhereUnchanged (n + 1) changed table → length supports ≡ n → AreSupports (n + 1) table supports → IsKept (record { slots = slots; d = d; table = table }) changed supports
kept slots d table changed supports n count few size each unit support known = record {
  shape = record { few = subst (λ k. k < 2 ^ 32) (sym count) few; size = size ∙ ap (λ k. k * (k + 1)) (sym count) };
  count = each ∙ sym count;
  unit = subst (λ k. AreUnitWhereUnchanged (k + 1) changed table) (sym count) unit;
  known_count = support ∙ sym count;
  known = subst (λ k. AreSupports (k + 1) table supports) (sym count) known;
}
