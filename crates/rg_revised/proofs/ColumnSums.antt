-- The numbers of a row's relation, column by column.
use Rattle.std.proofs.Common.{◌≡◌, ◌≢◌, ⊎_elim, ℕ, suc, ◌+◌, ◌*◌, ◌-◌, ◌^◌, ◌<◌, ◌≤◌, List, length, ap, subst, sym, ◌∙◌, arith, add-one, le_refl, get_or-set_other, get_or-set_same}
use Rattle.std.proofs.Math.ListN.{set, length-set}
use Rattle.std.proofs.lemmas.Int.{ints}
use Rattle.std.specs.Prelude.{ℤ, pos, ◌+ℤ◌, ◌*ℤ◌, unsigned_abs}
use Rattle.std.proofs.Math.IntN.{zero-*ℤ}
use Rattle.rg_integers.specs.Range.{InRange}
use Rattle.rg_integers.specs.Sum.{number_at}
use Rattle.rg_linear.proofs.Members.{equal_or_not}
use Rattle.rg_linear.proofs.TableRows.{length-row}
use Rattle.rg_linear.specs.Table.{row_at}
use Rattle.rg_revised.specs.Rows.{RowWithin, TableWithin}
use Rattle.rg_revised.specs.Long.{IsSummable}
use Rattle.rg_revised.specs.Reading.{column_sum, IsSmallRow, IsAdded, IsRead}
use Rattle.rg_revised.proofs.Sizes.{sum_small, whole_small, part_in_range, whole_in_range}

pub numbers_within : (width columns most : ℕ) (table : List ℤ) → length table ≡ columns * width → TableWithin width columns most table → (t s : ℕ) → t < columns → s < width
    → unsigned_abs (number_at (row_at width table t) s) ≤ most
numbers_within width columns most table size within t s lt less = within t lt s (let e = length-row width table columns t size lt in omega arith)

pub next_sum : (width n : ℕ) (coeffs table old new : List ℤ) (t s : ℕ) → n ≡ width → IsAdded (number_at coeffs t) (row_at n table t) old new → s < width
    → number_at old s ≡ column_sum width coeffs table t s → length old ≡ n → number_at new s ≡ column_sum width coeffs table (t + 1) s
next_sum width n coeffs table old new t s same added lt is size =
    added.numbers s (omega arith)
    ∙ ap (λ z. z +ℤ (number_at coeffs t *ℤ number_at (row_at n table t) s)) is
    ∙ ap (λ w. column_sum width coeffs table t s +ℤ (number_at coeffs t *ℤ number_at (row_at w table t) s)) same
    ∙ ap (λ k. column_sum width coeffs table k s) (sym (add-one t))

pub next_zero : (width : ℕ) (coeffs table old : List ℤ) (t s : ℕ) → number_at coeffs t ≡ pos 0 → number_at old s ≡ column_sum width coeffs table t s
    → number_at old s ≡ column_sum width coeffs table (t + 1) s
next_zero width coeffs table old t s none is = is ∙ more (column_sum width coeffs table t s) (number_at coeffs t) (number_at (row_at width table t) s) none
    ∙ ap (λ k. column_sum width coeffs table k s) (sym (add-one t))
  where
    more : (z a x : ℤ) → a ≡ pos 0 → z ≡ z +ℤ (a *ℤ x)
    more z a x e = rw e (let n = zero-*ℤ x in omega (arith, ints))

pub read_whole : (width : ℕ) (coeffs : List ℤ) (constant : ℤ) (table : List ℤ) (d : ℤ) (numbers : List ℤ) (z : ℤ) → length numbers ≡ width → 0 < width
    → ((s : ℕ) → s < width → number_at numbers s ≡ column_sum width coeffs table (length coeffs) s)
    → z ≡ number_at numbers (length numbers - 1) +ℤ (d *ℤ constant) → IsRead width coeffs constant table d (set numbers (length numbers - 1) z)
read_whole width coeffs constant table d numbers z same some sums is = record {
  same_length = length-set numbers (length numbers - 1) z ∙ same;
  coefficients = λ s lt. let ne : s ≢ length numbers - 1 = omega arith in get_or-set_other numbers (length numbers - 1) s z (pos 0) ne ∙ sums s (omega arith);
  constant_is = λ s e.
      let at : s ≡ length numbers - 1 = omega arith in
      subst (λ x. number_at (set numbers (length numbers - 1) z) x ≡ column_sum width coeffs table (length coeffs) x +ℤ (d *ℤ constant)) (sym at)
      (get_or-set_same numbers (length numbers - 1) z (pos 0) (omega arith) ∙ is ∙ ap (λ y. y +ℤ (d *ℤ constant)) (sums (length numbers - 1) (omega arith)));
}

-- the numbers of a small row's relation
pub read_small : (width columns norm most : ℕ) (coeffs : List ℤ) (constant : ℤ) (table : List ℤ) (d : ℤ) (numbers : List ℤ) → IsRead width coeffs constant table d numbers
    → IsSmallRow norm most coeffs constant → length coeffs ≡ columns → length table ≡ columns * width → TableWithin width columns most table → unsigned_abs d ≤ most → RowWithin (2 ^ 63 - 1) numbers
read_small width columns norm most coeffs constant table d numbers read small each size within dw s lt = ⊎_elim
    (λ (e : suc s ≡ width). subst (λ z. unsigned_abs z ≤ 2 ^ 63 - 1) (sym (read.constant_is s e)) (whole_small norm most coeffs constant small (λ t. number_at (row_at width table t) s) d all dw))
    (λ ne. subst (λ z. unsigned_abs z ≤ 2 ^ 63 - 1) (sym (read.coefficients s (less ne))) (sum_small norm most coeffs constant small (λ t. number_at (row_at width table t) s) all))
    (equal_or_not (suc s) width)
  where
    inside : s < width
    inside = let e = read.same_length in omega arith

    less : suc s ≢ width → suc s < width
    less ne = let h = inside in omega arith

    all : (t : ℕ) → t < length coeffs → unsigned_abs (number_at (row_at width table t) s) ≤ most
    all t below = numbers_within width columns most table size within t s (omega arith) inside

-- the numbers of a row's relation in sums of 128 bits
pub read_in_range : (width norm most : ℕ) (coeffs : List ℤ) (constant : ℤ) (table : List ℤ) (d : ℤ) (numbers : List ℤ) → IsRead width coeffs constant table d numbers
    → IsSummable norm most coeffs constant → length table ≡ length coeffs * width → TableWithin width (length coeffs) most table → unsigned_abs d ≤ most → (s : ℕ) → s < width
    → InRange (number_at numbers s)
read_in_range width norm most coeffs constant table d numbers read small size within dw s lt = ⊎_elim
    (λ (e : suc s ≡ width). subst InRange (sym (read.constant_is s e)) (whole_in_range norm most coeffs constant small (λ t. number_at (row_at width table t) s) d all dw))
    (λ ne. subst InRange (sym (read.coefficients s (omega arith)))
    (part_in_range norm most coeffs constant small (λ t. number_at (row_at width table t) s) (length coeffs) (le_refl (length coeffs)) all))
    (equal_or_not (suc s) width)
  where
    all : (t : ℕ) → t < length coeffs → unsigned_abs (number_at (row_at width table t) s) ≤ most
    all t below = numbers_within width (length coeffs) most table size within t s below lt
