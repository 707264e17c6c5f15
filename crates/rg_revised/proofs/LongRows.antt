-- Numbers whose common factor is taken out, and rows of a table of them.
use Rattle.std.proofs.Common.{◌≡◌, ◌≢◌, ℕ, zero, suc, max, ◌+◌, ◌-◌, ◌*◌, ◌/◌, ◌%◌, ◌<◌, ◌≤◌, ◌==◌, Bool, true, false, if◌then◌else◌, List, [], ◌∷◌, ◌++◌, take, drop, length, le_refl, ap, refl, subst, sym, ◌∙◌, arith}
use Rattle.std.specs.Prelude.{ℤ, pos, ◌*ℤ◌, ◌<ℤ◌, unsigned_abs}
use Rattle.std.proofs.Math.ListN.{set, length-set}
use Rattle.std.proofs.Math.IntN.{*ℤ_comm, *ℤ-zero}
use Rattle.std.proofs.lemmas.Int.{ints}
use Rattle.std.proofs.lemmas.List.{drop_all, take_all, append-nil, get_or-take, get_or-drop}
use Rattle.std.proofs.Math.Nat.{mod-lt, div-lt_iff_lt-mul}
use Rattle.std.proofs.lemmas.Nat.{div-add-mod'}
use borrow.Rule.Slice.PartMut.{put_mid}
use Rattle.rg_integers.specs.Range.{InRange}
use Rattle.rg_integers.specs.Sum.{number_at}
use Rattle.rg_integers.proofs.Ring.{one-mul}
use Rattle.rg_fraction.specs.Rows.{IsPrimitivePart}
use Rattle.rg_linear.specs.Table.{number_beside, row_at}
use Rattle.rg_linear.proofs.TableRows.{row_is, row_inside, length-row}
use Rattle.rg_revised.specs.Basis.{IsMultiple}
use Rattle.rg_revised.specs.Rows.{RowWithin, TableWithin}
use Rattle.rg_revised.specs.Held.{relation_of, IsPivot}
use Rattle.rg_revised.specs.Long.{IsNarrowed, TableCrossed}
use Rattle.rg_revised.specs.View.{BasisState, HasShape}
use Rattle.rg_revised.specs.State.{IsLongExchangeOf}
use Rattle.rg_revised.proofs.Keeping.{TableMultiplied, held_exchanged}

-- ---- a list whose first number is written, and then all after it

pub headed : (long row : List ℤ) (z : ℤ) (k : ℕ) → length long ≡ length row + 1 → k ≡ length row → put_mid 1 k (set long 0 z) row ≡ z ∷ row
headed [] row z k e is = absurd (omega arith)
headed (x ∷ rest) row z k e is = ap (λ ys. z ∷ (row ++ ys)) (drop_all k rest (omega arith)) ∙ ap (λ ys. z ∷ ys) (append-nil row)

rest_is : (x : ℤ) (rest : List ℤ) → take (length (x ∷ rest) - 1) (drop 1 (x ∷ rest)) ≡ rest
rest_is x rest = let e : length (x ∷ rest) - 1 ≡ length rest = omega arith in rw e (take_all (length rest) rest (le_refl (length rest)))

pub length-rest : (long : List ℤ) (z : ℤ) (n : ℕ) → length long ≡ n + 1 → length (take (length (set long 0 z) - 1) (drop 1 (set long 0 z))) ≡ n
length-rest [] z n e = absurd (omega arith)
length-rest (x ∷ rest) z n e = ap length (rest_is z rest) ∙ omega arith

pub in_range-headed : (z : ℤ) (row : List ℤ) → InRange z → ((n : ℕ) → n < length row → InRange (number_at row n)) → (n : ℕ) → n < length (z ∷ row) → InRange (number_at (z ∷ row) n)
in_range-headed z row first rest zero lt = first
in_range-headed z row first rest (suc n) lt = rest n (omega arith)

-- ---- the common factor

-- the long numbers are the factor times these
pub record IsDivided (long : List ℤ) (factor first : ℤ) (numbers : List ℤ) : Type 0 where
  pub positive : pos 0 <ℤ factor
  pub first_is : number_at long 0 ≡ factor *ℤ first
  pub numbers_are : (n : ℕ) → n < length numbers → number_at long (suc n) ≡ factor *ℤ number_at numbers n

part_times : (long q : List ℤ) (g : ℕ) → IsPrimitivePart long q g → (k : ℕ) → k < length long → number_at long k ≡ pos (max g 1) *ℤ number_at q k
part_times long q zero part k lt = ap (λ l. number_at l k) (sym (part.zeros refl)) ∙ sym (one-mul (number_at q k))
part_times long q (suc g) part k lt = sym (part.quotients (omega arith) k lt) ∙ *ℤ_comm (number_at q k) (pos (suc g)) ∙ ap (λ n. pos n *ℤ number_at q k) (greater g)
  where
    greater : (g : ℕ) → suc g ≡ max (suc g) 1
    greater g = omega arith

pub divided_from : (long q : List ℤ) (g : ℕ) (first : ℤ) (numbers : List ℤ) → IsPrimitivePart long q g → IsNarrowed q first numbers → length long ≡ length numbers + 1
    → IsDivided long (pos (max g 1)) first numbers
divided_from long q g first numbers part narrowed size = record {
  positive = positive (max g 1) (omega arith);
  first_is = part_times long q g part 0 (omega arith) ∙ ap (λ z. pos (max g 1) *ℤ z) (sym narrowed.first_is);
  numbers_are = λ n lt. part_times long q g part (suc n) (omega arith) ∙ ap (λ z. pos (max g 1) *ℤ z) (sym (narrowed.numbers_are n lt));
}
  where
    positive : (n : ℕ) → 1 ≤ n → pos 0 <ℤ pos n
    positive n h = omega (arith, ints)

-- ---- a relation whose common factor is taken out

beside_times : (f : ℤ) (slots : List ℕ) (raw numbers : List ℤ) (m : ℕ) → length raw ≡ length numbers → ((n : ℕ) → n < length numbers → number_at raw n ≡ f *ℤ number_at numbers n)
    → number_beside slots raw m ≡ f *ℤ number_beside slots numbers m
beside_times f [] raw numbers m same all = sym (*ℤ-zero f)
beside_times f (x ∷ slots) [] [] m same all = sym (*ℤ-zero f)
beside_times f (x ∷ slots) [] (z ∷ numbers) m same all = absurd (omega arith)
beside_times f (x ∷ slots) (y ∷ raw) [] m same all = absurd (omega arith)
beside_times f (x ∷ slots) (y ∷ raw) (z ∷ numbers) m same all = go (x == m) (beside_times f slots raw numbers m (omega arith) (λ n lt. all (suc n) (omega arith)))
  where
    go : (b : Bool) → number_beside slots raw m ≡ f *ℤ number_beside slots numbers m
        → (if b then y else number_beside slots raw m) ≡ f *ℤ (if b then z else number_beside slots numbers m)
    go true ih = all 0 (omega arith)
    go false ih = ih

pub divided_multiple : (slots : List ℕ) (d f over : ℤ) (raw numbers : List ℤ) → IsDivided (d ∷ raw) f over numbers → length raw ≡ length numbers → length slots < length numbers
    → IsMultiple f (relation_of slots d raw) (relation_of slots over numbers)
divided_multiple slots d f over raw numbers divided same inside = record {
  d = divided.first_is;
  constant = divided.numbers_are (length slots) inside;
  coefficients = λ m. beside_times f slots raw numbers m same divided.numbers_are;
}

-- ---- the numbers of rows of a table

pub row_number : (width : ℕ) (table : List ℤ) (t n : ℕ) → n < width → number_at (row_at width table t) n ≡ number_at table (t * width + n)
row_number width table t n lt = ap (λ xs. number_at xs n) (row_is width table t (t * width + width) refl)
    ∙ get_or-take ((t * width + width) - t * width) (drop (t * width) table) n (pos 0) (omega arith)
    ∙ get_or-drop (t * width) table n (pos 0)

pub rows_within : (width columns most : ℕ) (table : List ℤ) → length table ≡ columns * width → RowWithin most table → TableWithin width columns most table
rows_within width columns most table size all t below n lt =
    let w = length-row width table columns t size below in
    let less : n < width = omega arith in
    let inside = row_inside table width columns t size below in
    subst (λ z. unsigned_abs z ≤ most) (sym (row_number width table t n less)) (all (t * width + n) (omega arith))

-- what holds of the numbers of each row holds of all
pub each_number : (P : ℤ → Type 0) (width columns : ℕ) (table : List ℤ) → 0 < width → length table ≡ columns * width → ((t n : ℕ) → t < columns → n < width → P (number_at (row_at width table t) n))
    → (m : ℕ) → m < length table → P (number_at table m)
each_number P width columns table some size all m lt =
    subst P (row_number width table (m / width) (m % width) rest ∙ ap (number_at table) (div-add-mod' m width)) (all (m / width) (m % width) less rest)
  where
    rest : m % width < width
    rest = mod-lt m some

    less : m / width < columns
    less = (div-lt_iff_lt-mul some).1 (subst (λ n. m < n) size lt)

row_times : (width columns : ℕ) (f : ℤ) (crossed table : List ℤ) → length crossed ≡ length table → length table ≡ columns * width
    → ((n : ℕ) → n < length table → number_at crossed n ≡ f *ℤ number_at table n) → (t n : ℕ) → t < columns → n < width → number_at (row_at width crossed t) n ≡ f *ℤ number_at (row_at width table t) n
row_times width columns f crossed table same size all t n below lt =
    let inside = row_inside table width columns t size below in
    row_number width crossed t n lt ∙ all (t * width + n) (omega arith) ∙ ap (λ z. f *ℤ z) (sym (row_number width table t n lt))

-- ---- the table after an exchange

pub multiplied_table : (b : BasisState) (crossed table' pivot : List ℤ) (p columns : ℕ) (negative : Bool) (over f d' : ℤ) → length b.table ≡ columns * (length b.slots + 1)
    → p < length b.slots + 1 → TableCrossed (length b.slots + 1) pivot over p negative b.table crossed columns
    → IsDivided ((b.d *ℤ number_at pivot p) ∷ crossed) f d' table' → length table' ≡ length b.table
    → TableMultiplied b table' pivot p negative over f d' columns
multiplied_table b crossed table' pivot p columns negative over f d' size inside r divided same = record {
  positive = divided.positive;
  denominator = divided.first_is;
  same_length = same;
  rows = λ t below.
      let old = length-row (length b.slots + 1) b.table columns t size below in
      let new = length-row (length b.slots + 1) table' columns t (same ∙ size) below in
      let row = r.rows t below in
      record {
        same_length = new ∙ sym old;
        others = λ n lt ne. sym (times t below n (omega arith)) ∙ row.others n lt ne;
        index = sym (times t below p inside) ∙ row.index;
      };
}
  where
    times : (t : ℕ) → t < columns → (n : ℕ) → n < length b.slots + 1 → number_at (row_at (length b.slots + 1) crossed t) n ≡ f *ℤ number_at (row_at (length b.slots + 1) table' t) n
    times t below n lt = row_times (length b.slots + 1) columns f crossed table' (r.same_length ∙ sym same) (same ∙ size) divided.numbers_are t n below lt

pub long_exchange_of : (b : BasisState) (crossed q table' numbers pivot : List ℤ) (p variable : ℕ) (negative : Bool) (over d' : ℤ) (g : ℕ) → HasShape b → p < length b.slots
    → length numbers ≡ length b.slots + 1 → number_at numbers p ≢ pos 0 → IsPivot numbers pivot p negative
    → TableCrossed (length b.slots + 1) pivot over p negative b.table crossed (length b.slots) → IsPrimitivePart ((b.d *ℤ number_at pivot p) ∷ crossed) q g → IsNarrowed q d' table'
    → length table' ≡ length b.table → IsLongExchangeOf b numbers over p variable (record { slots = set b.slots p variable; d = d'; table = table' })
long_exchange_of b crossed q table' numbers pivot p variable negative over d' g shape inside width named signed r part narrowed same system members held lt outside relation =
    held_exchanged system members b table' numbers pivot p variable negative over (pos (max g 1)) d' held lt outside relation width inside named signed
    (subst (TableMultiplied b table' pivot p negative over (pos (max g 1)) d') held.count
    (multiplied_table b crossed table' pivot p (length b.slots) negative over (pos (max g 1)) d' shape.size (omega arith) r
    (divided_from ((b.d *ℤ number_at pivot p) ∷ crossed) q g d' table' part narrowed (let e = r.same_length in omega arith)) same))

-- the numbers of all rows, behind the new denominator, where they were written into a list
module _ (b : BasisState) (products crossed pivot : List ℤ) (p : ℕ) (negative : Bool) (over z : ℤ) (shape : HasShape b) (room : length products ≡ length b.slots * (length b.slots + 1) + 1)
    (r : TableCrossed (length b.slots + 1) pivot over p negative b.table crossed (length b.slots)) where
  pub products_are : put_mid 1 (length (set products 0 z) - 1) (set products 0 z) crossed ≡ z ∷ crossed
  products_are =
      let same = r.same_length in
      let size = shape.size in
      let n = length-set products 0 z in
      headed products crossed z (length (set products 0 z) - 1) (omega arith) (omega arith)

  pub products_in_range : InRange z → (k : ℕ) → k < length (z ∷ crossed) → InRange (number_at (z ∷ crossed) k)
  products_in_range first = in_range-headed z crossed first
      (each_number InRange (length b.slots + 1) (length b.slots) crossed (omega arith) (r.same_length ∙ shape.size)
      (λ t n below lt. (r.rows t below).in_range n (let w = length-row (length b.slots + 1) b.table (length b.slots) t shape.size below in omega arith)))
