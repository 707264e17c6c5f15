-- Dictionaries before any exchange.
use Rattle.std.proofs.Common.{◌≡◌, ◌⊎◌, ⊎_elim, ℕ, zero, suc, ◌+◌, ◌*◌, ◌-◌, ◌^◌, ◌<◌, ◌≤◌, nat_lt, if◌then◌else◌, List, [], ◌∷◌, ◌++◌, map, take, drop, replicate, length, get_or, le_refl, Contains, ap, ap₂, refl, subst, sym, ◌∙◌, inl, inr, arith}
use Rattle.std.specs.Prelude.{ℤ, pos, slice_range, slice_index_or}
use Rattle.std.specs.List.{insert, remove}
use Rattle.std.specs.List.Sorted.{IsStrictlyIncreasing}
use Rattle.std.proofs.Math.Nat.{mul-le-mul}
use Rattle.std.proofs.lemmas.List.Edits.{length-insert, length-remove}
use Rattle.std.proofs.lemmas.Bool.{cases_lt}
use Rattle.std.proofs.lemmas.List.{ext_get_or, length-map, length-replicate, length-append, length-drop, length-take-le, get_or-take, get_or-map, get_or-replicate, get_or_append_left, get_or_at, get_or_default, take-append-le, drop-append-le, drop_at, take_all}
use Rattle.rg_integers.specs.Range.{InRange}
use Rattle.rg_integers.specs.Sum.{number_at}
use Rattle.rg_integers.proofs.Ranges.{zero_in_range}
use Rattle.rg_linear.specs.System.{LinearRow, LinearSystem, variables, row_at}
use Rattle.rg_linear.specs.Dictionary.{Relation, IsFree, numbers_from, column_set, row_relation, DictionaryRow}
use Rattle.rg_linear.specs.Table.{numbers_of, ShowsRow, row_width, row_numbers}
use Rattle.rg_linear.proofs.Columns.{columns_free, columns_row, below_test}
use Rattle.rg_linear.specs.Exchange.{exchanged}
use Rattle.rg_linear.proofs.Members.{exchanged-ordered, exchanged-Contains, numbers_from-ordered, length-numbers_from, Contains-numbers_from, get_or-numbers_from}
use Rattle.rg_linear.proofs.Unique.{same_relation}
use Rattle.rg_feasible.specs.Contents.{Contents, IsStored, IsDictionary, columns_alone, with_row}
use Rattle.rg_feasible.specs.Renewal.{RowInRange}
use Rattle.rg_linear.proofs.TableRows.{row_end, row_inside}
use Rattle.rg_linear.proofs.MemberIndices.{member_at}

-- ---- the columns

pub numbers_from-more : (first n : ℕ) → numbers_from first (suc n) ≡ numbers_from first n ++ (first + n) ∷ []
numbers_from-more first zero = ap (λ x. x ∷ []) (none first)
  where
    none : (first : ℕ) → first ≡ first + 0
    none first = omega arith
numbers_from-more first (suc n) = ap (λ xs. first ∷ xs) (numbers_from-more (suc first) n ∙ ap (λ x. numbers_from (suc first) n ++ x ∷ []) (next first n))
  where
    next : (first n : ℕ) → suc first + n ≡ first + suc n
    next first n = omega arith

-- a list of as many numbers is what a function of the columns gives
columns_listed : (f : ℕ → ℤ) (xs : List ℤ) (n : ℕ) → length xs ≡ n → ((j : ℕ) → j < n → f j ≡ number_at xs j) → xs ≡ map f (numbers_from 0 n)
columns_listed f xs n size each = ext_get_or (pos 0) xs (map f (numbers_from 0 n)) (size ∙ sym (length-numbers_from 0 n) ∙ sym (length-map (numbers_from 0 n) f)) (λ j lt. at j (omega arith))
  where
    at : (j : ℕ) → j < n → number_at xs j ≡ number_at (map f (numbers_from 0 n)) j
    at j lt = sym (each j lt) ∙ ap f (here j lt) ∙ sym (get_or-map f (numbers_from 0 n) j 0 (pos 0) (omega (arith, length-numbers_from 0 n)))
      where
        here : (j : ℕ) → j < n → j ≡ get_or (numbers_from 0 n) j 0
        here j lt = let r = get_or-numbers_from 0 n j 0 lt in omega arith

-- ---- the dictionary without a row

abbrev fresh : ℕ → ℕ → List ℕ → List ℤ → Contents
fresh columns rows members table = record { columns = columns; rows = 0; room = rows; members = members; table = table }

pub stored_fresh : (columns rows capacity : ℕ) (members : List ℕ) (table pivot_row : List ℤ) → columns + rows < 2 ^ 32
    → members ≡ numbers_from 0 columns → length table ≡ columns * (columns + 2) → RowInRange table
    → (columns + rows) * (columns + 2) ≤ capacity → length pivot_row ≡ columns + 2 → IsStored (fresh columns rows members table) capacity pivot_row
stored_fresh columns rows capacity members table pivot_row few is size fits space width = record {
  few = omega arith;
  count = ap length is ∙ length-numbers_from 0 columns;
  ordered = subst IsStrictlyIncreasing (sym is) (numbers_from-ordered 0 columns);
  within = λ k lt. subst (λ xs. get_or xs k 0 < columns + 0) (sym is) (below k (omega (arith, ap length is, length-numbers_from 0 columns)));
  size = size ∙ ap (λ n. n * (columns + 2)) (none columns);
  in_range = fits;
  space = subst (λ n. (n + rows) * (columns + 2) ≤ capacity) (none columns) space;
  width = width;
}
  where
    none : (n : ℕ) → n ≡ n + 0
    none n = omega arith

    below : (k : ℕ) → k < columns → get_or (numbers_from 0 columns) k 0 < columns + 0
    below k lt = let r = get_or-numbers_from 0 columns k 0 lt in omega arith

pub dictionary_fresh : (columns rows : ℕ) (members : List ℕ) (table : List ℤ) → members ≡ numbers_from 0 columns
    → length table ≡ columns * (columns + 2) → IsDictionary (columns_alone columns) (fresh columns rows members table)
dictionary_fresh columns rows members table is size = record {
  columns = refl;
  rows = refl;
  free = subst (IsFree (columns_alone columns)) (sym is) (columns_free (columns_alone columns));
  table = record {
    size = size ∙ ap (λ n. n * (columns + 2)) (none columns);
    rows = λ w lt lacks. absurd (lacks (subst (λ xs. Contains xs w) (sym is) (Contains-numbers_from 0 columns w (omega arith) (omega arith))));
  };
}
  where
    none : (n : ℕ) → n ≡ n + 0
    none n = omega arith

-- a table has the numbers of the columns first
pub columns_first : (columns rows size : ℕ) → size ≡ (columns + rows) * (columns + 2) → columns * (columns + 2) ≤ size
columns_first columns rows size is = subst (λ n. columns * (columns + 2) ≤ n) (sym is) (mul-le-mul (omega arith) (le_refl (columns + 2)))

-- zeros are in range
pub zeros_fit : (n : ℕ) (table : List ℤ) → table ≡ replicate n (pos 0) → (length table ≡ n) × RowInRange table
zeros_fit n table zeros = (size, λ k lt. subst (λ xs. InRange (number_at xs k)) (sym zeros) (subst InRange (sym (get_or-replicate n k (pos 0) (pos 0) (omega (arith, size)))) zero_in_range))
  where
    size : length table ≡ n
    size = ap length zeros ∙ length-replicate n (pos 0)

-- the first numbers of a table
pub first_fit : (table : List ℤ) (n : ℕ) → n ≤ length table → RowInRange table → (length (take n table) ≡ n) × RowInRange (take n table)
first_fit table n le fits = (size, λ k lt. subst InRange (sym (get_or-take n table k (pos 0) (omega (arith, size)))) (fits k (omega (arith, size))))
  where
    size : length (take n table) ≡ n
    size = length-take-le n table le

-- an empty list, filled up with zeros
pub filled : (before after : List ℤ) (n len : ℕ) → before ≡ [] → len ≡ 0 → after ≡ take n before ++ replicate (n - len) (pos 0) → after ≡ replicate n (pos 0)
filled before after n len none zero_len is = is ∙ subst (λ xs. take n xs ++ replicate (n - len) (pos 0) ≡ replicate n (pos 0)) (sym none) (rest (take {A = ℤ} n []) (empty n))
  where
    count : (n len : ℕ) → len ≡ 0 → n - len ≡ n
    count n len e = omega arith

    empty : (n : ℕ) → take {A = ℤ} n [] ≡ []
    empty zero = refl
    empty (suc n) = refl

    rest : (xs : List ℤ) → xs ≡ [] → xs ++ replicate (n - len) (pos 0) ≡ replicate n (pos 0)
    rest xs e = subst (λ ys. ys ++ replicate (n - len) (pos 0) ≡ replicate n (pos 0)) (sym e) (ap (λ m. replicate m (pos 0)) (count n len zero_len))

-- ---- one more row

abbrev relation_of : ℕ → LinearRow → Relation
relation_of columns row = record { d = pos 1; constant = row.constant; coefficient = λ j. if nat_lt j columns then slice_index_or row.coeffs j (pos 0) else pos 0 }

slice-append : (xs ys : List ℤ) (a e : ℕ) → a ≤ e → e ≤ length xs → slice_range (xs ++ ys) a e ≡ slice_range xs a e
slice-append xs ys a e le inside = ap (take (e - a)) (drop-append-le a xs ys (omega arith)) ∙ take-append-le (e - a) (drop a xs) ys (omega (arith, length-drop a xs))

slice_end : (xs ys : List ℤ) (a e : ℕ) → length xs ≡ a → a + length ys ≡ e → slice_range (xs ++ ys) a e ≡ ys
slice_end xs ys a e size is = ap (take (e - a)) (drop_at xs ys a size) ∙ take_all (e - a) ys (omega arith)

module _ (system : LinearSystem) (columns rows room room' : ℕ) (members : List ℕ) (table new coeffs : List ℤ) (constant : ℤ)
    (d : IsDictionary system (record { columns = columns; rows = rows; room = room; members = members; table = table }))
    (start : members ≡ numbers_from 0 columns) (size : length coeffs ≡ columns) (is : new ≡ table ++ pos 1 ∷ constant ∷ coeffs) where
  next : LinearSystem
  next = with_row system coeffs constant

  added : LinearRow
  added = record { coeffs = coeffs; constant = constant }

  columns_are : members ≡ column_set system
  columns_are = start ∙ ap (numbers_from 0) d.columns

  width : columns + 2 ≡ row_width system
  width = ap (λ n. n + 2) d.columns

  more : length (system.rows ++ record { coeffs = coeffs; constant = constant } ∷ []) ≡ length system.rows + 1
  more = length-append system.rows (record { coeffs = coeffs; constant = constant } ∷ [])

  count : variables (with_row system coeffs constant) ≡ variables system + 1
  count = omega (arith, more)

  whole : length new ≡ variables (with_row system coeffs constant) * row_width (with_row system coeffs constant)
  whole = ap length is ∙ length-append table (pos 1 ∷ constant ∷ coeffs)
      ∙ omega (arith, d.table.size, size, width, row_end (variables system) (row_width system)) ∙ ap (λ n. n * row_width system) (sym count)

  -- the row of a variable that was there
  old_row : (i : ℕ) → i < length system.rows → row_at (with_row system coeffs constant) i ≡ row_at system i
  old_row i lt = get_or_append_left system.rows (record { coeffs = coeffs; constant = constant } ∷ []) _ i lt

  old_shown : (w i : ℕ) → system.columns + i ≡ w → i < length system.rows → ¬ Contains members w
      → row_numbers (with_row system coeffs constant) new w ≡ numbers_of members (row_relation (with_row system coeffs constant) i)
  old_shown w i e lt lacks = ap (λ xs. row_numbers system xs w) is
      ∙ slice-append table (pos 1 ∷ constant ∷ coeffs) (w * row_width system) ((w + 1) * row_width system)
      (omega (arith, row_end w (row_width system)))
      (omega (arith, row_end w (row_width system), row_inside table (row_width system) (variables system) w d.table.size (omega arith)))
      ∙ before.shown ∙ ap (numbers_of members) (same_relation system members w before.k (row_relation system i) before.row there ∙ ap (relation_of system.columns) (sym (old_row i lt)))
    where
      before : ShowsRow system members w (row_numbers system table w)
      before = d.table.rows w (omega arith) lacks

      there : DictionaryRow system members w (row_relation system i)
      there = subst (λ ms. DictionaryRow system ms w (row_relation system i)) (sym columns_are)
          (subst (λ x. DictionaryRow system (column_set system) x (row_relation system i)) e (columns_row system i lt))

  -- the row that is added
  new_row : row_at (with_row system coeffs constant) (length system.rows) ≡ record { coeffs = coeffs; constant = constant }
  new_row = get_or_at system.rows (record { coeffs = coeffs; constant = constant }) [] _ (length system.rows) refl

  listed : coeffs ≡ map (λ j. if nat_lt j system.columns then slice_index_or coeffs j (pos 0) else pos 0) members
  listed = columns_listed (λ j. if nat_lt j system.columns then slice_index_or coeffs j (pos 0) else pos 0) coeffs system.columns (size ∙ d.columns) (λ j lt. rw (below_test j system.columns lt) refl)
      ∙ ap (map (λ j. if nat_lt j system.columns then slice_index_or coeffs j (pos 0) else pos 0)) (sym columns_are)

  new_shown : (w : ℕ) → system.columns + length system.rows ≡ w
      → row_numbers (with_row system coeffs constant) new w ≡ numbers_of members (row_relation (with_row system coeffs constant) (length system.rows))
  new_shown w e = ap (λ xs. row_numbers system xs w) is
      ∙ slice_end table (pos 1 ∷ constant ∷ coeffs) (w * row_width system) ((w + 1) * row_width system)
      (d.table.size ∙ ap (λ n. n * row_width system) e) (omega (arith, row_end w (row_width system), size, width))
      ∙ ap (λ xs. pos 1 ∷ constant ∷ xs) listed ∙ ap (λ x. numbers_of members (relation_of system.columns x)) (sym new_row)

  shows_row : (w : ℕ) → w < variables (with_row system coeffs constant) → ¬ Contains members w
      → ShowsRow (with_row system coeffs constant) members w (row_numbers (with_row system coeffs constant) new w)
  shows_row w lt lacks = at (w - system.columns) (omega (arith, past)) (cases_lt (w - system.columns) (length system.rows))
    where
      past : system.columns ≤ w
      past = ⊎_elim (λ less. absurd (lacks (subst (λ ms. Contains ms w) (sym columns_are)
          (Contains-numbers_from 0 system.columns w (omega arith) (omega arith))))) (λ le. le) (cases_lt w system.columns)

      row : (i : ℕ) → system.columns + i ≡ w → i < length (system.rows ++ record { coeffs = coeffs; constant = constant } ∷ [])
          → DictionaryRow (with_row system coeffs constant) members w (row_relation (with_row system coeffs constant) i)
      row i e inside = subst (λ ms. DictionaryRow (with_row system coeffs constant) ms w (row_relation (with_row system coeffs constant) i)) (sym columns_are)
          (subst (λ x. DictionaryRow (with_row system coeffs constant) (column_set system) x (row_relation (with_row system coeffs constant) i)) e
          (columns_row (with_row system coeffs constant) i inside))

      last : (i : ℕ) → system.columns + i ≡ w → length system.rows ≡ i → ShowsRow (with_row system coeffs constant) members w (row_numbers (with_row system coeffs constant) new w)
      last i e same = record {
        k = row_relation (with_row system coeffs constant) (length system.rows);
        row = row (length system.rows) (omega arith) (omega (arith, more));
        shown = new_shown w (omega arith);
      }

      at : (i : ℕ) → system.columns + i ≡ w → (i < length system.rows) ⊎ (length system.rows ≤ i)
          → ShowsRow (with_row system coeffs constant) members w (row_numbers (with_row system coeffs constant) new w)
      at i e (inl less) = record { k = row_relation (with_row system coeffs constant) i; row = row i e (omega (arith, more)); shown = old_shown w i e less lacks }
      at i e (inr most) = last i e (omega (arith, more, count))

  pub dictionary_pushed : IsDictionary (with_row system coeffs constant) (record { columns = columns; rows = rows + 1; room = room'; members = members; table = new })
  dictionary_pushed = record {
    columns = d.columns;
    rows = ap (λ n. n + 1) d.rows ∙ sym more;
    free = subst (IsFree (with_row system coeffs constant)) (sym columns_are) (columns_free (with_row system coeffs constant));
    table = record { size = whole; rows = shows_row };
  }

-- ---- after an exchange

pub stored_exchanged : (old new : Contents) (capacity i q to : ℕ) (pivot_row written : List ℤ)
    → IsStored old capacity pivot_row → new.columns ≡ old.columns → new.rows ≡ old.rows → new.room ≡ old.room
    → new.members ≡ insert (remove old.members q) to i → new.members ≡ exchanged old.members i (get_or old.members q 0) → i < old.columns + old.rows
    → ¬ Contains old.members i → q < length old.members → to < length old.members
    → length new.table ≡ length old.table → RowInRange new.table → length written ≡ length pivot_row → IsStored new capacity written
stored_exchanged old new capacity i q to pivot_row written h columns rows room is members below outside lt inside size fits width = record {
  few = rw (columns, rows, room) h.few;
  count = ap length is ∙ count ∙ h.count ∙ sym columns;
  ordered = subst IsStrictlyIncreasing (sym members) (exchanged-ordered i (get_or old.members q 0) old.members h.ordered outside);
  within = λ k less. rw (columns, rows) (bounded (get_or new.members k 0) (subst (λ ms. Contains ms (get_or new.members k 0)) members (member_at new.members k less)));
  size = size ∙ h.size ∙ ap₂ (λ x y. (x + y) * (x + 2)) (sym columns) (sym rows);
  in_range = fits;
  space = rw (columns, rows, room) h.space;
  width = width ∙ h.width ∙ ap (λ n. n + 2) (sym columns);
}
  where
    count : length (insert (remove old.members q) to i) ≡ length old.members
    count = omega (arith, length-insert (remove old.members q) to i (omega (arith, length-remove old.members q lt)), length-remove old.members q lt)

    each : (m : ℕ) → Contains old.members m → m < old.columns + old.rows
    each m (k, less, e) = let r = h.within k less in let d = get_or_default old.members k 0 m less in omega arith

    bounded : (m : ℕ) → Contains (exchanged old.members i (get_or old.members q 0)) m → m < old.columns + old.rows
    bounded m has = ⊎_elim (λ (e : i ≡ m). subst (λ x. x < old.columns + old.rows) e below) (λ there. each m there.0) (exchanged-Contains i (get_or old.members q 0) m old.members has)
