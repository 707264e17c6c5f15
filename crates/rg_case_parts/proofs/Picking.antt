-- The numbers of the columns, picked label by label.
use Rattle.std.proofs.Common.{◌≡◌, ℕ, zero, suc, ◌+◌, ◌<◌, ◌≤◌, ◌&&◌, Ok, Bool, true, false, if◌then◌else◌, List, [], ◌∷◌, ◌++◌, All, map, drop, length, ap, refl, subst, sym, ◌∙◌, arith, append_assoc, add-one}
use Rattle.std.specs.Prelude.{ℤ, pos, slice_index, slice_index_or}
use Rattle.std.specs.Int.{from_bool}
use Rattle.std.proofs.lemmas.List.{append-nil, drop_all, length-map, get_or_default, get_or-map}
use Rattle.std.proofs.lemmas.List.Elements.{All-nil, All-cons, All-append, All-map}
use Rattle.std.proofs.Math.Seq.{drop-cons}
use Rattle.rg_theory.specs.declared.Class.{Class}
use Rattle.rg_theory.specs.System.{System, labels}
use Rattle.rg_integers.specs.Range.{InRange}
use Rattle.rg_linear.specs.Cycle.{CycleBasis}
use Rattle.rg_folds.specs.Fold.{Ratio, whole}
use Rattle.rg_folds.specs.Substitution.{is_in, numbers_where, free_labels, coefficient_fold, substitute_fold}
use Rattle.rg_case_folds.specs.Rewriting.{has_label, free_columns, has_start, pick, columns_of, column_count}
use Rattle.rg_case_folds.proofs.Items.{each_length}
use Rattle.rg_case_parts.specs.declared.columns.Columns.{Columns}
use Rattle.rg_case_parts.specs.ColumnViews.{AreColumns}

module _ (test : ℕ → Bool) (fs : List ℕ) (rs done all : List Ratio) (i : ℕ) (so_far : done ++ pick test (drop i fs) (drop i rs) ≡ all) where
  module _ (d : Ratio) (lt : i < length fs) (lt' : i < length rs) where
    at : pick test (drop i fs) (drop i rs) ≡ (if test (slice_index fs i) then
        (slice_index_or rs i d ∷ pick test (drop (i + 1) fs) (drop (i + 1) rs)) else pick test (drop (i + 1) fs) (drop (i + 1) rs))
    at = ap (λ l. pick test l (drop i rs)) (drop-cons fs i 0 lt ∙ ap (λ n. slice_index fs i ∷ drop n fs) (sym (add-one i)))
        ∙ ap (pick test (slice_index fs i ∷ drop (i + 1) fs)) (drop-cons rs i d lt' ∙ ap (λ n. slice_index_or rs i d ∷ drop n rs) (sym (add-one i)))

    pick_taken : test (slice_index fs i) ≡ true → (done ++ slice_index_or rs i d ∷ []) ++ pick test (drop (i + 1) fs) (drop (i + 1) rs) ≡ all
    pick_taken e = append_assoc done (slice_index_or rs i d ∷ []) (pick test (drop (i + 1) fs) (drop (i + 1) rs))
        ∙ ap (λ l. done ++ l) (sym (at ∙ ap (λ b. if b then (slice_index_or rs i d ∷ pick test (drop (i + 1) fs) (drop (i + 1) rs)) else pick test (drop (i + 1) fs)
        (drop (i + 1) rs)) e)) ∙ so_far

    pub pick_pushed : (r : Ratio) → slice_index_or rs i d ≡ r → test (slice_index fs i) ≡ true → (done ++ r ∷ []) ++ pick test (drop (i + 1) fs) (drop (i + 1) rs) ≡ all
    pick_pushed r is e = subst (λ x. (done ++ x ∷ []) ++ pick test (drop (i + 1) fs) (drop (i + 1) rs) ≡ all) is (pick_taken e)

    pub pick_left : test (slice_index fs i) ≡ false → done ++ pick test (drop (i + 1) fs) (drop (i + 1) rs) ≡ all
    pick_left e = ap (λ l. done ++ l) (sym (at
        ∙ ap (λ b. if b then (slice_index_or rs i d ∷ pick test (drop (i + 1) fs) (drop (i + 1) rs)) else pick test (drop (i + 1) fs) (drop (i + 1) rs)) e)) ∙ so_far

  pub pick_ends : length fs ≤ i → done ≡ all
  pick_ends past = sym (append-nil done) ∙ ap (λ l. done ++ l) (sym (ap (λ l. pick test l (drop i rs)) (drop_all i fs past))) ∙ so_far

-- ---- how many there are

-- the items that pass the test
abbrev pub chosen : (ℕ → Bool) → List ℕ → List ℕ
chosen test [] = []
chosen test (f ∷ fs) = if test f then (f ∷ chosen test fs) else chosen test fs

where_chosen : (p q : ℕ → Bool) (a n : ℕ) → numbers_where (λ t. p t && q t) a n ≡ chosen q (numbers_where p a n)
where_chosen p q a zero = refl
where_chosen p q a (suc n) = go (p a) (where_chosen p q (suc a) n)
  where
    go : (x : Bool) → numbers_where (λ t. p t && q t) (suc a) n ≡ chosen q (numbers_where p (suc a) n)
        → (if x && q a then (a ∷ numbers_where (λ t. p t && q t) (suc a) n) else numbers_where (λ t. p t && q t) (suc a) n) ≡ chosen q
        (if x then (a ∷ numbers_where p (suc a) n) else numbers_where p (suc a) n)
    go true e = ap (λ l. if q a then (a ∷ l) else l) e
    go false e = e

pick_length : (test : ℕ → Bool) (fs : List ℕ) (rs : List Ratio) → length rs ≡ length fs → length (pick test fs rs) ≡ length (chosen test fs)
pick_length test [] rs e = refl
pick_length test (f ∷ fs) [] e = absurd (omega arith)
pick_length test (f ∷ fs) (r ∷ rs) e = go (test f) (pick_length test fs rs (omega arith))
  where
    go : (b : Bool) → length (pick test fs rs) ≡ length (chosen test fs) → length (if b then (r ∷ pick test fs rs) else pick test fs rs) ≡ length (if b then (f ∷ chosen test fs) else chosen test fs)
    go true h = ap suc h
    go false h = h

-- the columns are counted by the free labels with an arc
pub columns_count : (lts : System) (basis : CycleBasis) (class : Class)
    → column_count lts basis class ≡ (if has_start class then 1 else 0) + length (chosen (λ t. has_label t lts.arcs) (free_labels (labels lts) basis))
columns_count lts basis class = go (has_start class)
  where
    same : length (map pos (free_columns lts basis)) ≡ length (chosen (λ t. has_label t lts.arcs) (free_labels (labels lts) basis))
    same = length-map (free_columns lts basis) pos ∙ ap length (where_chosen (λ t. is_in basis.members t) (λ t. has_label t lts.arcs) 0 (labels lts))

    go : (b : Bool) → length ((if b then (pos 0 ∷ []) else []) ++ map pos (free_columns lts basis))
        ≡ (if b then 1 else 0) + length (chosen (λ t. has_label t lts.arcs) (free_labels (labels lts) basis))
    go true = let e = same in omega arith
    go false = let e = same in omega arith

pub columns_length : (lts : System) (basis : CycleBasis) (class : Class) (start : ℤ) (counts : ℕ → ℤ) (free : List Ratio)
    → substitute_fold (labels lts) basis counts (Ok free) → length (columns_of lts basis class start free) ≡ column_count lts basis class
columns_length lts basis class start counts free h = go (has_start class) ∙ sym (columns_count lts basis class)
  where
    same : length (pick (λ t. has_label t lts.arcs) (free_labels (labels lts) basis) free) ≡ length (chosen (λ t. has_label t lts.arcs) (free_labels (labels lts) basis))
    same = pick_length (λ t. has_label t lts.arcs) (free_labels (labels lts) basis) free (each_length (coefficient_fold (labels lts) basis counts) (free_labels (labels lts) basis) free h)

    go : (b : Bool) → length ((if b then (whole start ∷ []) else []) ++ pick (λ t. has_label t lts.arcs) (free_labels (labels lts) basis) free)
        ≡ (if b then 1 else 0) + length (chosen (λ t. has_label t lts.arcs) (free_labels (labels lts) basis))
    go true = let e = same in omega arith
    go false = let e = same in omega arith

-- one free label more is looked at
module _ (test : ℕ → Bool) (fs : List ℕ) (i count total : ℕ) (so_far : count + length (chosen test (drop i fs)) ≡ total) where
  pub count_taken : i < length fs → test (slice_index fs i) ≡ true → (count + 1) + length (chosen test (drop (i + 1) fs)) ≡ total
  count_taken lt e = let h = ap (λ l. length (chosen test l)) (drop-cons fs i 0 lt ∙ ap (λ n. slice_index fs i ∷ drop n fs) (sym (add-one i)))
      ∙ ap (λ b. length (if b then (slice_index fs i ∷ chosen test (drop (i + 1) fs)) else chosen test (drop (i + 1) fs))) e in omega arith

  pub count_left : i < length fs → test (slice_index fs i) ≡ false → count + length (chosen test (drop (i + 1) fs)) ≡ total
  count_left lt e = let h = ap (λ l. length (chosen test l)) (drop-cons fs i 0 lt ∙ ap (λ n. slice_index fs i ∷ drop n fs) (sym (add-one i)))
      ∙ ap (λ b. length (if b then (slice_index fs i ∷ chosen test (drop (i + 1) fs)) else chosen test (drop (i + 1) fs))) e in omega arith

-- ---- the columns of the code

-- at most so many numbers pass a test
pub where_few : (test : ℕ → Bool) (a n : ℕ) → length (numbers_where test a n) ≤ n
where_few test a zero = omega arith
where_few test a (suc n) = go (test a) (where_few test (suc a) n)
  where
    go : (b : Bool) → length (numbers_where test (suc a) n) ≤ n → length (if b then (a ∷ numbers_where test (suc a) n) else numbers_where test (suc a) n) ≤ suc n
    go true h = omega arith
    go false h = omega arith

module _ (lts : System) (class : Class) (columns : Columns) (are : AreColumns lts class columns) where
  -- what the code reads of a label
  pub used_is : (t : ℕ) (b : Bool) → t < labels lts → b ≡ slice_index_or columns.used.items t b → has_label t lts.arcs ≡ b
  used_is t b lt is = sym (are.used.each t lt) ∙ get_or_default columns.used.items t false b (subst (λ n. t < n) (sym are.used.one_each) lt) ∙ sym is

  module _ (basis : CycleBasis) (n : ℕ) (same : labels lts ≡ n) where
    pub count_starts : (count : ℕ) → count ≡ from_bool columns.start → count + length (chosen (λ t. has_label t lts.arcs) (free_labels n basis)) ≡ column_count lts basis class
    count_starts count e = ap (λ k. count + length (chosen (λ t. has_label t lts.arcs) (free_labels k basis))) (sym same)
        ∙ ap (λ k. k + length (chosen (λ t. has_label t lts.arcs) (free_labels (labels lts) basis))) (e ∙ number columns.start ∙ ap (λ b. if b then 1 else 0) are.start)
        ∙ sym (columns_count lts basis class)
      where
        number : (b : Bool) → from_bool b ≡ (if b then 1 else 0)
        number true = refl
        number false = refl

    pub pick_starts : (numbers : List Ratio) (start : ℤ) (free : List Ratio) → numbers ≡ (if columns.start then (whole start ∷ []) else [])
        → numbers ++ pick (λ t. has_label t lts.arcs) (free_labels n basis) free ≡ columns_of lts basis class start free
    pick_starts numbers start free e = ap (λ k. numbers ++ pick (λ t. has_label t lts.arcs) (free_labels k basis) free) (sym same)
        ∙ ap (λ l. l ++ pick (λ t. has_label t lts.arcs) (free_labels (labels lts) basis) free) (e ∙ ap (λ b. if b then (whole start ∷ []) else []) are.start)

pub columns_few : (lts : System) (basis : CycleBasis) (class : Class) → column_count lts basis class ≤ labels lts + 1
columns_few lts basis class = go (has_start class)
  where
    few : length (map pos (free_columns lts basis)) ≤ labels lts
    few = let h = where_few (λ t. is_in basis.members t && has_label t lts.arcs) 0 (labels lts) in let e = length-map (free_columns lts basis) pos in omega arith

    go : (b : Bool) → length ((if b then (pos 0 ∷ []) else []) ++ map pos (free_columns lts basis)) ≤ labels lts + 1
    go true = let h = few in omega arith
    go false = let h = few in omega arith

-- ---- what holds of all numbers

pick_all : (P : Ratio → Type 0) (test : ℕ → Bool) (fs : List ℕ) (rs : List Ratio) → All P rs → All P (pick test fs rs)
pick_all P test [] rs h = All-nil P
pick_all P test (f ∷ fs) [] h = All-nil P
pick_all P test (f ∷ fs) (r ∷ rs) h = go (test f) (pick_all P test fs rs (λ k d lt. h (suc k) d (omega arith)))
  where
    go : (b : Bool) → All P (pick test fs rs) → All P (if b then (r ∷ pick test fs rs) else pick test fs rs)
    go true rest = All-cons P r (pick test fs rs) (h 0 r (omega arith)) rest
    go false rest = rest

columns_all : (P : Ratio → Type 0) (lts : System) (basis : CycleBasis) (class : Class) (start : ℤ) (free : List Ratio) → P (whole start) → All P free → All P (columns_of lts basis class start free)
columns_all P lts basis class start free first all =
    All-append P (if has_start class then (whole start ∷ []) else []) (pick (λ t. has_label t lts.arcs) (free_labels (labels lts) basis) free) (go (has_start class))
    (pick_all P (λ t. has_label t lts.arcs) (free_labels (labels lts) basis) free all)
  where
    go : (b : Bool) → All P (if b then (whole start ∷ []) else [])
    go true = All-cons P (whole start) [] first (All-nil P)
    go false = All-nil P

-- the numbers of the columns are in range where those of the free labels are
pub columns_in_range : (lts : System) (basis : CycleBasis) (class : Class) (start : ℤ) (free numbers : List ℤ) → InRange start → All InRange free
    → map whole numbers ≡ columns_of lts basis class start (map whole free) → All InRange numbers
columns_in_range lts basis class start free numbers first all is = λ k d lt.
    (subst (λ (r : Ratio). InRange r.top) (get_or-map whole numbers k d (whole d) lt)
    (subst (All (λ (r : Ratio). InRange r.top)) (sym is)
    (columns_all (λ r. InRange r.top) lts basis class start (map whole free) first (All-map (λ (r : Ratio). InRange r.top) whole free all))
    k (whole d) (subst (λ n. k < n) (sym (length-map numbers whole)) lt)))
