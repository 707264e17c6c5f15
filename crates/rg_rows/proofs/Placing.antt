-- Which kept row each row is, row by row.
use Rattle.std.proofs.Common.{◌≡◌, ⊎_elim, ℕ, zero, suc, ◌+◌, ◌<◌, ◌≤◌, Bool, true, false, not, if◌then◌else◌, Option, Some, None, option_map, Bor, List, [], ◌∷◌, ◌++◌, map, length, ap, refl, subst, sym, ◌∙◌, arith, inl, inr, ◌⊎◌}
use Rattle.std.specs.Prelude.{ℤ, slice_get, slice_index_or}
use Rattle.std.specs.Ordering.{int_eq}
use Rattle.std.specs.Cmp.Lexicographic.{pointwise}
use Rattle.std.proofs.lemmas.Bool.Decides.{Decides-int_eq}
use Rattle.std.proofs.lemmas.Slice.Eq.{slice_eq-Decides}
use Rattle.std.proofs.lemmas.Bool.{cases_lt}
use Rattle.std.proofs.lemmas.Option.{slice_get-map, slice_get_within, get_or_from_slice_get}
use Rattle.std.proofs.lemmas.List.{length-append, length-map, map-append}
use Rattle.rg_theory.proofs.Lists.{slice_get_some}
use Rattle.rg_rows.specs.declared.case_row.CaseRow.{CaseRow}
use Rattle.std.proofs.Math.Seq.{get_or-append_seam}
use Rattle.rg_linear.specs.System.{LinearRow}
use Rattle.rg_linear.proofs.Splits.{index-front}
use Rattle.rg_case_folds.specs.Rewriting.{KeptRow, IsIdle}
use Rattle.rg_rows.proofs.Slices.{has_numbers}
use Rattle.rg_rows.specs.View.{numbers_of, kept_row, AreIndices}
use Rattle.rg_rows.proofs.Keeping.{same_row}

-- the kept rows have the numbers of the keys, in order, and the rows before i have their indices
pub record IndicesSoFar (all : List KeptRow) (i : ℕ) (kept : List KeptRow) (keys : List (Bor (List ℤ))) (indices : List ℕ) : Type 0 where
  pub few : length kept ≤ i
  pub keys_are : map (λ (q : Bor (List ℤ)). q.now) keys ≡ map (λ (k : KeptRow). numbers_of k.row) kept
  pub one_each : length indices ≡ i
  pub each : (j : ℕ) (r : KeptRow) → j < i → slice_get all j ≡ Some r → ¬ IsIdle r → slice_get (map (λ (k : KeptRow). k.row) kept) (slice_index_or indices j 0) ≡ Some r.row

pub indices-start : (all : List KeptRow) (keys : List (Bor (List ℤ))) (indices : List ℕ) → keys ≡ [] → indices ≡ [] → IndicesSoFar all 0 [] keys indices
indices-start all keys indices none empty = record {
  few = omega arith;
  keys_are = ap (map (λ (q : Bor (List ℤ)). q.now)) none;
  one_each = ap length empty;
  each = λ j r lt at busy. absurd (omega arith);
}

pub indices-end : (all : List KeptRow) (i : ℕ) (kept : List KeptRow) (keys : List (Bor (List ℤ))) (indices : List ℕ)
    → IndicesSoFar all i kept keys indices → i ≡ length all → AreIndices all kept indices
indices-end all i kept keys indices so_far end = record {
  one_each = so_far.one_each ∙ end;
  each = λ j r at busy. so_far.each j r (subst (λ n. j < n) (sym end) (within all j r at)) at busy;
}
  where
    within : (xs : List KeptRow) (j : ℕ) (r : KeptRow) → slice_get xs j ≡ Some r → j < length xs
    within [] j r e = cc
    within (x ∷ xs) zero r e = omega arith
    within (x ∷ xs) (suc j) r e = let lt = within xs j r e in omega arith

get_front : (xs ys : List LinearRow) (p : ℕ) (r : LinearRow) → slice_get xs p ≡ Some r → slice_get (xs ++ ys) p ≡ Some r
get_front [] ys p r e = cc
get_front (x ∷ xs) ys zero r e = e
get_front (x ∷ xs) ys (suc p) r e = get_front xs ys p r e

-- the row with the numbers of the key at an index
row_at_key : (kept : List KeptRow) (keys : List (Bor (List ℤ))) (index : ℕ) (k v : Bor (List ℤ)) (x : KeptRow)
    → map (λ (q : Bor (List ℤ)). q.now) keys ≡ map (λ (r : KeptRow). numbers_of r.row) kept → slice_get keys index ≡ Some k → pointwise int_eq v.now k.now ≡ true
    → v.now ≡ numbers_of x.row → slice_get (map (λ (r : KeptRow). r.row) kept) index ≡ Some x.row
row_at_key kept keys index k v x same at equal is =
    let numbers : v.now ≡ k.now = (slice_eq-Decides Decides-int_eq v.now k.now true (sym equal)).0 refl in
    let there = sym (slice_get-map (λ (r : KeptRow). numbers_of r.row) kept index) ∙ ap (λ l. slice_get l index) (sym same)
    ∙ slice_get-map (λ (q : Bor (List ℤ)). q.now) keys index ∙ ap (option_map (λ (q : Bor (List ℤ)). q.now)) at in
    slice_get-map (λ (r : KeptRow). r.row) kept index ∙ go (slice_get kept index) (there ∙ ap (λ l. Some l) (sym numbers ∙ is))
  where
    go : (o : Option KeptRow) → option_map (λ (r : KeptRow). numbers_of r.row) o ≡ Some (numbers_of x.row) → option_map (λ (r : KeptRow). r.row) o ≡ Some x.row
    go None e = cc
    go (Some y) e = ap (λ r. Some r) (same_row y.row x.row (only e))
      where
        only : Some (numbers_of y.row) ≡ Some (numbers_of x.row) → numbers_of y.row ≡ numbers_of x.row
        only e = cc

module _ (all : List KeptRow) (i : ℕ) (kept : List KeptRow) (keys : List (Bor (List ℤ))) (indices : List ℕ)
    (so_far : IndicesSoFar all i kept keys indices) (x : KeptRow) (at : slice_get all i ≡ Some x) where
  -- an index more, of row i
  more : (kept' : List KeptRow) (keys' : List (Bor (List ℤ))) (index : ℕ) → length kept' ≤ i + 1
      → map (λ (q : Bor (List ℤ)). q.now) keys' ≡ map (λ (k : KeptRow). numbers_of k.row) kept'
      → ((p : ℕ) (r : LinearRow) → slice_get (map (λ (k : KeptRow). k.row) kept) p ≡ Some r → slice_get (map (λ (k : KeptRow). k.row) kept') p ≡ Some r)
      → (¬ IsIdle x → slice_get (map (λ (k : KeptRow). k.row) kept') index ≡ Some x.row) → IndicesSoFar all (i + 1) kept' keys' (indices ++ index ∷ [])
  more kept' keys' index few same stay here = record {
    few = few;
    keys_are = same;
    one_each = length-append indices (index ∷ []) ∙ ap (λ n. n + 1) so_far.one_each;
    each = λ j r lt at' busy. each j r lt at' busy;
  }
    where
      below : (j : ℕ) → j < i + 1 → (j < i) ⊎ (j ≡ i)
      below j lt = ⊎_elim (λ less. inl less) (λ past. inr (omega arith)) (cases_lt j i)

      each : (j : ℕ) (r : KeptRow) → j < i + 1 → slice_get all j ≡ Some r → ¬ IsIdle r → slice_get (map (λ (k : KeptRow). k.row) kept') (slice_index_or (indices ++ index ∷ []) j 0) ≡ Some r.row
      each j r lt at' busy = ⊎_elim
          (λ less. (let front = index-front indices (index ∷ []) 0 j (subst (λ n. j < n) (sym so_far.one_each) less) in
          ap (λ p. slice_get (map (λ (k : KeptRow). k.row) kept') p) front ∙ stay (slice_index_or indices j 0) r.row (so_far.each j r less at' busy)))
          (λ is. (let same_x : Some r ≡ Some x = sym at' ∙ ap (λ n. slice_get all n) is ∙ at in
          let r_is = only same_x in
          let last = ap (λ n. slice_index_or (indices ++ index ∷ []) n 0) (is ∙ sym so_far.one_each) ∙ get_or-append_seam indices index [] 0 in
          ap (λ p. slice_get (map (λ (k : KeptRow). k.row) kept') p) last ∙ here (subst (λ (y : KeptRow). ¬ IsIdle y) r_is busy) ∙ ap (λ (y : KeptRow). Some y.row) (sym r_is)))
          (below j lt)
        where
          only : Some r ≡ Some x → r ≡ x
          only e = cc

  -- it is idle
  pub indices-idle : IsIdle x → IndicesSoFar all (i + 1) kept keys (indices ++ 0 ∷ [])
  indices-idle idle = more kept keys 0 (let h = so_far.few in omega arith) so_far.keys_are (λ p r e. e) (λ busy. absurd (busy idle))

  module _ (keys' : List (Bor (List ℤ))) (v k : Bor (List ℤ)) (index : ℕ) (is : v.now ≡ numbers_of x.row) (added : Bool) (says : added ≡ not (has_numbers keys v.now))
      (inserts : keys' ≡ (if has_numbers keys v.now then keys else keys ++ v ∷ [])) (stored : slice_get keys' index ≡ Some k)
      (equal : pointwise int_eq v.now k.now ≡ true) where
    has_is : (a : Bool) (b : Bool) → a ≡ not b → a ≡ true → b ≡ false
    has_is a true p q = cc
    has_is a false p q = refl

    has_not : (a : Bool) (b : Bool) → a ≡ not b → a ≡ false → b ≡ true
    has_not a true p q = refl
    has_not a false p q = cc

    pub keys_stay : added ≡ false → keys' ≡ keys
    keys_stay was = inserts ∙ ap (λ b. if b then keys else keys ++ v ∷ []) (has_not added (has_numbers keys v.now) says was)

    pub index_fits : index < i + 1
    index_fits =
        let lt = slice_get_within keys' index k stored in
        let e = ap length inserts ∙ size (has_numbers keys v.now) in
        let n = sym (length-map keys (λ (q : Bor (List ℤ)). q.now)) ∙ ap length so_far.keys_are ∙ length-map kept (λ (y : KeptRow). numbers_of y.row) in
        let h = so_far.few in
        short (has_numbers keys v.now) (length keys) (length kept) (length keys') e n lt h
      where
        size : (b : Bool) → length (if b then keys else keys ++ v ∷ []) ≡ (if b then length keys else length keys + 1)
        size true = refl
        size false = length-append keys (v ∷ [])

        short : (b : Bool) (n m l : ℕ) → l ≡ (if b then n else n + 1) → n ≡ m → index < l → m ≤ i → index < i + 1
        short true n m l e f lt le = omega arith
        short false n m l e f lt le = omega arith

    -- it is kept
    pub indices-new : added ≡ true → IndicesSoFar all (i + 1) (kept ++ x ∷ []) keys' (indices ++ index ∷ [])
    indices-new was =
        let fresh = has_is added (has_numbers keys v.now) says was in
        let keys_are : keys' ≡ keys ++ v ∷ [] = inserts ∙ ap (λ b. if b then keys else keys ++ v ∷ []) fresh in
        let same = ap (map (λ (q : Bor (List ℤ)). q.now)) keys_are ∙ map-append (λ (q : Bor (List ℤ)). q.now) keys (v ∷ []) ∙ ap (λ l. l ++ v.now ∷ []) so_far.keys_are
        ∙ ap (λ n. map (λ (y : KeptRow). numbers_of y.row) kept ++ n ∷ []) is ∙ sym (map-append (λ (y : KeptRow). numbers_of y.row) kept (x ∷ [])) in
        more (kept ++ x ∷ []) keys' index (let h = so_far.few in let e = length-append kept (x ∷ []) in omega arith) same
        (λ p r e. ap (λ l. slice_get l p) (map-append (λ (y : KeptRow). y.row) kept (x ∷ [])) ∙ get_front (map (λ (y : KeptRow). y.row) kept) (x.row ∷ []) p r e)
        (λ busy. row_at_key (kept ++ x ∷ []) keys' index k v x same stored equal is)

    -- an equal row is kept
    pub indices-old : added ≡ false → IndicesSoFar all (i + 1) kept keys' (indices ++ index ∷ [])
    indices-old was =
        let same = ap (map (λ (q : Bor (List ℤ)). q.now)) (keys_stay was) ∙ so_far.keys_are in
        more kept keys' index (let h = so_far.few in omega arith) same (λ p r e. e) (λ busy. row_at_key kept keys' index k v x same stored equal is)

-- a row of the code
pub row_got : (all : List CaseRow) (i : ℕ) (row : CaseRow) → i < length all → row ≡ slice_index_or all i row → slice_get (map kept_row all) i ≡ Some (kept_row row)
row_got all i row lt is =
    let (x, at) = slice_get_some all i lt in
    slice_get-map kept_row all i ∙ ap (option_map kept_row) at ∙ ap (λ (y : CaseRow). Some (kept_row y)) (sym (is ∙ get_or_from_slice_get all i x row at))
