-- What a basis of vectors says of the values of the columns.
use Rattle.std.proofs.lemmas.Bool.{false≢true, cases_lt}
use Rattle.std.proofs.lemmas.List.Elements.{Contains-get_or}
use Rattle.std.proofs.Common.{◌≡◌, ◌⊎◌, ⊎_elim, ◌↔◌, ℕ, ◌+◌, ◌-◌, ◌<◌, ◌≤◌, Bool, true, false, not, ◌&&◌, nat_lt, List, [], filter, length, Contains, inl, inr, ap, ap₂, refl, subst, sym, ◌∙◌, arith, Result, Err}
use Rattle.std.specs.Prelude.{ℤ, pos, ◌+ℤ◌, ◌*ℤ◌, ◌<ℤ◌, slice_index}
use Rattle.std.specs.Ordering.{int_eq}
use Rattle.std.proofs.Math.IntN.{zero-*ℤ}
use Rattle.std.proofs.lemmas.Int.{ints}
use Rattle.std.proofs.lemmas.Bool.Decides.{Decides-int_eq}
use Rattle.std.proofs.lemmas.List.{get_or-map, get_or_past, get_or_default}
use Rattle.rg_integers.specs.Sum.{sum_below, sum_over, number_at}
use Rattle.rg_integers.proofs.Sums.{sum_below-same, sum_below-zero, sum_below-split}
use Rattle.rg_integers.proofs.ListSums.{sum_over-map, sum_over-zero}
use Rattle.rg_linear.specs.System.{LinearRow, entry}
use Rattle.rg_linear.specs.Dictionary.{Relation, DictionaryRow, numbers_from}
use Rattle.rg_linear.specs.Descent.{WideAt}
use Rattle.rg_linear.specs.Cycle.{CycleOutcome.free_set, CycleOutcome.too_wide, CycleWalk, RowsAreZero, FollowsRelations, vector_at, IsZeroVector, KeepsVectors, vector_system, CycleBasis, IsCycleBasis}
use Rattle.rg_linear.proofs.Members.{length-numbers_from, Contains-numbers_from, IsInOrder, order_from_increasing}
use Rattle.rg_linear.proofs.Columns.{values_of, values_of-column, values_of-point, below_test, past_test}
use Rattle.rg_linear.proofs.Unique.{same_relation}
use Rattle.rg_linear.proofs.Cycles.{cycle_is_exact, same_cycle, no_constant}
use Rattle.rg_linear.proofs.Firsts.{item_stays, same_kept, kept_count}
use Rattle.rg_folds.specs.Substitution.{is_in, numbers_where}
use Rattle.rg_folds.proofs.Sums.{both_sums}
use Rattle.rg_cycles.specs.Vectors.{vector_sum, AllSumsAreZero}
use Rattle.rg_cycles.specs.Basis.{vector_numbers}
use Rattle.rg_cycles.specs.Solutions.{IsDependent, FollowsFree, RelationsHold, AreReduced}
use Rattle.rg_cycles.specs.Refusal.{PassesAt}
use Rattle.rg_cycles.proofs.Labels.{in_set, has_member, lacks_member, filter_has, filter_from, filter_order, where_has, where_from, where_order}
use Rattle.rg_linear.proofs.Counting.{same_members as same_list}
use Rattle.rg_cycles.proofs.Showing.{vectors_plain, count_rows, kept_below}
use Rattle.rg_cycles.proofs.Filling.{row}

one : pos 0 <ℤ pos 1
one = omega (arith, ints)

-- ---- the rows at a point

zero_sum : (n : ℕ) (v : ℕ → ℤ) (xs : List ℤ) → IsZeroVector xs → vector_sum n v xs ≡ pos 0
zero_sum n v xs all = sum_below-zero n (λ j. number_at xs j *ℤ v j) (λ j lt. ap (λ z. z *ℤ v j) (zero_at j) ∙ zero-*ℤ (v j))
  where
    zero_at : (j : ℕ) → number_at xs j ≡ pos 0
    zero_at j = ⊎_elim (λ lt. all j (pos 0) lt) (λ past. get_or_past xs j (pos 0) past) (cases_lt j (length xs))

module _ (labels : ℕ) (vectors : List (List ℤ)) (kept : List ℕ) (v : ℕ → ℤ) where
  -- the point at which the columns have the values v
  point : ℕ → ℤ
  point = values_of (vector_system labels vectors kept) (pos 1) v

  -- row i has the value of its vector
  row_of_point : (i : ℕ) → i < length kept → values_of (vector_system labels vectors kept) (pos 1) v (labels + i) ≡ vector_sum labels v (vector_at vectors (slice_index kept i))
  row_of_point i lt =
      (values_of-point (vector_system labels vectors kept) (pos 1) v one).rows i (let c = count_rows labels vectors kept in omega arith)
      ∙ ap₂ ◌+ℤ◌ (sum_below-same labels (λ j. entry (vector_system labels vectors kept) i j *ℤ values_of (vector_system labels vectors kept) (pos 1) v j)
      (λ j. entry (vector_system labels vectors kept) i j *ℤ v j)
      (λ j below. ap (λ z. entry (vector_system labels vectors kept) i j *ℤ z) (values_of-column (vector_system labels vectors kept) (pos 1) v j below)))
      (ap (λ z. z *ℤ pos 1) (vectors_plain labels vectors kept i (let c = count_rows labels vectors kept in omega arith)))
      ∙ drop (sum_below labels (λ j. entry (vector_system labels vectors kept) i j *ℤ v j))
      ∙ ap (λ (r : LinearRow). vector_sum labels v r.coeffs) (get_or-map (λ c. row (vector_at vectors c)) kept i 0 (row []) lt)
    where
      drop : (z : ℤ) → z +ℤ (pos 0 *ℤ pos 1) ≡ z
      drop z = omega (arith, ints)

  -- all vectors have the value 0 exactly where all rows do
  sums_to_rows : KeepsVectors vectors kept → AllSumsAreZero labels vectors v → RowsAreZero (vector_system labels vectors kept) (values_of (vector_system labels vectors kept) (pos 1) v)
  sums_to_rows keeps sums i lt = row_of_point i below ∙ sums (slice_index kept i) (kept_below vectors kept keeps (slice_index kept i) (Contains-get_or kept i 0 below))
    where
      below : i < length kept
      below = let c = count_rows labels vectors kept in omega arith

  rows_to_sums : KeepsVectors vectors kept → RowsAreZero (vector_system labels vectors kept) (values_of (vector_system labels vectors kept) (pos 1) v) → AllSumsAreZero labels vectors v
  rows_to_sums keeps zeros c lt = stays (item_stays (vector_at vectors) (λ i. IsZeroVector (vector_at vectors i)) []
      (numbers_from 0 (length vectors)) kept c keeps (Contains-numbers_from 0 (length vectors) c (omega arith) (omega arith)))
    where
      kept_zero : (q : ℕ) → Contains kept q → vector_sum labels v (vector_at vectors q) ≡ pos 0
      kept_zero q (i, below, e) = ap (λ k. vector_sum labels v (vector_at vectors k)) (sym e ∙ get_or_default kept i q 0 below)
          ∙ sym (row_of_point i below) ∙ zeros i (let n = count_rows labels vectors kept in omega arith)

      stays : IsZeroVector (vector_at vectors c)
          ⊎ (Contains [] (vector_at vectors c) ⊎ ((q : ℕ) × Contains kept q × (vector_at vectors q ≡ vector_at vectors c)))
          → vector_sum labels v (vector_at vectors c) ≡ pos 0
      stays (inl zeros) = zero_sum labels v (vector_at vectors c) zeros
      stays (inr (inl (k, below, e))) = absurd (omega arith)
      stays (inr (inr (q, has, e))) = ap (vector_sum labels v) (sym e) ∙ kept_zero q has

-- ---- sums over free labels and over vectors

none_plus : (j : ℕ) → 0 + j ≡ j
none_plus j = omega arith

-- a relation over the members, as a sum over free labels
module _ (labels : ℕ) (members : List ℕ) (k : Relation) (over : (m : ℕ) → ¬ Contains members m → k.coefficient m ≡ pos 0) (v : ℕ → ℤ) where
  zero_times : (c z : ℤ) → c ≡ pos 0 → c *ℤ z ≡ pos 0
  zero_times c z e = ap (λ x. x *ℤ z) e ∙ zero-*ℤ z

  free_sum : sum_over (λ f. k.coefficient f *ℤ v f) (numbers_where (λ t. is_in members t) 0 labels) ≡ sum_below labels (λ j. k.coefficient j *ℤ v j)
  free_sum = close _ _ _ all others
    where
      all : sum_over (λ f. k.coefficient f *ℤ v f) (numbers_where (λ t. is_in members t) 0 labels)
          +ℤ sum_over (λ f. k.coefficient f *ℤ v f) (numbers_where (λ t. not (is_in members t)) 0 labels) ≡ sum_below labels (λ j. k.coefficient j *ℤ v j)
      all = both_sums (λ t. is_in members t) (λ f. k.coefficient f *ℤ v f) 0 labels
          ∙ sum_below-same labels (λ j. k.coefficient (0 + j) *ℤ v (0 + j)) (λ j. k.coefficient j *ℤ v j) (λ j lt. ap (λ m. k.coefficient m *ℤ v m) (none_plus j))

      is_false : (b : Bool) → not b ≡ true → b ≡ false
      is_false true p = cc
      is_false false p = refl

      others : sum_over (λ f. k.coefficient f *ℤ v f) (numbers_where (λ t. not (is_in members t)) 0 labels) ≡ pos 0
      others = sum_over-zero (λ f. k.coefficient f *ℤ v f) (numbers_where (λ t. not (is_in members t)) 0 labels)
          (λ f has. zero_times (k.coefficient f) (v f)
          (over f (lacks_member members f (is_false (is_in members f) (where_from (λ t. not (is_in members t)) 0 labels f has).passes))))

      close : (x y s : ℤ) → x +ℤ y ≡ s → y ≡ pos 0 → x ≡ s
      close x y s e z = omega (arith, ints)

  -- the rows that count, as a list of the members and as a list of numbers
  counts : ℕ → Bool
  counts m = not (nat_lt m labels) && not (int_eq (k.coefficient m) (pos 0))

  vector_sums : (kept : List ℕ) (value : ℕ → ℤ) → IsInOrder members → ((m : ℕ) → Contains members m → m < labels + length kept)
      → sum_over (λ p. p.1 *ℤ value p.0) (vector_numbers labels kept members k) ≡ sum_below (length kept) (λ i. k.coefficient (labels + i) *ℤ value (slice_index kept i))
  vector_sums kept value order within =
      sum_over-map {X = ℕ} {Y = ℕ × ℤ} (λ p. p.1 *ℤ value p.0) (λ m. (slice_index kept (m - labels), k.coefficient m))
      (filter (λ m. not (nat_lt m labels) && not (int_eq (k.coefficient m) (pos 0))) members)
      ∙ ap (sum_over (λ m. k.coefficient m *ℤ value (slice_index kept (m - labels)))) same
      ∙ close _ _ _ all others
    where
      test : ℕ → Bool
      test m = is_in members m && not (int_eq (k.coefficient m) (pos 0))

      both_true : (a b : Bool) → (a && b) ≡ true → (a ≡ true) × (b ≡ true)
      both_true true b e = (refl, e)
      both_true false b e = cc

      join_true : (a b : Bool) → a ≡ true → b ≡ true → (a && b) ≡ true
      join_true true b p q = q
      join_true false b p q = p

      not_label : (m : ℕ) → not (nat_lt m labels) ≡ true → labels ≤ m
      not_label m e = ⊎_elim (λ lt. absurd (false≢true (rw (below_test m labels lt) at e))) (λ le. le) (cases_lt m labels)

      same : filter (λ m. not (nat_lt m labels) && not (int_eq (k.coefficient m) (pos 0))) members ≡ numbers_where (λ m. is_in members m && not (int_eq (k.coefficient m) (pos 0))) labels (length kept)
      same = same_list _ _ (filter_order (λ m. not (nat_lt m labels) && not (int_eq (k.coefficient m) (pos 0))) members order)
          (where_order (λ m. is_in members m && not (int_eq (k.coefficient m) (pos 0))) labels (length kept)) to back
        where
          to : (m : ℕ) → Contains (filter (λ u. not (nat_lt u labels) && not (int_eq (k.coefficient u) (pos 0))) members) m
              → Contains (numbers_where (λ u. is_in members u && not (int_eq (k.coefficient u) (pos 0))) labels (length kept)) m
          to m has =
              let f = filter_from (λ u. not (nat_lt u labels) && not (int_eq (k.coefficient u) (pos 0))) members m has in
              let b = both_true (not (nat_lt m labels)) (not (int_eq (k.coefficient m) (pos 0))) f.1 in
              where_has (λ u. is_in members u && not (int_eq (k.coefficient u) (pos 0))) labels (length kept) m (not_label m b.0) (within m f.0)
              (join_true (is_in members m) (not (int_eq (k.coefficient m) (pos 0))) (in_set members m f.0) b.1)

          back : (m : ℕ) → Contains (numbers_where (λ u. is_in members u && not (int_eq (k.coefficient u) (pos 0))) labels (length kept)) m
              → Contains (filter (λ u. not (nat_lt u labels) && not (int_eq (k.coefficient u) (pos 0))) members) m
          back m has =
              let w = where_from (λ u. is_in members u && not (int_eq (k.coefficient u) (pos 0))) labels (length kept) m has in
              let b = both_true (is_in members m) (not (int_eq (k.coefficient m) (pos 0))) w.passes in
              filter_has (λ u. not (nat_lt u labels) && not (int_eq (k.coefficient u) (pos 0))) members m (has_member members m b.0)
              (join_true (not (nat_lt m labels)) (not (int_eq (k.coefficient m) (pos 0))) (ap not (past_test m labels w.least)) b.1)

      all : sum_over (λ m. k.coefficient m *ℤ value (slice_index kept (m - labels)))
          (numbers_where (λ m. is_in members m && not (int_eq (k.coefficient m) (pos 0))) labels (length kept)) +ℤ sum_over
          (λ m. k.coefficient m *ℤ value (slice_index kept (m - labels)))
          (numbers_where (λ m. not (is_in members m && not (int_eq (k.coefficient m) (pos 0)))) labels (length kept)) ≡ sum_below (length kept)
          (λ i. k.coefficient (labels + i) *ℤ value (slice_index kept i))
      all = both_sums (λ m. is_in members m && not (int_eq (k.coefficient m) (pos 0))) (λ m. k.coefficient m *ℤ value (slice_index kept (m - labels))) labels
          (length kept) ∙ sum_below-same (length kept) (λ i. k.coefficient (labels + i) *ℤ value (slice_index kept (labels + i - labels)))
          (λ i. k.coefficient (labels + i) *ℤ value (slice_index kept i)) (λ i lt. ap (λ n. k.coefficient (labels + i) *ℤ value (slice_index kept n)) (off i))
        where
          off : (i : ℕ) → labels + i - labels ≡ i
          off i = omega arith

      uncounted : (m : ℕ) → not (is_in members m && not (int_eq (k.coefficient m) (pos 0))) ≡ true → k.coefficient m ≡ pos 0
      uncounted m e = go (is_in members m) refl (int_eq (k.coefficient m) (pos 0)) refl e
        where
          go : (a : Bool) → is_in members m ≡ a → (b : Bool) → int_eq (k.coefficient m) (pos 0) ≡ b → not (a && not b) ≡ true → k.coefficient m ≡ pos 0
          go false p b q r = over m (lacks_member members m p)
          go true p true q r = (Decides-int_eq (k.coefficient m) (pos 0)).0 q
          go true p false q r = absurd (false≢true r)

      others : sum_over (λ m. k.coefficient m *ℤ value (slice_index kept (m - labels)))
          (numbers_where (λ m. not (is_in members m && not (int_eq (k.coefficient m) (pos 0)))) labels (length kept)) ≡ pos 0
      others = sum_over-zero (λ m. k.coefficient m *ℤ value (slice_index kept (m - labels)))
          (numbers_where (λ m. not (is_in members m && not (int_eq (k.coefficient m) (pos 0)))) labels (length kept))
          (λ m has. zero_times (k.coefficient m) (value (slice_index kept (m - labels)))
          (uncounted m (where_from (λ u. not (is_in members u && not (int_eq (k.coefficient u) (pos 0)))) labels (length kept) m has).passes))

      close : (x y s : ℤ) → x +ℤ y ≡ s → y ≡ pos 0 → x ≡ s
      close x y s e z = omega (arith, ints)

-- ---- the clauses

module _ (labels : ℕ) (vectors : List (List ℤ)) (cycle : CycleBasis) (basis : IsCycleBasis labels vectors cycle) where
  row_for : (t : ℕ) → IsDependent labels cycle t → DictionaryRow (vector_system labels vectors cycle.kept) cycle.members t (cycle.relation t)
  row_for t dependent = basis.relations t dependent.0 dependent.1

  pub basis_is_reduced : AreReduced labels cycle
  basis_is_reduced t dependent = ((row_for t dependent).positive, (row_for t dependent).primitive)

  pub basis_holds : RelationsHold labels cycle vectors
  basis_holds v t dependent =
      ap (λ z. (cycle.relation t).d *ℤ z) (sym (values_of-column (vector_system labels vectors cycle.kept) (pos 1) v t dependent.0))
      ∙ (row_for t dependent).holds (pos 1) (values_of (vector_system labels vectors cycle.kept) (pos 1) v) (values_of-point (vector_system labels vectors cycle.kept) (pos 1) v one)
      ∙ drop _ _ (no_constant (vector_system labels vectors cycle.kept) cycle.members t (cycle.relation t) (vectors_plain labels vectors cycle.kept) (row_for t dependent))
      ∙ ap (λ n. sum_below (labels + n) (λ m. (cycle.relation t).coefficient m *ℤ values_of (vector_system labels vectors cycle.kept) (pos 1) v m)) (count_rows labels vectors cycle.kept)
      ∙ sum_below-split labels (length cycle.kept) (λ m. (cycle.relation t).coefficient m *ℤ values_of (vector_system labels vectors cycle.kept) (pos 1) v m)
      ∙ ap₂ ◌+ℤ◌
      (sum_below-same labels _ _ (λ j lt. ap (λ z. (cycle.relation t).coefficient j *ℤ z)
      (values_of-column (vector_system labels vectors cycle.kept) (pos 1) v j lt))
      ∙ sym (free_sum labels cycle.members (cycle.relation t) (row_for t dependent).over v))
      (sum_below-same (length cycle.kept) _ _ (λ i lt. ap (λ z. (cycle.relation t).coefficient (labels + i) *ℤ z) (row_of_point labels vectors cycle.kept v i lt))
      ∙ sym (vector_sums labels cycle.members (cycle.relation t) (row_for t dependent).over v cycle.kept (λ c. vector_sum labels v (vector_at vectors c))
      (order_from_increasing cycle.members (row_for t dependent).free.ordered) within))
    where
      drop : (c s : ℤ) → c ≡ pos 0 → (c *ℤ pos 1) +ℤ s ≡ s
      drop c s e = ap (λ z. (z *ℤ pos 1) +ℤ s) e ∙ zero s
        where
          zero : (s : ℤ) → (pos 0 *ℤ pos 1) +ℤ s ≡ s
          zero s = omega (arith, ints)

      within : (m : ℕ) → Contains cycle.members m → m < labels + length cycle.kept
      within m has = let h = (row_for t dependent).free.within m has in let c = count_rows labels vectors cycle.kept in omega arith

  -- to follow the relations of the system is to follow the free labels
  follows_free : (v : ℕ → ℤ) → FollowsRelations (vector_system labels vectors cycle.kept) cycle.members v → FollowsFree labels cycle v
  follows_free v follows t dependent = follows t (cycle.relation t) dependent.0 (row_for t dependent) ∙ sym (free_sum labels cycle.members (cycle.relation t) (row_for t dependent).over v)

  free_follows : (v : ℕ → ℤ) → FollowsFree labels cycle v → FollowsRelations (vector_system labels vectors cycle.kept) cycle.members v
  free_follows v follows t k lt k_row = subst (λ (l : Relation). l.d *ℤ v t ≡ sum_below labels (λ j. l.coefficient j *ℤ v j))
      (same_relation (vector_system labels vectors cycle.kept) cycle.members t (cycle.relation t) k (row_for t (lt, k_row.outside)) k_row)
      (follows t (lt, k_row.outside) ∙ free_sum labels cycle.members (cycle.relation t) (row_for t (lt, k_row.outside)).over v)

  follows_same : (v u : ℕ → ℤ) → ((j : ℕ) → j < labels → v j ≡ u j) → FollowsRelations (vector_system labels vectors cycle.kept) cycle.members v
      → FollowsRelations (vector_system labels vectors cycle.kept) cycle.members u
  follows_same v u agree follows t k lt k_row =
      ap (λ z. k.d *ℤ z) (sym (agree t lt)) ∙ follows t k lt k_row
      ∙ sum_below-same labels (λ j. k.coefficient j *ℤ v j) (λ j. k.coefficient j *ℤ u j) (λ j below. ap (λ z. k.coefficient j *ℤ z) (agree j below))

  pub basis_solves : (v : ℕ → ℤ) → AllSumsAreZero labels vectors v ↔ FollowsFree labels cycle v
  basis_solves v =
      let exact = cycle_is_exact (vector_system labels vectors cycle.kept) cycle.members (vectors_plain labels vectors cycle.kept) basis.cycle
      (pos 1) (values_of (vector_system labels vectors cycle.kept) (pos 1) v) (values_of-point (vector_system labels vectors cycle.kept) (pos 1) v one) in (
        (λ sums. follows_free v (follows_same (values_of (vector_system labels vectors cycle.kept) (pos 1) v) v
            (λ j lt. values_of-column (vector_system labels vectors cycle.kept) (pos 1) v j lt) (exact.0 (sums_to_rows labels vectors cycle.kept v basis.kept sums)))),
        (λ follows. rows_to_sums labels vectors cycle.kept v basis.kept
            (exact.1 (follows_same v (values_of (vector_system labels vectors cycle.kept) (pos 1) v)
            (λ j lt. sym (values_of-column (vector_system labels vectors cycle.kept) (pos 1) v j lt)) (free_follows v follows)))),
      )

  -- no term of the walk passes
  pub basis_fits : (at : WideAt) → ¬ PassesAt labels vectors at
  basis_fits at passes = differ (same_cycle (vector_system labels vectors cycle.kept) (numbers_from 0 labels) 0 (free_set cycle.members) (too_wide at) basis.cycle
      (subst (λ k. CycleWalk (vector_system labels vectors k) (too_wide at))
      (same_kept (vector_at vectors) (λ i. IsZeroVector (vector_at vectors i)) [] (numbers_from 0 (length vectors)) passes.kept cycle.kept passes.keeps basis.kept)
      passes.walk))
    where
      differ : free_set cycle.members ≡ too_wide at → ⊥
      differ e = cc

-- ---- how many are kept

pub kept_few : (vectors : List (List ℤ)) (kept : List ℕ) → KeepsVectors vectors kept → length kept ≤ length vectors
kept_few vectors kept k = let h = kept_count (vector_at vectors) (λ i. IsZeroVector (vector_at vectors i)) []
    (numbers_from 0 (length vectors)) kept k in let e = length-numbers_from 0 (length vectors) in omega arith

-- an error that is handed on is the same error
pub error_is : {T U E : Type 0} (r : Result T E) (s : Result U E) (e f : E) → r ≡ Err e → s ≡ Err e → s ≡ Err f → r ≡ Err f
error_is r s e f was same is = was ∙ ap Err inner
  where
    inner : e ≡ f
    inner = cc
