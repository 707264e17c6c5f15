-- The relations of the basis hold exactly where every arc is kept.
use Rattle.std.proofs.Common.{◌≡◌, ◌⊎◌, ⊎_elim, ◌↔◌, ℕ, zero, suc, ◌+◌, ◌<◌, List, [], map, length, slice_index_or, All, Contains, inl, inr, ap, ap₂, sym, ◌∙◌, arith, zero-add}
use Rattle.std.specs.Prelude.{ℤ, pos, ◌+ℤ◌, ◌*ℤ◌, ◌<ℤ◌}
use Rattle.std.proofs.Math.IntN.{zero-*ℤ}
use Rattle.std.proofs.lemmas.Int.{ints}
use Rattle.std.proofs.lemmas.Bool.{cases_lt}
use Rattle.std.proofs.lemmas.List.{length-map, get_or-map, get_or_past, get_or_default}
use Rattle.std.proofs.lemmas.List.Elements.{Contains-get_or}
use Rattle.rg_theory.specs.declared.Arc.{Arc}
use Rattle.rg_theory.specs.System.{System, labels, IsInRange}
use Rattle.rg_theory.specs.Tree.{IsTree, chords, chord_entry, KeepsArcs}
use Rattle.rg_integers.specs.Sum.{sum_below}
use Rattle.rg_integers.proofs.Sums.{sum_below-same, sum_below-zero}
use Rattle.rg_linear.specs.System.{LinearRow, LinearSystem, row_variable, row_at, entry}
use Rattle.rg_linear.specs.Dictionary.{numbers_from}
use Rattle.rg_linear.specs.Cycle.{IsHomogeneous, RowsAreZero, FollowsRelations, vector_at, IsZeroVector, CycleBasis}
use Rattle.rg_linear.proofs.Members.{Contains-numbers_from, numbers_from-Contains}
use Rattle.rg_linear.proofs.Columns.{values_of, values_of-column, values_of-point}
use Rattle.rg_linear.proofs.Cycles.{cycle_is_exact}
use Rattle.rg_linear.proofs.Firsts.{kept_is, item_stays}
use Rattle.rg_case_folds.specs.Potentials.{chord_sum, potential}
use Rattle.rg_case_folds.specs.Chords.{chord_vector, chord_vectors, chord_at, KeepsChords, chord_system, IsBasis}
use Rattle.rg_case_folds.proofs.Potentials.{chord_equations}

-- ---- lists

pub map_numbers : (f : ℕ → ℤ) (a n j : ℕ) → j < n → slice_index_or (map f (numbers_from a n)) j (pos 0) ≡ f (a + j)
map_numbers f a zero j lt = absurd (omega arith)
map_numbers f a (suc n) zero lt = ap f (last a)
  where
    last : (a : ℕ) → a ≡ a + 0
    last a = omega arith
map_numbers f a (suc n) (suc j) lt = map_numbers f (suc a) n j (omega arith) ∙ ap f (next a j)
  where
    next : (a j : ℕ) → suc a + j ≡ a + suc j
    next a j = omega arith

-- ---- the vectors of the chords

-- the sum of numbers with the values x
abbrev pub coeffs_sum : ℕ → List ℤ → (ℕ → ℤ) → ℤ
coeffs_sum n coeffs x = sum_below n (λ j. slice_index_or coeffs j (pos 0) *ℤ x j)

vector_sum : (lts : System) (tree : List Arc) (effect : ℕ → ℤ) (a : Arc) → coeffs_sum (labels lts) (chord_vector lts tree a) effect ≡ chord_sum lts tree effect a
vector_sum lts tree effect a = sum_below-same (labels lts) (λ j. slice_index_or (chord_vector lts tree a) j (pos 0) *ℤ effect j)
    (λ t. chord_entry tree a t *ℤ effect t) (λ j lt. ap (λ z. z *ℤ effect j)
    (map_numbers (chord_entry tree a) 0 (labels lts) j lt ∙ ap (chord_entry tree a) (zero-add j)))

-- the vector at a place is that of the chord at it
place_sum : (lts : System) (tree : List Arc) (effect : ℕ → ℤ) (p : ℕ) → p < length (chords lts tree)
    → coeffs_sum (labels lts) (vector_at (chord_vectors lts tree) p) effect ≡ chord_sum lts tree effect (chord_at lts tree p)
place_sum lts tree effect p lt =
    ap (λ c. coeffs_sum (labels lts) c effect) (get_or-map (chord_vector lts tree) (chords lts tree) p (record { from = 0; label = 0; to = 0 }) [] lt)
    ∙ vector_sum lts tree effect (chord_at lts tree p)

-- a place that is kept is a chord's
pub kept_place : (lts : System) (tree : List Arc) (kept : List ℕ) (p : ℕ) → KeepsChords lts tree kept → Contains kept p → p < length (chords lts tree)
kept_place lts tree kept p is has =
    let among = kept_is (vector_at (chord_vectors lts tree)) (λ i. IsZeroVector (vector_at (chord_vectors lts tree) i)) [] (numbers_from 0 (length (chord_vectors lts tree))) kept p is has in
    let below = (numbers_from-Contains 0 (length (chord_vectors lts tree)) p among).1 in
    let same = length-map (chords lts tree) (chord_vector lts tree) in
    omega arith

zero_sum : (n : ℕ) (xs : List ℤ) (x : ℕ → ℤ) → All (λ z. z ≡ pos 0) xs → coeffs_sum n xs x ≡ pos 0
zero_sum n xs x all = sum_below-zero n (λ j. slice_index_or xs j (pos 0) *ℤ x j) (λ j lt. ap (λ z. z *ℤ x j) (zero_at j) ∙ zero-*ℤ (x j))
  where
    zero_at : (j : ℕ) → slice_index_or xs j (pos 0) ≡ pos 0
    zero_at j = ⊎_elim (λ lt. all j (pos 0) lt) (λ past. get_or_past xs j (pos 0) past) (cases_lt j (length xs))

-- ---- the rows of the system

abbrev pub vector_row : System → List Arc → ℕ → LinearRow
vector_row lts tree p = record { coeffs = vector_at (chord_vectors lts tree) p; constant = pos 0 }

-- row i has the vector at the place that is kept there
row_is : (lts : System) (tree : List Arc) (kept : List ℕ) (i : ℕ) → i < length (chord_system lts tree kept).rows
    → (i < length kept) × (row_at (chord_system lts tree kept) i ≡ vector_row lts tree (slice_index_or kept i 0))
row_is lts tree kept i lt =
    let same = length-map kept (vector_row lts tree) in
    let below : i < length kept = omega arith in
    (below, get_or-map (vector_row lts tree) kept i 0 (record { coeffs = []; constant = pos 0 }) below)

no_constants : (lts : System) (tree : List Arc) (kept : List ℕ) → IsHomogeneous (chord_system lts tree kept)
no_constants lts tree kept i lt = ap (λ (r : LinearRow). r.constant) (row_is lts tree kept i lt).1

-- the value of row i at a point
row_of_point : (lts : System) (tree : List Arc) (kept : List ℕ) (effect : ℕ → ℤ) (i : ℕ) → i < length (chord_system lts tree kept).rows
    → values_of (chord_system lts tree kept) (pos 1) effect (row_variable (chord_system lts tree kept) i)
    ≡ coeffs_sum (labels lts) (vector_at (chord_vectors lts tree) (slice_index_or kept i 0)) effect
row_of_point lts tree kept effect i lt =
    let p = values_of-point (chord_system lts tree kept) (pos 1) effect one in
    p.rows i lt
    ∙ ap₂ ◌+ℤ◌ (sum_below-same (labels lts) (λ j. entry (chord_system lts tree kept) i j *ℤ values_of (chord_system lts tree kept) (pos 1) effect j)
    (λ j. entry (chord_system lts tree kept) i j *ℤ effect j)
    (λ j lt'. ap (λ z. entry (chord_system lts tree kept) i j *ℤ z) (values_of-column (chord_system lts tree kept) (pos 1) effect j lt')))
    (ap (λ z. z *ℤ pos 1) (no_constants lts tree kept i lt))
    ∙ drop (sum_below (labels lts) (λ j. entry (chord_system lts tree kept) i j *ℤ effect j))
    ∙ ap (λ (r : LinearRow). coeffs_sum (labels lts) r.coeffs effect) (row_is lts tree kept i lt).1
  where
    one : pos 0 <ℤ pos 1
    one = omega (arith, ints)

    drop : (z : ℤ) → z +ℤ (pos 0 *ℤ pos 1) ≡ z
    drop z = omega (arith, ints)

rows_zero : (lts : System) (tree : List Arc) (kept : List ℕ) (effect : ℕ → ℤ) → KeepsChords lts tree kept
    → ((a : Arc) → Contains (chords lts tree) a → chord_sum lts tree effect a ≡ pos 0) ↔ RowsAreZero (chord_system lts tree kept) (values_of (chord_system lts tree kept) (pos 1) effect)
rows_zero lts tree kept effect is = (rows, sums)
  where
    rows : ((a : Arc) → Contains (chords lts tree) a → chord_sum lts tree effect a ≡ pos 0) → RowsAreZero (chord_system lts tree kept) (values_of (chord_system lts tree kept) (pos 1) effect)
    rows none i lt =
        let below = kept_place lts tree kept (slice_index_or kept i 0) is (Contains-get_or kept i 0 (row_is lts tree kept i lt).0) in
        row_of_point lts tree kept effect i lt
        ∙ place_sum lts tree effect (slice_index_or kept i 0) below
        ∙ none (chord_at lts tree (slice_index_or kept i 0)) (Contains-get_or (chords lts tree) (slice_index_or kept i 0) (record { from = 0; label = 0; to = 0 }) below)

    kept_zero : RowsAreZero (chord_system lts tree kept) (values_of (chord_system lts tree kept) (pos 1) effect) → (q : ℕ) → Contains kept q
        → coeffs_sum (labels lts) (vector_at (chord_vectors lts tree) q) effect ≡ pos 0
    kept_zero zeros q (i, lt, e) =
        let same = length-map kept (vector_row lts tree) in
        let below : i < length (chord_system lts tree kept).rows = omega arith in
        ap (λ k. coeffs_sum (labels lts) (vector_at (chord_vectors lts tree) k) effect) (sym e ∙ get_or_default kept i q 0 lt)
        ∙ sym (row_of_point lts tree kept effect i below)
        ∙ zeros i below

    stays : RowsAreZero (chord_system lts tree kept) (values_of (chord_system lts tree kept) (pos 1) effect) → (p : ℕ)
        → IsZeroVector (vector_at (chord_vectors lts tree) p)
        ⊎ (Contains [] (vector_at (chord_vectors lts tree) p)
        ⊎ ((q : ℕ) × Contains kept q × (vector_at (chord_vectors lts tree) q ≡ vector_at (chord_vectors lts tree) p)))
        → coeffs_sum (labels lts) (vector_at (chord_vectors lts tree) p) effect ≡ pos 0
    stays zeros p (inl zero_vector) = zero_sum (labels lts) (vector_at (chord_vectors lts tree) p) effect zero_vector
    stays zeros p (inr (inl (k, lt, e))) = absurd (omega arith)
    stays zeros p (inr (inr (q, has, e))) = ap (λ c. coeffs_sum (labels lts) c effect) (sym e) ∙ kept_zero zeros q has

    sums : RowsAreZero (chord_system lts tree kept) (values_of (chord_system lts tree kept) (pos 1) effect) → (a : Arc) → Contains (chords lts tree) a → chord_sum lts tree effect a ≡ pos 0
    sums zeros a (p, lt, e) =
        let same = length-map (chords lts tree) (chord_vector lts tree) in
        let below : p < 0 + length (chord_vectors lts tree) = omega arith in
        ap (chord_sum lts tree effect) (sym e ∙ get_or_default (chords lts tree) p a (record { from = 0; label = 0; to = 0 }) lt)
        ∙ sym (place_sum lts tree effect p lt)
        ∙ stays zeros p (item_stays (vector_at (chord_vectors lts tree)) (λ i. IsZeroVector (vector_at (chord_vectors lts tree) i)) []
        (numbers_from 0 (length (chord_vectors lts tree))) kept p is (Contains-numbers_from 0 (length (chord_vectors lts tree)) p (omega arith) below))

follows_same : (system : LinearSystem) (members : List ℕ) (v u : ℕ → ℤ) → ((j : ℕ) → j < system.columns → v j ≡ u j) → FollowsRelations system members v → FollowsRelations system members u
follows_same system members v u agree follows t k lt row =
    ap (λ z. k.d *ℤ z) (sym (agree t lt)) ∙ follows t k lt row
    ∙ sum_below-same system.columns (λ j. k.coefficient j *ℤ v j) (λ j. k.coefficient j *ℤ u j) (λ j lt'. ap (λ z. k.coefficient j *ℤ z) (agree j lt'))

-- the numbers that effects give along the tree keep every arc exactly where the effects follow the relations
pub effects_exact : (lts : System) (tree : List Arc) (basis : CycleBasis) (start : ℤ) (effect : ℕ → ℤ) → IsInRange lts → IsTree lts tree → IsBasis lts tree basis
    → KeepsArcs lts (potential lts tree start effect) effect ↔ FollowsRelations (chord_system lts tree basis.kept) basis.members effect
effects_exact lts tree basis start effect fine g is =
    let sums = chord_equations lts tree start effect fine g in
    let rows = rows_zero lts tree basis.kept effect is.kept in
    let exact = cycle_is_exact (chord_system lts tree basis.kept) basis.members (no_constants lts tree basis.kept) is.cycle (pos 1)
    (values_of (chord_system lts tree basis.kept) (pos 1) effect) (values_of-point (chord_system lts tree basis.kept) (pos 1) effect one) in (
      (λ keeps. follows_same (chord_system lts tree basis.kept) basis.members (values_of (chord_system lts tree basis.kept) (pos 1) effect) effect
          (λ j lt. values_of-column (chord_system lts tree basis.kept) (pos 1) effect j lt) (exact.0 (rows.0 (sums.0 keeps)))),
      (λ follows. sums.1 (rows.1
          (exact.1 (follows_same (chord_system lts tree basis.kept) basis.members effect
          (values_of (chord_system lts tree basis.kept) (pos 1) effect)
          (λ j lt. sym (values_of-column (chord_system lts tree basis.kept) (pos 1) effect j lt)) follows)))),
    )
  where
    one : pos 0 <ℤ pos 1
    one = omega (arith, ints)
