-- What relations say of any effects, with the sums of the chords that the basis uses.
use Rattle.std.proofs.Common.{◌≡◌, ⊎_elim, ℕ, ◌+◌, ◌<◌, not, nat_lt, if◌then◌else◌, List, [], length, slice_index_or, Contains, ap, ap₂, subst, sym, ◌∙◌, arith}
use Rattle.std.specs.Prelude.{ℤ, pos, ◌+ℤ◌, ◌*ℤ◌}
use Rattle.std.proofs.Math.IntN.{zero-*ℤ, *ℤ-zero}
use Rattle.std.proofs.lemmas.Int.{ints}
use Rattle.std.proofs.lemmas.List.{length-map, get_or-map}
use Rattle.std.proofs.lemmas.List.Elements.{Contains-get_or}
use Rattle.std.proofs.lemmas.Bool.{not-true}
use Rattle.rg_theory.specs.declared.Arc.{Arc}
use Rattle.rg_theory.specs.System.{System, labels}
use Rattle.rg_theory.specs.Tree.{chords, chord_entry}
use Rattle.rg_integers.specs.Sum.{sum_below, sum_over}
use Rattle.rg_integers.proofs.Ring.{ring, mul-add, mul_left_comm}
use Rattle.rg_integers.proofs.Sums.{sum_below-same, sum_below-zero, sum_below-split}
use Rattle.rg_integers.proofs.ListSums.{sum_over-zero, sum_over-same, sum_over-plus, sum_over-times}
use Rattle.rg_linear.specs.System.{LinearRow, row_at, entry}
use Rattle.rg_linear.specs.Dictionary.{Relation, DictionaryRow, Takes}
use Rattle.rg_linear.specs.Cycle.{IsHomogeneous, FollowsRelations, vector_at, CycleBasis}
use Rattle.rg_linear.proofs.Members.{is_member}
use Rattle.rg_linear.proofs.Columns.{values_of, values_of-column, values_of-point, below_test, past_test}
use Rattle.rg_linear.proofs.Cycles.{no_constant, cycle_set_knows}
use Rattle.rg_case_folds.specs.Potentials.{chord_sum}
use Rattle.rg_case_folds.specs.Chords.{chord_vector, chord_vectors, chord_at, chord_system, IsBasis}
use Rattle.rg_folds.specs.Substitution.{is_in, numbers_where, free_labels, dependent_labels}
use Rattle.rg_case_folds.specs.Spreading.{used_chords}
use Rattle.rg_case_folds.proofs.Lists.{not_in, where_contains}
use Rattle.rg_case_folds.proofs.PointEffects.{in_has}
use Rattle.rg_folds.proofs.Sums.{both_sums}
use Rattle.rg_case_folds.proofs.ExactRows.{dependent}
use Rattle.rg_case_folds.proofs.ChordRows.{map_numbers, kept_place as kept_index}

none_plus : (i : ℕ) → 0 + i ≡ i
none_plus i = omega arith

zero_times : (c z : ℤ) → c ≡ pos 0 → c *ℤ z ≡ pos 0
zero_times c z e = ap (λ x. x *ℤ z) e ∙ zero-*ℤ z

-- ---- the rows of the chords' system at a point

vector_sum : (lts : System) (tree : List Arc) (effect : ℕ → ℤ) (a : Arc) → sum_below (labels lts) (λ j. slice_index_or (chord_vector lts tree a) j (pos 0) *ℤ effect j) ≡ chord_sum lts tree effect a
vector_sum lts tree effect a = sum_below-same (labels lts) (λ j. slice_index_or (chord_vector lts tree a) j (pos 0) *ℤ effect j)
    (λ t. chord_entry tree a t *ℤ effect t) (λ j lt. ap (λ z. z *ℤ effect j)
    (map_numbers (chord_entry tree a) 0 (labels lts) j lt ∙ ap (chord_entry tree a) (none_plus j)))

-- the chord with number c
abbrev pub used_chord : System → List Arc → CycleBasis → ℕ → Arc
used_chord lts tree basis c = chord_at lts tree (slice_index_or basis.kept c 0)

module _ (lts : System) (tree : List Arc) (basis : CycleBasis) (is : IsBasis lts tree basis) where
  count_rows : length (chord_system lts tree basis.kept).rows ≡ length basis.kept
  count_rows = length-map basis.kept (λ i. record { coeffs = vector_at (chord_vectors lts tree) i; constant = pos 0 })

  row_is : (i : ℕ) → i < length basis.kept → row_at (chord_system lts tree basis.kept) i ≡ record { coeffs = vector_at (chord_vectors lts tree) (slice_index_or basis.kept i 0); constant = pos 0 }
  row_is i lt = get_or-map (λ p. record { coeffs = vector_at (chord_vectors lts tree) p; constant = pos 0 }) basis.kept i 0 (record { coeffs = []; constant = pos 0 }) lt

  plain : IsHomogeneous (chord_system lts tree basis.kept)
  plain i lt = ap (λ (r : LinearRow). r.constant) (row_is i (subst (λ n. i < n) count_rows lt))

  -- row i has the sum of the chord that is kept there
  row_value : (effect : ℕ → ℤ) (i : ℕ) → i < length basis.kept → values_of (chord_system lts tree basis.kept) (pos 1) effect (labels lts + i) ≡ chord_sum lts tree effect (used_chord lts tree basis i)
  row_value effect i lt =
      (values_of-point (chord_system lts tree basis.kept) (pos 1) effect (omega (arith, ints))).rows i below
      ∙ ap₂ ◌+ℤ◌ (sum_below-same (labels lts) (λ j. entry (chord_system lts tree basis.kept) i j *ℤ values_of (chord_system lts tree basis.kept) (pos 1) effect j)
      (λ j. entry (chord_system lts tree basis.kept) i j *ℤ effect j)
      (λ j lt'. ap (λ z. entry (chord_system lts tree basis.kept) i j *ℤ z) (values_of-column (chord_system lts tree basis.kept) (pos 1) effect j lt')))
      (ap (λ z. z *ℤ pos 1) (plain i below))
      ∙ drop (sum_below (labels lts) (λ j. entry (chord_system lts tree basis.kept) i j *ℤ effect j))
      ∙ ap (λ (r : LinearRow). sum_below (labels lts) (λ j. slice_index_or r.coeffs j (pos 0) *ℤ effect j)) (row_is i lt)
      ∙ ap (λ c. sum_below (labels lts) (λ j. slice_index_or c j (pos 0) *ℤ effect j))
      (get_or-map (chord_vector lts tree) (chords lts tree) (slice_index_or basis.kept i 0) (record { from = 0; label = 0; to = 0 }) []
      (kept_index lts tree basis.kept (slice_index_or basis.kept i 0) is.kept (Contains-get_or basis.kept i 0 lt)))
      ∙ vector_sum lts tree effect (used_chord lts tree basis i)
    where
      below : i < length (chord_system lts tree basis.kept).rows
      below = subst (λ n. i < n) (sym count_rows) lt

      drop : (z : ℤ) → z +ℤ (pos 0 *ℤ pos 1) ≡ z
      drop z = omega (arith, ints)

  -- a relation's row, for a label outside the basis
  pub relation_row : (t : ℕ) → Contains (dependent_labels (labels lts) basis) t → DictionaryRow (chord_system lts tree basis.kept) basis.members t (basis.relation t)
  relation_row t has = let h = dependent lts basis t has in is.relations t h.0 h.1

  -- the numbers of the labels in a relation
  free_part : (k : Relation) → ((m : ℕ) → ¬ Contains basis.members m → k.coefficient m ≡ pos 0) → (v : ℕ → ℤ)
      → sum_below (labels lts) (λ j. k.coefficient j *ℤ v j) ≡ sum_over (λ f. k.coefficient f *ℤ v f) (free_labels (labels lts) basis)
  free_part k over v = close _ _ _ all others
    where
      all : sum_over (λ f. k.coefficient f *ℤ v f) (free_labels (labels lts) basis)
          +ℤ sum_over (λ f. k.coefficient f *ℤ v f) (dependent_labels (labels lts) basis) ≡ sum_below (labels lts) (λ j. k.coefficient j *ℤ v j)
      all = both_sums (λ t. is_in basis.members t) (λ f. k.coefficient f *ℤ v f) 0 (labels lts)
          ∙ sum_below-same (labels lts) (λ j. k.coefficient (0 + j) *ℤ v (0 + j)) (λ j. k.coefficient j *ℤ v j) (λ j lt. ap (λ m. k.coefficient m *ℤ v m) (none_plus j))

      others : sum_over (λ f. k.coefficient f *ℤ v f) (dependent_labels (labels lts) basis) ≡ pos 0
      others = sum_over-zero (λ f. k.coefficient f *ℤ v f) (dependent_labels (labels lts) basis) (λ f has. zero_times (k.coefficient f) (v f) (over f (dependent lts basis f has).1))

      close : (x y s : ℤ) → x +ℤ y ≡ s → y ≡ pos 0 → s ≡ x
      close x y s e z = omega (arith, ints)

  -- the numbers of the rows in a relation
  chord_part : (k : Relation) → ((m : ℕ) → ¬ Contains basis.members m → k.coefficient m ≡ pos 0) → (v : ℕ → ℤ)
      → sum_below (length basis.kept) (λ i. k.coefficient (labels lts + i) *ℤ v i) ≡ sum_over (λ c. k.coefficient (labels lts + c) *ℤ v c) (used_chords lts basis)
  chord_part k over v = close _ _ _ all others
    where
      all : sum_over (λ c. k.coefficient (labels lts + c) *ℤ v c) (used_chords lts basis) +ℤ sum_over (λ c. k.coefficient (labels lts + c) *ℤ v c)
          (numbers_where (λ c. not (is_in basis.members (labels lts + c))) 0 (length basis.kept)) ≡ sum_below (length basis.kept)
          (λ i. k.coefficient (labels lts + i) *ℤ v i)
      all = both_sums (λ c. is_in basis.members (labels lts + c)) (λ c. k.coefficient (labels lts + c) *ℤ v c) 0 (length basis.kept)
          ∙ sum_below-same (length basis.kept) (λ j. k.coefficient (labels lts + (0 + j)) *ℤ v (0 + j)) (λ j. k.coefficient (labels lts + j) *ℤ v j)
          (λ j lt. ap (λ m. k.coefficient (labels lts + m) *ℤ v m) (none_plus j))

      others : sum_over (λ c. k.coefficient (labels lts + c) *ℤ v c) (numbers_where (λ c. not (is_in basis.members (labels lts + c))) 0 (length basis.kept)) ≡ pos 0
      others = sum_over-zero (λ c. k.coefficient (labels lts + c) *ℤ v c) (numbers_where (λ c. not (is_in basis.members (labels lts + c))) 0 (length basis.kept))
          (λ c has. zero_times (k.coefficient (labels lts + c)) (v c)
          (over (labels lts + c) (not_in basis.members (labels lts + c)
          (not-true (is_in basis.members (labels lts + c)) (where_contains (λ u. not (is_in basis.members (labels lts + u))) 0 (length basis.kept) c has).0))))

      close : (x y s : ℤ) → x +ℤ y ≡ s → y ≡ pos 0 → s ≡ x
      close x y s e z = omega (arith, ints)

  -- a relation at all effects, with the sums of the chords
  relation_holds : (effect : ℕ → ℤ) (t : ℕ) → Contains (dependent_labels (labels lts) basis) t
      → (basis.relation t).d *ℤ effect t ≡ sum_over (λ f. (basis.relation t).coefficient f *ℤ effect f) (free_labels (labels lts) basis)
      +ℤ sum_over (λ c. (basis.relation t).coefficient (labels lts + c) *ℤ chord_sum lts tree effect (used_chord lts tree basis c)) (used_chords lts basis)
  relation_holds effect t has =
      ap (λ z. (basis.relation t).d *ℤ z) (sym (values_of-column (chord_system lts tree basis.kept) (pos 1) effect t (dependent lts basis t has).0))
      ∙ (relation_row t has).holds (pos 1) (values_of (chord_system lts tree basis.kept) (pos 1) effect) (values_of-point (chord_system lts tree basis.kept) (pos 1) effect (omega (arith, ints)))
      ∙ drop _ _ (no_constant (chord_system lts tree basis.kept) basis.members t (basis.relation t) plain (relation_row t has))
      ∙ ap (λ n. sum_below (labels lts + n) (λ m. (basis.relation t).coefficient m *ℤ values_of (chord_system lts tree basis.kept) (pos 1) effect m)) count_rows
      ∙ sum_below-split (labels lts) (length basis.kept) (λ m. (basis.relation t).coefficient m *ℤ values_of (chord_system lts tree basis.kept) (pos 1) effect m)
      ∙ ap₂ ◌+ℤ◌
      (sum_below-same (labels lts) (λ j. (basis.relation t).coefficient j *ℤ values_of (chord_system lts tree basis.kept) (pos 1) effect j)
      (λ j. (basis.relation t).coefficient j *ℤ effect j)
      (λ j lt. ap (λ z. (basis.relation t).coefficient j *ℤ z) (values_of-column (chord_system lts tree basis.kept) (pos 1) effect j lt))
      ∙ free_part (basis.relation t) (relation_row t has).over effect)
      (sum_below-same (length basis.kept) (λ i. (basis.relation t).coefficient (labels lts + i) *ℤ values_of (chord_system lts tree basis.kept) (pos 1) effect
      (labels lts + i)) (λ i. (basis.relation t).coefficient (labels lts + i) *ℤ chord_sum lts tree effect (used_chord lts tree basis i))
      (λ i lt. ap (λ z. (basis.relation t).coefficient (labels lts + i) *ℤ z) (row_value effect i lt)) ∙ chord_part (basis.relation t) (relation_row t has).over
      (λ c. chord_sum lts tree effect (used_chord lts tree basis c)))
    where
      drop : (a b : ℤ) → a ≡ pos 0 → (a *ℤ pos 1) +ℤ b ≡ b
      drop a b e = omega (arith, ints)

  -- ---- effects that follow the relations, with the same free effects

  pub taken : (effect : ℕ → ℤ) → Takes (chord_system lts tree basis.kept) basis.members (λ m. if nat_lt m (labels lts) then effect m else pos 0) (pos 1)
  taken effect = (cycle_set_knows (chord_system lts tree basis.kept) basis.members is.cycle).has.free.takes (λ m. if nat_lt m (labels lts) then effect m else pos 0) (pos 1) (omega (arith, ints))

  free_taken : (effect : ℕ → ℤ) (f : ℕ) → f < labels lts → Contains basis.members f → (taken effect).v f ≡ (taken effect).times *ℤ effect f
  free_taken effect f lt has = (taken effect).values f has ∙ ap (λ b. (taken effect).times *ℤ (if b then effect f else pos 0)) (below_test f (labels lts) lt)

  row_taken : (effect : ℕ → ℤ) (i : ℕ) → Contains basis.members (labels lts + i) → (taken effect).v (labels lts + i) ≡ pos 0
  row_taken effect i has = (taken effect).values (labels lts + i) has
      ∙ ap (λ b. (taken effect).times *ℤ (if b then effect (labels lts + i) else pos 0)) (past_test (labels lts + i) (labels lts) (omega arith))
      ∙ *ℤ-zero (taken effect).times

  pub taken_follows : (effect : ℕ → ℤ) → FollowsRelations (chord_system lts tree basis.kept) basis.members (taken effect).v
  taken_follows effect t k lt row =
      row.holds ((taken effect).times *ℤ pos 1) (taken effect).v (taken effect).point
      ∙ drop _ _ _ (no_constant (chord_system lts tree basis.kept) basis.members t k plain row)
      ∙ sum_below-split (labels lts) (length (chord_system lts tree basis.kept).rows) (λ m. k.coefficient m *ℤ (taken effect).v m)
      ∙ alone _ _ (sum_below-zero (length (chord_system lts tree basis.kept).rows) (λ i. k.coefficient (labels lts + i) *ℤ (taken effect).v (labels lts + i))
      (λ i below. ⊎_elim (λ has. ap (λ z. k.coefficient (labels lts + i) *ℤ z) (row_taken effect i has) ∙ *ℤ-zero (k.coefficient (labels lts + i)))
      (λ lacks. zero_times (k.coefficient (labels lts + i)) ((taken effect).v (labels lts + i)) (row.over (labels lts + i) lacks))
      (is_member basis.members (labels lts + i))))
    where
      drop : (a s b : ℤ) → a ≡ pos 0 → (a *ℤ s) +ℤ b ≡ b
      drop a s b e = ap (λ z. (z *ℤ s) +ℤ b) e ∙ ap (λ z. z +ℤ b) (zero-*ℤ s) ∙ left b
        where
          left : (b : ℤ) → pos 0 +ℤ b ≡ b
          left b = omega (arith, ints)

      alone : (a b : ℤ) → b ≡ pos 0 → a +ℤ b ≡ a
      alone a b e = omega (arith, ints)

  -- how far effects are from those, by the chords
  away : (effect : ℕ → ℤ) (t : ℕ) → Contains (dependent_labels (labels lts) basis) t
      → (taken effect).times *ℤ ((basis.relation t).d *ℤ effect t)
      ≡ ((basis.relation t).d *ℤ (taken effect).v t)
      +ℤ ((taken effect).times *ℤ sum_over (λ c. (basis.relation t).coefficient (labels lts + c)
      *ℤ chord_sum lts tree effect (used_chord lts tree basis c)) (used_chords lts basis))
  away effect t has =
      ap (λ z. (taken effect).times *ℤ z) (relation_holds effect t has)
      ∙ mul-add (taken effect).times _ _
      ∙ ap (λ z. z +ℤ ((taken effect).times *ℤ sum_over
      (λ c. (basis.relation t).coefficient (labels lts + c) *ℤ chord_sum lts tree effect (used_chord lts tree basis c)) (used_chords lts basis))) (sym along)
    where
      same : (f : ℕ) → Contains (free_labels (labels lts) basis) f → (basis.relation t).coefficient f *ℤ (taken effect).v f ≡ (taken effect).times *ℤ ((basis.relation t).coefficient f *ℤ effect f)
      same f free = let w = where_contains (λ u. is_in basis.members u) 0 (labels lts) f free in
          ap (λ z. (basis.relation t).coefficient f *ℤ z) (free_taken effect f (omega arith) (in_has basis.members f w.0))
          ∙ mul_left_comm ((basis.relation t).coefficient f) (taken effect).times (effect f)

      along : (basis.relation t).d *ℤ (taken effect).v t ≡ (taken effect).times *ℤ sum_over (λ f. (basis.relation t).coefficient f *ℤ effect f) (free_labels (labels lts) basis)
      along =
          taken_follows effect t (basis.relation t) (dependent lts basis t has).0 (relation_row t has)
          ∙ free_part (basis.relation t) (relation_row t has).over (taken effect).v
          ∙ sum_over-same _ (λ f. (taken effect).times *ℤ ((basis.relation t).coefficient f *ℤ effect f)) (free_labels (labels lts) basis) same
          ∙ sum_over-times (taken effect).times (λ f. (basis.relation t).coefficient f *ℤ effect f) (free_labels (labels lts) basis)

  -- what the chords give label t
  abbrev pub chords_at : (ℕ → ℤ) → ℕ → ℤ
  chords_at effect t = sum_over (λ c. (basis.relation t).coefficient (labels lts + c) *ℤ chord_sum lts tree effect (used_chord lts tree basis c)) (used_chords lts basis)

  -- counts of labels at effects, and at those that follow the relations
  pub counts_away : (effect counts part : ℕ → ℤ) (b : ℤ) → ((t : ℕ) → Contains (dependent_labels (labels lts) basis) t → b ≡ (basis.relation t).d *ℤ part t)
      → b *ℤ ((taken effect).times *ℤ sum_below (labels lts) (λ u. counts u *ℤ effect u))
      ≡ (b *ℤ sum_below (labels lts) (λ u. counts u *ℤ (taken effect).v u))
      +ℤ ((taken effect).times *ℤ sum_over (λ t. counts t *ℤ (part t *ℤ chords_at effect t)) (dependent_labels (labels lts) basis))
  counts_away effect counts part b exact =
      ap (λ z. b *ℤ ((taken effect).times *ℤ z)) (sym (both effect))
      ∙ close b (taken effect).times _ _ _ _ _ free others
      ∙ ap (λ z. (b *ℤ z) +ℤ ((taken effect).times *ℤ sum_over (λ t. counts t *ℤ (part t *ℤ chords_at effect t)) (dependent_labels (labels lts) basis))) (both (taken effect).v)
    where
      both : (v : ℕ → ℤ) → sum_over (λ u. counts u *ℤ v u) (free_labels (labels lts) basis)
          +ℤ sum_over (λ u. counts u *ℤ v u) (dependent_labels (labels lts) basis) ≡ sum_below (labels lts) (λ u. counts u *ℤ v u)
      both v = both_sums (λ t. is_in basis.members t) (λ u. counts u *ℤ v u) 0 (labels lts)
          ∙ sum_below-same (labels lts) (λ i. counts (0 + i) *ℤ v (0 + i)) (λ i. counts i *ℤ v i) (λ i lt. ap (λ k. counts k *ℤ v k) (none_plus i))

      free : (taken effect).times *ℤ sum_over (λ u. counts u *ℤ effect u) (free_labels (labels lts) basis) ≡ sum_over (λ u. counts u *ℤ (taken effect).v u) (free_labels (labels lts) basis)
      free = sym (sum_over-times (taken effect).times (λ u. counts u *ℤ effect u) (free_labels (labels lts) basis))
          ∙ sum_over-same (λ u. (taken effect).times *ℤ (counts u *ℤ effect u)) (λ u. counts u *ℤ (taken effect).v u) (free_labels (labels lts) basis)
          (λ f has. (let w = where_contains (λ u. is_in basis.members u) 0 (labels lts) f has in mul_left_comm (taken effect).times (counts f) (effect f)
          ∙ ap (λ z. counts f *ℤ z) (sym (free_taken effect f (omega arith) (in_has basis.members f w.0)))))

      one : (t : ℕ) → Contains (dependent_labels (labels lts) basis) t
          → b *ℤ ((taken effect).times *ℤ (counts t *ℤ effect t))
          ≡ (b *ℤ (counts t *ℤ (taken effect).v t)) +ℤ ((taken effect).times *ℤ (counts t *ℤ (part t *ℤ chords_at effect t)))
      one t has = ap (λ z. z *ℤ ((taken effect).times *ℤ (counts t *ℤ effect t))) (exact t has) ∙ left (basis.relation t).d (part t) (taken effect).times (counts t)
          (effect t) ∙ ap (λ z. (counts t *ℤ part t) *ℤ z) (away effect t has) ∙ right (basis.relation t).d (part t) (taken effect).times (counts t) ((taken effect).v t)
          (chords_at effect t) ∙ ap (λ z. (z *ℤ (counts t *ℤ (taken effect).v t)) +ℤ ((taken effect).times *ℤ (counts t *ℤ (part t *ℤ chords_at effect t))))
          (sym (exact t has))
        where
          left : (d p n c e : ℤ) → (d *ℤ p) *ℤ (n *ℤ (c *ℤ e)) ≡ (c *ℤ p) *ℤ (n *ℤ (d *ℤ e))
          left d p n c e = simp ring

          right : (d p n c v s : ℤ) → (c *ℤ p) *ℤ ((d *ℤ v) +ℤ (n *ℤ s)) ≡ ((d *ℤ p) *ℤ (c *ℤ v)) +ℤ (n *ℤ (c *ℤ (p *ℤ s)))
          right d p n c v s = simp ring (omega (arith, ints))

      others : b *ℤ ((taken effect).times *ℤ sum_over (λ u. counts u *ℤ effect u) (dependent_labels (labels lts) basis)) ≡
          (b *ℤ sum_over (λ u. counts u *ℤ (taken effect).v u) (dependent_labels (labels lts) basis)) +ℤ
          ((taken effect).times *ℤ sum_over (λ t. counts t *ℤ (part t *ℤ chords_at effect t)) (dependent_labels (labels lts) basis))
      others =
          ap (λ z. b *ℤ z) (sym (sum_over-times (taken effect).times (λ u. counts u *ℤ effect u) (dependent_labels (labels lts) basis)))
          ∙ sym (sum_over-times b (λ u. (taken effect).times *ℤ (counts u *ℤ effect u)) (dependent_labels (labels lts) basis))
          ∙ sum_over-same _ (λ t. (b *ℤ (counts t *ℤ (taken effect).v t)) +ℤ ((taken effect).times *ℤ (counts t *ℤ (part t *ℤ chords_at effect t)))) (dependent_labels (labels lts) basis) one
          ∙ sum_over-plus (λ t. b *ℤ (counts t *ℤ (taken effect).v t)) (λ t. (taken effect).times *ℤ (counts t *ℤ (part t *ℤ chords_at effect t))) (dependent_labels (labels lts) basis)
          ∙ ap₂ ◌+ℤ◌ (sum_over-times b (λ t. counts t *ℤ (taken effect).v t) (dependent_labels (labels lts) basis))
          (sum_over-times (taken effect).times (λ t. counts t *ℤ (part t *ℤ chords_at effect t)) (dependent_labels (labels lts) basis))

      close : (b n x y x' y' s : ℤ) → n *ℤ x ≡ x' → b *ℤ (n *ℤ y) ≡ (b *ℤ y') +ℤ s → b *ℤ (n *ℤ (x +ℤ y)) ≡ (b *ℤ (x' +ℤ y')) +ℤ s
      close b n x y x' y' s p q = ap (λ z. b *ℤ z) (mul-add n x y) ∙ mul-add b (n *ℤ x) (n *ℤ y) ∙ ap₂ (λ a c. (b *ℤ a) +ℤ c) p q ∙ shut b x' y' s
        where
          shut : (b x y s : ℤ) → (b *ℤ x) +ℤ ((b *ℤ y) +ℤ s) ≡ (b *ℤ (x +ℤ y)) +ℤ s
          shut b x y s = simp ring (omega (arith, ints))
