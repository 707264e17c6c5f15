-- Effects of all labels, from values of the free ones.
use Rattle.std.proofs.Common.{◌≡◌, ◌≢◌, ⊎_elim, ℕ, zero, suc, ◌+◌, ◌<◌, ◌≤◌, ◌==◌, ◌&&◌, Bool, true, false, if◌then◌else◌, List, [], ◌∷◌, ◌++◌, map, length, Contains, inr, refl, sym, ap, ap₂, subst, ◌∙◌, arith, eq-eqb, ne_eqb, zero-add}
use Rattle.std.specs.Prelude.{ℤ, pos, ◌*ℤ◌, ◌<ℤ◌}
use Rattle.std.proofs.lemmas.Int.{ints}
use Rattle.std.proofs.lemmas.Bool.{true≢false, cases_Bool, cases_eq, eqb-true, and_parts}
use Rattle.std.proofs.lemmas.List.{length-map}
use Rattle.std.proofs.Math.IntN.{zero-*ℤ, *ℤ_comm, *ℤ-zero}
use Rattle.rg_theory.specs.declared.Arc.{Arc}
use Rattle.rg_theory.specs.System.{System, IsInRange, IsAllReachable, labels}
use Rattle.rg_theory.specs.Tree.{IsTree}
use Rattle.rg_integers.specs.Sum.{sum_below, number_at}
use Rattle.rg_integers.proofs.Ring.{mul_assoc, mul_left_comm}
use Rattle.rg_integers.proofs.Order.{mul_positive}
use Rattle.rg_integers.proofs.Sums.{sum_below-same, sum_below-times}
use Rattle.rg_linear.specs.Dictionary.{Relation}
use Rattle.rg_linear.specs.Cycle.{FollowsRelations, CycleBasis}
use Rattle.rg_linear.proofs.Members.{is_member}
use Rattle.rg_linear.proofs.Unique.{same_relation}
use Rattle.rg_case_folds.specs.Setting.{CaseSetting}
use Rattle.rg_case_folds.specs.Chords.{chord_system, IsBasis}
use Rattle.rg_folds.specs.Substitution.{is_in, numbers_where}
use Rattle.rg_case_folds.specs.Rewriting.{has_label, free_columns, has_start, CaseSystem}
use Rattle.rg_case_folds.specs.Values.{column_values}
use Rattle.rg_case_folds.specs.Meaning.{IsCaseOver, AreGivenBy, first_column}
use Rattle.rg_case_folds.proofs.Lists.{first, behind, where_is, has_in}
use Rattle.rg_case_folds.proofs.Given.{unused_is_free}
use Rattle.rg_case_folds.proofs.Products.{mul_last_in, none_of}
use Rattle.rg_case_folds.proofs.ColumnValues.{columns_split, values_counted}

-- ---- members

pub in_has : (xs : List ℕ) (m : ℕ) → is_in xs m ≡ true → Contains xs m
in_has [] m e = absurd (true≢false (sym e))
in_has (x ∷ xs) m e = go (x == m) refl e (λ h. in_has xs m h)
  where
    go : (b : Bool) → (x == m) ≡ b → (if b then true else is_in xs m) ≡ true → (is_in xs m ≡ true → Contains xs m) → Contains (x ∷ xs) m
    go true is e next = subst (Contains (x ∷ xs)) (eqb-true x m is) (first x xs)
    go false is e next = behind x m xs (next e)

-- ---- values of the numbers in a list

map_same : (f g : ℕ → ℤ) (xs : List ℕ) → ((x : ℕ) → Contains xs x → f x ≡ g x) → map f xs ≡ map g xs
map_same f g [] same = refl
map_same f g (x ∷ xs) same = ap₂ (λ z l. z ∷ l) (same x (first x xs)) (map_same f g xs (λ y has. same y (behind x y xs has)))

-- numbers that pass a test take given values, in order
assigned : (test : ℕ → Bool) (a n : ℕ) (f : ℕ → ℤ) → (w : ℕ → ℤ) × ((j : ℕ) → j < length (numbers_where test a n) → f j ≡ number_at (map w (numbers_where test a n)) j)
assigned test a zero f = (λ t. pos 0, λ j lt. absurd (omega arith))
assigned test a (suc n) f = go (test a) (assigned test (suc a) n (λ j. f (suc j))) (assigned test (suc a) n f)
  where
    with_first : (ℕ → ℤ) → ℕ → ℤ
    with_first w t = if t == a then f 0 else w t

    later : (w : ℕ → ℤ) (t : ℕ) → Contains (numbers_where test (suc a) n) t → w t ≡ (if t == a then f 0 else w t)
    later w t has = let (_, le, _) = where_is test (suc a) n t has in sym (ap (λ b. if b then f 0 else w t) (ne_eqb t a (above le)))
      where
        above : suc a ≤ t → t ≢ a
        above le same = omega arith

    at : (w : ℕ → ℤ) → ((j : ℕ) → j < length (numbers_where test (suc a) n) → f (suc j) ≡ number_at (map w (numbers_where test (suc a) n)) j) → (j : ℕ)
        → j < length (a ∷ numbers_where test (suc a) n) → f j ≡ number_at (map (λ t. if t == a then f 0 else w t) (a ∷ numbers_where test (suc a) n)) j
    at w h zero lt = sym (ap (λ b. if b then f 0 else w a) (eq-eqb a a refl))
    at w h (suc j) lt = h j (omega arith) ∙ ap (λ l. number_at l j) (map_same w (λ t. if t == a then f 0 else w t) (numbers_where test (suc a) n) (later w))

    go : (b : Bool) → ((w : ℕ → ℤ) × ((j : ℕ) → j < length (numbers_where test (suc a) n) → f (suc j) ≡ number_at (map w (numbers_where test (suc a) n)) j))
        → ((w : ℕ → ℤ) × ((j : ℕ) → j < length (numbers_where test (suc a) n) → f j ≡ number_at (map w (numbers_where test (suc a) n)) j))
        → (w : ℕ → ℤ) × ((j : ℕ) → j < length (if b then (a ∷ numbers_where test (suc a) n) else numbers_where test (suc a) n)
        → f j ≡ number_at (map w (if b then (a ∷ numbers_where test (suc a) n) else numbers_where test (suc a) n)) j)
    go true (w, h) other = (λ t. if t == a then f 0 else w t, at w h)
    go false other (w, h) = (w, h)

-- ---- one multiple of all

-- a number that each of n numbers divides, and the other factors
multiple_below : (n : ℕ) (d : ℕ → ℤ) → ((t : ℕ) → t < n → pos 0 <ℤ d t) → (b : ℤ) × (part : ℕ → ℤ) × (pos 0 <ℤ b) × ((t : ℕ) → t < n → b ≡ d t *ℤ part t)
multiple_below zero d each_positive = (pos 1, λ t. pos 0, omega (arith, ints), λ t lt. absurd (omega arith))
multiple_below (suc n) d each_positive =
    let (b, part, positive, exact) = multiple_below n d (λ t lt. each_positive t (omega arith)) in (
      b *ℤ d n,
      λ t. if t == n then b else part t
          *ℤ d n,
      mul_positive b (d n) positive (each_positive n (omega arith)),
      λ t lt. ⊎_elim (λ same. last b part t same)
          (λ differ. earlier b part t differ (exact t (below t lt differ))) (cases_eq t n),
    )
  where
    below : (t : ℕ) → t < suc n → t ≢ n → t < n
    below t lt differ = omega arith

    last : (b : ℤ) (part : ℕ → ℤ) (t : ℕ) → t ≡ n → b *ℤ d n ≡ d t *ℤ (if t == n then b else part t *ℤ d n)
    last b part t same = *ℤ_comm b (d n) ∙ ap (λ k. d k *ℤ b) (sym same) ∙ ap (λ c. d t *ℤ (if c then b else part t *ℤ d n)) (sym (eq-eqb t n same))

    earlier : (b : ℤ) (part : ℕ → ℤ) (t : ℕ) → t ≢ n → b ≡ d t *ℤ part t → b *ℤ d n ≡ d t *ℤ (if t == n then b else part t *ℤ d n)
    earlier b part t differ e = ap (λ z. z *ℤ d n) e ∙ mul_assoc (d t) (part t) (d n) ∙ ap (λ c. d t *ℤ (if c then b else part t *ℤ d n)) (sym (ne_eqb t n differ))

-- ---- the effects

-- the value of a free label with an arc, and what the relation of t makes of them
abbrev pub used_value : System → (ℕ → ℤ) → ℕ → ℤ
used_value lts w j = if has_label j lts.arcs then w j else pos 0

abbrev pub related : System → CycleBasis → (ℕ → ℤ) → ℕ → ℤ
related lts basis w t = sum_below (labels lts) (λ j. (basis.relation t).coefficient j *ℤ used_value lts w j)

-- what the free labels with an arc give, and the relations for the others
abbrev pub effect_of : Bool → Bool → ℤ → ℤ → ℤ
effect_of used member free dependent = if used then (if member then free else dependent) else pos 0

abbrev pub given_effect : System → CycleBasis → ℤ → (ℕ → ℤ) → (ℕ → ℤ) → ℕ → ℤ
given_effect lts basis b part w t = effect_of (has_label t lts.arcs) (is_in basis.members t) (b *ℤ w t) (related lts basis w t *ℤ part t)

module _ (lts : System) (basis : CycleBasis) (b : ℤ) (part w : ℕ → ℤ) (t : ℕ) where
  free_effect : has_label t lts.arcs ≡ true → is_in basis.members t ≡ true → given_effect lts basis b part w t ≡ b *ℤ w t
  free_effect used member = ap₂ (λ c d. effect_of c d (b *ℤ w t) (related lts basis w t *ℤ part t)) used member

  dependent_effect : has_label t lts.arcs ≡ true → is_in basis.members t ≡ false → given_effect lts basis b part w t ≡ related lts basis w t *ℤ part t
  dependent_effect used member = ap₂ (λ c d. effect_of c d (b *ℤ w t) (related lts basis w t *ℤ part t)) used member

  unused_effect : has_label t lts.arcs ≡ false → given_effect lts basis b part w t ≡ pos 0
  unused_effect unused = ap (λ c. effect_of c (is_in basis.members t) (b *ℤ w t) (related lts basis w t *ℤ part t)) unused

-- in a relation, the effects are b times the free labels' values
term_value : (lts : System) (basis : CycleBasis) (b : ℤ) (part w : ℕ → ℤ) (k : Relation) (j : ℕ) → (¬ Contains basis.members j → k.coefficient j ≡ pos 0)
    → k.coefficient j *ℤ given_effect lts basis b part w j ≡ b *ℤ (k.coefficient j *ℤ used_value lts w j)
term_value lts basis b part w k j over =
    ⊎_elim
    (λ used.
    ⊎_elim
    (λ member. ap (λ z. k.coefficient j *ℤ z) (free_effect lts basis b part w j used member) ∙ mul_left_comm (k.coefficient j) b (w j)
    ∙ ap (λ c. b *ℤ (k.coefficient j *ℤ (if c then w j else pos 0))) (sym used))
    (λ outside. none (k.coefficient j) b (given_effect lts basis b part w j) (used_value lts w j) (over (λ has. true≢false (sym (has_in basis.members j has) ∙ outside))))
    (cases_Bool (is_in basis.members j)))
    (λ unused. ap (λ z. k.coefficient j *ℤ z) (unused_effect lts basis b part w j unused) ∙ zeros (k.coefficient j) b ∙ ap (λ c. b *ℤ (k.coefficient j *ℤ (if c then w j else pos 0))) (sym unused))
    (cases_Bool (has_label j lts.arcs))
  where
    zeros : (k b : ℤ) → k *ℤ pos 0 ≡ b *ℤ (k *ℤ pos 0)
    zeros k b = *ℤ-zero k ∙ sym (ap (λ z. b *ℤ z) (*ℤ-zero k) ∙ *ℤ-zero b)

    none : (k b e z : ℤ) → k ≡ pos 0 → k *ℤ e ≡ b *ℤ (k *ℤ z)
    none k b e z p = ap (λ c. c *ℤ e) p ∙ zero b e z ∙ ap (λ c. b *ℤ (c *ℤ z)) (sym p)
      where
        zero : (b e z : ℤ) → pos 0 *ℤ e ≡ b *ℤ (pos 0 *ℤ z)
        zero b e z = zero-*ℤ e ∙ sym (ap (λ y. b *ℤ y) (zero-*ℤ z) ∙ *ℤ-zero b)

given_follow : (lts : System) (tree : List Arc) (basis : CycleBasis) (b : ℤ) (part w : ℕ → ℤ) → IsInRange lts → IsAllReachable lts → IsTree lts tree
    → IsBasis lts tree basis → ((t : ℕ) → t < labels lts → b ≡ (basis.relation t).d *ℤ part t) → FollowsRelations (chord_system lts tree basis.kept) basis.members
    (given_effect lts basis b part w)
given_follow lts tree basis b part w fine reached g is exact t k lt row =
    let same = same_relation (chord_system lts tree basis.kept) basis.members t k (basis.relation t) row (is.relations t lt row.outside) in
    subst (λ (l : Relation). l.d *ℤ given_effect lts basis b part w t ≡ sum_below (labels lts) (λ j. l.coefficient j *ℤ given_effect lts basis b part w j)) (sym same) (own row.outside)
  where
    used : ¬ Contains basis.members t → has_label t lts.arcs ≡ true
    used outside = ⊎_elim (λ e. e) (λ e. absurd (outside (unused_is_free lts tree basis t fine reached g is lt e))) (cases_Bool (has_label t lts.arcs))

    not_in : ¬ Contains basis.members t → is_in basis.members t ≡ false
    not_in outside = ⊎_elim (λ e. absurd (outside (in_has basis.members t e))) (λ e. e) (cases_Bool (is_in basis.members t))

    own : ¬ Contains basis.members t → (basis.relation t).d *ℤ given_effect lts basis b part w t ≡ sum_below (labels lts) (λ j. (basis.relation t).coefficient j *ℤ given_effect lts basis b part w j)
    own outside =
        ap (λ z. (basis.relation t).d *ℤ z) (dependent_effect lts basis b part w t (used outside) (not_in outside))
        ∙ mul_last_in (basis.relation t).d (related lts basis w t) (part t)
        ∙ ap (λ z. z *ℤ related lts basis w t) (sym (exact t lt))
        ∙ sym (sum_below-times (labels lts) b (λ j. (basis.relation t).coefficient j *ℤ used_value lts w j))
        ∙ sym (sum_below-same (labels lts) (λ j. (basis.relation t).coefficient j *ℤ given_effect lts basis b part w j)
        (λ j. b *ℤ ((basis.relation t).coefficient j *ℤ used_value lts w j))
        (λ j lt'. term_value lts basis b part w (basis.relation t) j ((is.relations t lt outside).over j)))

-- ---- the point gives them

positive_d : (lts : System) (tree : List Arc) (basis : CycleBasis) → IsBasis lts tree basis → (t : ℕ) → t < labels lts → pos 0 <ℤ (basis.relation t).d
positive_d lts tree basis is t lt =
    ⊎_elim (λ has. subst (λ (k : Relation). pos 0 <ℤ k.d) (sym (is.others t (inr has))) (omega (arith, ints))) (λ outside. (is.relations t lt outside).positive) (is_member basis.members t)

pub point_gives : (it : CaseSetting) (case : CaseSystem) (v : ℕ → ℤ) → IsCaseOver it case
    → (times : ℤ) × (start : ℤ) × (effect : ℕ → ℤ) × AreGivenBy it.setting case v times start effect
point_gives it case v c =
    let (b, part, positive, exact) = multiple_below (labels it.lts) (λ t. (it.basis.relation t).d) (positive_d it.lts it.tree it.basis c.is_basis) in
    let (w, at) = assigned (λ t. is_in it.basis.members t && has_label t it.lts.arcs) 0 (labels it.lts) (λ j. v (first_column it.class + j)) in (
      b,
      b *ℤ v 0,
      given_effect it.lts it.basis b part w,
      record {
        positive = positive;
        effects = record {
          follows = given_follow it.lts it.tree it.basis b part w c.in_range c.reachable c.is_tree c.is_basis exact;
          unused = λ t e. unused_effect it.lts it.basis b part w t e;
        };
        columns = λ j lt. columns b part w at j lt;
      },
    )
  where
    free_times : (b : ℤ) (part w : ℕ → ℤ) → map (given_effect it.lts it.basis b part w) (free_columns it.lts it.basis) ≡ map (λ t. b *ℤ w t) (free_columns it.lts it.basis)
    free_times b part w = map_same (given_effect it.lts it.basis b part w) (λ t. b *ℤ w t) (free_columns it.lts it.basis)
        (λ t has. (let (e, _, _) = where_is (λ t. is_in it.basis.members t && has_label t it.lts.arcs) 0 (labels it.lts) t has in let (member, used) = and_parts
        (is_in it.basis.members t) (has_label t it.lts.arcs) e in free_effect it.lts it.basis b part w t used member))

    number_times : (b : ℤ) (w : ℕ → ℤ) (xs : List ℕ) (j : ℕ) → number_at (map (λ t. b *ℤ w t) xs) j ≡ b *ℤ number_at (map w xs) j
    number_times b w [] j = none_of b
    number_times b w (x ∷ xs) zero = refl
    number_times b w (x ∷ xs) (suc j) = number_times b w xs j

    by : (s : Bool) (b : ℤ) (w : ℕ → ℤ)
        → ((j : ℕ) → j < length (free_columns it.lts it.basis) → v ((if s then 1 else 0) + j) ≡ number_at (map w (free_columns it.lts it.basis)) j) → (j : ℕ)
        → j < length ((if s then ((b *ℤ v 0) ∷ []) else []) ++ map (λ t. b *ℤ w t) (free_columns it.lts it.basis))
        → b *ℤ v j ≡ number_at ((if s then ((b *ℤ v 0) ∷ []) else []) ++ map (λ t. b *ℤ w t) (free_columns it.lts it.basis)) j
    by true b w at zero lt = refl
    by true b w at (suc j) lt =
        ap (λ k. b *ℤ v k) (next j)
        ∙ ap (λ z. b *ℤ z) (at j (let same = length-map (free_columns it.lts it.basis) (λ t. b *ℤ w t) in omega arith))
        ∙ sym (number_times b w (free_columns it.lts it.basis) j)
      where
        next : (j : ℕ) → suc j ≡ 1 + j
        next j = omega arith
    by false b w at j lt =
        ap (λ k. b *ℤ v k) (sym (zero-add j))
        ∙ ap (λ z. b *ℤ z) (at j (let same = length-map (free_columns it.lts it.basis) (λ t. b *ℤ w t) in omega arith))
        ∙ sym (number_times b w (free_columns it.lts it.basis) j)

    columns : (b : ℤ) (part w : ℕ → ℤ)
        → ((j : ℕ) → j < length (free_columns it.lts it.basis) → v (first_column it.class + j) ≡ number_at (map w (free_columns it.lts it.basis)) j) → (j : ℕ)
        → j < case.columns → b *ℤ v j ≡ number_at (column_values it.lts it.basis it.class (b *ℤ v 0) (given_effect it.lts it.basis b part w)) j
    columns b part w at j lt =
        let split = columns_split it.lts it.basis it.class (b *ℤ v 0) (given_effect it.lts it.basis b part w)
        ∙ ap (λ l. (if has_start it.class then ((b *ℤ v 0) ∷ []) else []) ++ l) (free_times b part w) in
        let count = values_counted it case (b *ℤ v 0) (given_effect it.lts it.basis b part w) c.is_case in
        let below : j < length (column_values it.lts it.basis it.class (b *ℤ v 0) (given_effect it.lts it.basis b part w)) = omega arith in
        by (has_start it.class) b w at j (subst (λ l. j < length l) split below) ∙ sym (ap (λ l. number_at l j) split)
