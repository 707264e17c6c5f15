-- A row of the system is a positive multiple of its named row, at all Start and effects that follow the relations.
use Rattle.std.proofs.Common.{◌≡◌, ◌≢◌, ⊎_elim, ℕ, suc, max, ◌+◌, ◌<◌, not, Bool, true, false, if◌then◌else◌, List, [], ◌∷◌, ◌++◌, Ok, Contains, ap, ap₂, refl, subst, sym, ◌∙◌, arith, zero-add}
use Rattle.std.specs.Prelude.{ℤ, pos, ◌+ℤ◌, ◌*ℤ◌, ◌<ℤ◌, unsigned_abs, int_div}
use Rattle.std.proofs.lemmas.Int.{ints, unsigned_abs-mul}
use Rattle.std.specs.Int.{◌∣◌}
use Rattle.std.proofs.Math.Nat.{dvd-mul_right}
use Rattle.rg_theory.specs.declared.Arc.{Arc}
use Rattle.rg_theory.specs.System.{System, labels}
use Rattle.rg_theory.proofs.Lists.{Contains-cons_cases}
use Rattle.rg_cert_meaning.specs.Expression.{Term, Expression, value_in}
use Rattle.rg_cert_meaning.specs.declared.RowName.{RowName}
use Rattle.rg_integers.specs.Sum.{sum_below, dot, sum_over}
use Rattle.rg_linear.specs.Cycle.{FollowsRelations, CycleBasis}
use Rattle.rg_integers.proofs.Ring.{ring, add-mul, mul-add, mul_left_comm}
use Rattle.std.proofs.Math.IntN.{*ℤ_comm, zero-*ℤ}
use Rattle.rg_integers.proofs.Order.{mul-cancel, mul-cancel_left, mul_positive, positive_differs}
use Rattle.rg_integers.proofs.Sums.{sum_below-same}
use Rattle.rg_integers.proofs.Divisors.{exact}
use Rattle.rg_case_folds.specs.Setting.{Setting}
use Rattle.rg_folds.specs.Fold.{each, Ratio, whole}
use Rattle.rg_case_folds.specs.Chords.{chord_system, IsBasis}
use Rattle.rg_folds.specs.Substitution.{is_in, free_labels, dependent_labels, coefficient_fold}
use Rattle.rg_case_folds.specs.Rewriting.{has_label, start_of, count_of, has_start, pick, Scaled, scaled_fold, terms_fold, KeptRow, row_fold}
use Rattle.rg_case_folds.specs.Values.{NamesLabels, numbers_along, picked, column_values, UnusedAreZero}
use Rattle.rg_case_folds.proofs.Lists.{where_is, not_in}
use Rattle.rg_case_folds.proofs.RowValues.{IsOver, coefficient_over, whole_over, rewritten}
use Rattle.rg_folds.proofs.Sums.{both_sums}
use Rattle.rg_case_folds.proofs.Scaling.{Divides, AllOver, scaled_dot, whole_product_is}
use Rattle.rg_integers.proofs.Dots.{dot-times}
use Rattle.std.proofs.lemmas.Bool.{not-true}
use Rattle.rg_case_folds.proofs.Products.{mul_second_out, first_of_sum}
use Rattle.rg_integers.proofs.ListSums.{sum_over-same, sum_over-plus, sum_over-times, sum_over-zero, sum_over-swap}

-- ---- lists of labels

pub dependent : (lts : System) (basis : CycleBasis) (t : ℕ) → Contains (dependent_labels (labels lts) basis) t → (t < labels lts) × ¬ Contains basis.members t
dependent lts basis t has =
    let (e, _, lt) = where_is (λ u. not (is_in basis.members u)) 0 (labels lts) t has in
    (omega arith, not_in basis.members t (not-true (is_in basis.members t) e))

-- ---- one bottom for all relations

pub common_bottom : (d : ℕ → ℤ) (ts : List ℕ) → ((t : ℕ) → Contains ts t → pos 0 <ℤ d t) → (b : ℤ) × (pos 0 <ℤ b) × ((t : ℕ) → Contains ts t → Divides (d t) b)
common_bottom d [] each_positive = (pos 1, omega (arith, ints), λ t (k, lt, e). absurd (omega arith))
common_bottom d (t ∷ ts) each_positive =
    let (b, positive, divides) = common_bottom d ts (λ u (k, lt, e). each_positive u (suc k, omega arith, e)) in (
      d t *ℤ b,
      mul_positive (d t) b (each_positive t (0, omega arith, refl)) positive,
      λ u has.
          ⊎_elim
          (λ is. (b, ap (λ z. d z *ℤ b) is ∙ ap (λ z. d z *ℤ b) refl))
          (λ there. more (d t) (d u) b (divides u there))
          (Contains-cons_cases t u ts has),
    )
  where
    more : (c k b : ℤ) → Divides k b → Divides k (c *ℤ b)
    more c k b (q, e) = (c *ℤ q, ap (λ z. c *ℤ z) e ∙ mul_left_comm c k q)

-- the other factor
pub part_exact : (d b : ℤ) → Divides d b → b ≡ d *ℤ int_div b d
part_exact d b (q, e) = sym (exact b d (subst (λ n. unsigned_abs d ∣ n) (sym (ap unsigned_abs e ∙ unsigned_abs-mul d q)) (dvd-mul_right (unsigned_abs d) (unsigned_abs q)))) ∙ *ℤ_comm (int_div b d) d

-- ---- the free labels' coefficients

picked_over : (lts : System) (basis : CycleBasis) (counts : ℕ → ℤ) (b : ℤ) (x : ℕ → ℤ) (test : ℕ → Bool) (fs : List ℕ) (rs : List Ratio)
    → ((f : ℕ) (h : Ratio) → coefficient_fold (labels lts) basis counts f (Ok h) → IsOver b h (x f)) → each (coefficient_fold (labels lts) basis counts) fs (Ok rs)
    → AllOver b (pick test fs rs) (picked test fs x)
picked_over lts basis counts b x test [] rs over e = tt
picked_over lts basis counts b x test (f ∷ fs) rs over (h, is, (rest, each_is, e)) =
    subst (λ (l : List Ratio). AllOver b (pick test (f ∷ fs) l) (picked test (f ∷ fs) x)) (sym e) (go (test f) (over f h is) (picked_over lts basis counts b x test fs rest over each_is))
  where
    go : (t : Bool) → IsOver b h (x f) → AllOver b (pick test fs rest) (picked test fs x)
        → AllOver b (if t then (h ∷ pick test fs rest) else pick test fs rest) (if t then (x f ∷ picked test fs x) else picked test fs x)
    go true p q = (p, q)
    go false p q = q

dot_picked : (test : ℕ → Bool) (x effect : ℕ → ℤ) (fs : List ℕ) → ((f : ℕ) → test f ≡ false → effect f ≡ pos 0) → dot (picked test fs x) (picked test fs effect) ≡ sum_over (λ f. x f *ℤ effect f) fs
dot_picked test x effect [] unused = refl
dot_picked test x effect (f ∷ fs) unused = go (test f) refl (dot_picked test x effect fs unused)
  where
    go : (t : Bool) → test f ≡ t → dot (picked test fs x) (picked test fs effect) ≡ sum_over (λ u. x u *ℤ effect u) fs
        → dot (if t then (x f ∷ picked test fs x) else picked test fs x) (if t then (effect f ∷ picked test fs effect) else picked test fs effect) ≡
        (x f *ℤ effect f) +ℤ sum_over (λ u. x u *ℤ effect u) fs
    go true e ih = ap (λ z. (x f *ℤ effect f) +ℤ z) ih
    go false e ih = ih ∙ none (x f) (effect f) (sum_over (λ u. x u *ℤ effect u) fs) (unused f e)
      where
        none : (x e s : ℤ) → e ≡ pos 0 → s ≡ (x *ℤ e) +ℤ s
        none x e s p = rw p (zero_times x s)
          where
            zero_times : (x s : ℤ) → s ≡ (x *ℤ pos 0) +ℤ s
            zero_times x s = omega (arith, ints)

-- what the relations of the dependent labels add to the coefficient of a free label
abbrev pub share : System → CycleBasis → (ℕ → ℤ) → (ℕ → ℤ) → ℕ → ℤ
share lts basis counts part f = sum_over (λ t. counts t *ℤ ((basis.relation t).coefficient f *ℤ part t)) (dependent_labels (labels lts) basis)

-- what the free labels' coefficients are worth together
free_sum : (lts : System) (tree : List Arc) (basis : CycleBasis) (counts effect part : ℕ → ℤ) (b : ℤ) → IsBasis lts tree basis
    → FollowsRelations (chord_system lts tree basis.kept) basis.members effect
    → ((t : ℕ) → Contains (dependent_labels (labels lts) basis) t → b ≡ (basis.relation t).d *ℤ part t)
    → sum_over (λ f. ((counts f *ℤ b) +ℤ share lts basis counts part f) *ℤ effect f) (free_labels (labels lts) basis) ≡ b *ℤ sum_below (labels lts) (λ t. counts t *ℤ effect t)
free_sum lts tree basis counts effect part b is follows divides =
    sum_over-same (λ f. ((counts f *ℤ b) +ℤ share lts basis counts part f) *ℤ effect f)
    (λ f. (b *ℤ (counts f *ℤ effect f)) +ℤ sum_over (λ t. (counts t *ℤ part t) *ℤ ((basis.relation t).coefficient f *ℤ effect f))
    dependents) free (λ f has. one_label f)
    ∙ sum_over-plus (λ f. b *ℤ (counts f *ℤ effect f)) (λ f. sum_over (λ t. (counts t *ℤ part t) *ℤ ((basis.relation t).coefficient f *ℤ effect f)) dependents) free
    ∙ ap₂ ◌+ℤ◌ (sum_over-times b (λ f. counts f *ℤ effect f) free)
    (sum_over-swap (λ f t. (counts t *ℤ part t) *ℤ ((basis.relation t).coefficient f *ℤ effect f)) free
    dependents ∙ sum_over-same
    (λ t. sum_over (λ f. (counts t *ℤ part t) *ℤ ((basis.relation t).coefficient f *ℤ effect f)) free) (λ t. b *ℤ (counts t *ℤ effect t))
    dependents one_relation ∙ sum_over-times b (λ t. counts t *ℤ effect t) dependents)
    ∙ sym (mul-add b (sum_over (λ f. counts f *ℤ effect f) free) (sum_over (λ t. counts t *ℤ effect t) dependents))
    ∙ ap (λ z. b *ℤ z) (both_sums (λ t. is_in basis.members t) (λ t. counts t *ℤ effect t) 0 (labels lts)
    ∙ sum_below-same (labels lts) (λ i. counts (0 + i) *ℤ effect (0 + i)) (λ i. counts i *ℤ effect i) (λ i lt. ap (λ k. counts k *ℤ effect k) (zero-add i)))
  where
    free : List ℕ
    free = free_labels (labels lts) basis

    dependents : List ℕ
    dependents = dependent_labels (labels lts) basis

    inner : (f : ℕ) (ts : List ℕ)
        → sum_over (λ t. counts t *ℤ ((basis.relation t).coefficient f *ℤ part t)) ts *ℤ effect f ≡ sum_over (λ t. (counts t *ℤ part t) *ℤ ((basis.relation t).coefficient f *ℤ effect f)) ts
    inner f ts =
        *ℤ_comm (sum_over (λ t. counts t *ℤ ((basis.relation t).coefficient f *ℤ part t)) ts) (effect f)
        ∙ sym (sum_over-times (effect f) (λ t. counts t *ℤ ((basis.relation t).coefficient f *ℤ part t)) ts)
        ∙ sum_over-same (λ t. effect f *ℤ (counts t *ℤ ((basis.relation t).coefficient f *ℤ part t)))
        (λ t. (counts t *ℤ part t) *ℤ ((basis.relation t).coefficient f *ℤ effect f)) ts
        (λ t has. turn (effect f) (counts t) ((basis.relation t).coefficient f) (part t))
      where
        turn : (e c k p : ℤ) → e *ℤ (c *ℤ (k *ℤ p)) ≡ (c *ℤ p) *ℤ (k *ℤ e)
        turn e c k p = simp ring

    one_label : (f : ℕ) → ((counts f *ℤ b) +ℤ share lts basis counts part f) *ℤ effect f
        ≡ (b *ℤ (counts f *ℤ effect f)) +ℤ sum_over (λ t. (counts t *ℤ part t) *ℤ ((basis.relation t).coefficient f *ℤ effect f)) dependents
    one_label f = add-mul (counts f *ℤ b) (share lts basis counts part f) (effect f) ∙ ap₂ ◌+ℤ◌ (mul_second_out (counts f) b (effect f)) (inner f dependents)

    -- the relation of t, over the free labels
    relation_sum : (t : ℕ) → Contains dependents t → sum_over (λ f. (basis.relation t).coefficient f *ℤ effect f) free ≡ (basis.relation t).d *ℤ effect t
    relation_sum t has =
        let (lt, lacks) = dependent lts basis t has in
        let row = is.relations t lt lacks in
        let all = both_sums (λ u. is_in basis.members u) (λ f. (basis.relation t).coefficient f *ℤ effect f) 0 (labels lts)
        ∙ sum_below-same (labels lts) (λ i. (basis.relation t).coefficient (0 + i) *ℤ effect (0 + i)) (λ i. (basis.relation t).coefficient i *ℤ effect i)
        (λ i lt'. ap (λ k. (basis.relation t).coefficient k *ℤ effect k) (zero-add i)) in
        let others : sum_over (λ f. (basis.relation t).coefficient f *ℤ effect f) dependents ≡ pos 0 = sum_over-zero
        (λ f. (basis.relation t).coefficient f *ℤ effect f) dependents
        (λ u has'. ap (λ z. z *ℤ effect u) (row.over u (dependent lts basis u has').1) ∙ zero-*ℤ (effect u)) in
        first_of_sum (sum_over (λ f. (basis.relation t).coefficient f *ℤ effect f) free)
        (sum_over (λ f. (basis.relation t).coefficient f *ℤ effect f) dependents)
        (sum_below (labels lts) (λ i. (basis.relation t).coefficient i *ℤ effect i)) all others ∙ sym (follows t (basis.relation t) lt row)

    one_relation : (t : ℕ) → Contains dependents t → sum_over (λ f. (counts t *ℤ part t) *ℤ ((basis.relation t).coefficient f *ℤ effect f)) free ≡ b *ℤ (counts t *ℤ effect t)
    one_relation t has =
        sum_over-times (counts t *ℤ part t) (λ f. (basis.relation t).coefficient f *ℤ effect f) free
        ∙ ap (λ z. (counts t *ℤ part t) *ℤ z) (relation_sum t has)
        ∙ turn (counts t) (part t) (basis.relation t).d (effect t)
        ∙ ap (λ z. z *ℤ (counts t *ℤ effect t)) (sym (divides t has))
      where
        turn : (c p d e : ℤ) → (c *ℤ p) *ℤ (d *ℤ e) ≡ (d *ℤ p) *ℤ (c *ℤ e)
        turn c p d e = simp ring

-- ---- the row

-- the numbers of the expression over the columns are worth the expression, times the multiple
pub terms_value : (it : Setting) (terms : List Term) (start : ℤ) (effect : ℕ → ℤ) (scaled : Scaled) → IsBasis it.lts it.tree it.basis
    → NamesLabels (labels it.lts) terms → (has_start it.class ≡ false → start ≡ pos 0)
    → FollowsRelations (chord_system it.lts it.tree it.basis.kept) it.basis.members effect → UnusedAreZero it.lts effect → terms_fold it terms (Ok scaled)
    → dot scaled.numbers (column_values it.lts it.basis it.class start effect) ≡ scaled.multiple *ℤ value_in (numbers_along it.lts it.tree start effect) terms
terms_value it terms start effect scaled is names no_start follows unused (free, substituted, scales) =
    let (b, positive, divides) = common_bottom (λ t. (it.basis.relation t).d) (dependent_labels (labels it.lts) it.basis)
    (λ t has. (is.relations t (dependent it.lts it.basis t has).0 (dependent it.lts it.basis t has).1).positive) in
    let part : ℕ → ℤ = λ t. int_div b (it.basis.relation t).d in
    let parts : (t : ℕ) → Contains (dependent_labels (labels it.lts) it.basis) t → b ≡ (it.basis.relation t).d *ℤ int_div b (it.basis.relation t).d =
    λ t has. part_exact (it.basis.relation t).d b (divides t has) in
    let counts = count_of it.tree terms in
    let x : ℕ → ℤ = λ f. (count_of it.tree terms f *ℤ b)
    +ℤ sum_over (λ t. count_of it.tree terms t *ℤ ((it.basis.relation t).coefficient f *ℤ int_div b (it.basis.relation t).d))
    (dependent_labels (labels it.lts) it.basis) in
    let over = picked_over it.lts it.basis (count_of it.tree terms) b x (λ t. has_label t it.lts.arcs) (free_labels (labels it.lts) it.basis) free
    (λ f h fold. coefficient_over it.lts it.basis (count_of it.tree terms) f h b part parts fold) substituted in
    let free_value = dot_picked (λ t. has_label t it.lts.arcs) x effect (free_labels (labels it.lts) it.basis) unused
    ∙ free_sum it.lts it.tree it.basis (count_of it.tree terms) effect part b is follows parts in
    mul-cancel (dot scaled.numbers (column_values it.lts it.basis it.class start effect))
    (scaled.multiple *ℤ value_in (numbers_along it.lts it.tree start effect) terms) b (positive_differs b positive)
    (columns (has_start it.class) refl b x (pick (λ t. has_label t it.lts.arcs) (free_labels (labels it.lts) it.basis) free) over free_value scales
    ∙ ap (λ z. (scaled.multiple *ℤ z) *ℤ b) (sym (rewritten it.lts it.tree start effect terms names)))
  where
    columns : (s : Bool) → has_start it.class ≡ s → (b : ℤ) (x : ℕ → ℤ) (rs : List Ratio)
        → AllOver b rs (picked (λ t. has_label t it.lts.arcs) (free_labels (labels it.lts) it.basis) x)
        → dot (picked (λ t. has_label t it.lts.arcs) (free_labels (labels it.lts) it.basis) x) (picked (λ t. has_label t it.lts.arcs) (free_labels (labels it.lts) it.basis) effect) ≡ b *ℤ
        sum_below (labels it.lts) (λ t. count_of it.tree terms t *ℤ effect t)
        → scaled_fold ((if s then (whole (start_of terms) ∷ []) else []) ++ rs) (Ok scaled)
        → dot scaled.numbers ((if s then (start ∷ []) else [])
        ++ picked (λ t. has_label t it.lts.arcs) (free_labels (labels it.lts) it.basis) effect) *ℤ b
        ≡ (scaled.multiple *ℤ ((start_of terms *ℤ start) +ℤ sum_below (labels it.lts) (λ t. count_of it.tree terms t *ℤ effect t))) *ℤ b
    columns true e b x rs over value scales =
        scaled_dot b (whole (start_of terms) ∷ rs) ((start_of terms *ℤ b) ∷ picked (λ t. has_label t it.lts.arcs) (free_labels (labels it.lts) it.basis) x)
        (start ∷ picked (λ t. has_label t it.lts.arcs) (free_labels (labels it.lts) it.basis) effect) scaled (whole_over b (start_of terms), over) scales
        ∙ ap (λ z. (((start_of terms *ℤ b) *ℤ start) +ℤ z) *ℤ scaled.multiple) value
        ∙ close (start_of terms) b start (sum_below (labels it.lts) (λ t. count_of it.tree terms t *ℤ effect t)) scaled.multiple
      where
        close : (c b z s m : ℤ) → (((c *ℤ b) *ℤ z) +ℤ (b *ℤ s)) *ℤ m ≡ (m *ℤ ((c *ℤ z) +ℤ s)) *ℤ b
        close c b z s m = simp ring (omega (arith, ints))
    columns false e b x rs over value scales =
        scaled_dot b rs (picked (λ t. has_label t it.lts.arcs) (free_labels (labels it.lts) it.basis) x)
        (picked (λ t. has_label t it.lts.arcs) (free_labels (labels it.lts) it.basis) effect) scaled over scales
        ∙ ap (λ z. z *ℤ scaled.multiple) value
        ∙ close (start_of terms) b (sum_below (labels it.lts) (λ t. count_of it.tree terms t *ℤ effect t)) scaled.multiple
        ∙ ap (λ z. (scaled.multiple *ℤ ((start_of terms *ℤ z) +ℤ sum_below (labels it.lts) (λ t. count_of it.tree terms t *ℤ effect t))) *ℤ b) (sym (no_start e))
      where
        close : (c b s m : ℤ) → (b *ℤ s) *ℤ m ≡ (m *ℤ ((c *ℤ pos 0) +ℤ s)) *ℤ b
        close c b s m = simp ring (omega (arith, ints))

-- the value of a row, times the factor's bottom, is that of its named row, times the factor's top
pub row_value_is : (it : Setting) (name : RowName) (e : Expression) (start : ℤ) (effect : ℕ → ℤ) (scale : ℤ) (out : KeptRow) → IsBasis it.lts it.tree it.basis
    → NamesLabels (labels it.lts) e.terms → (has_start it.class ≡ false → start ≡ pos 0)
    → FollowsRelations (chord_system it.lts it.tree it.basis.kept) it.basis.members effect → UnusedAreZero it.lts effect → row_fold it name e (Ok out)
    → out.factor.bottom *ℤ (dot out.row.coeffs (column_values it.lts it.basis it.class start effect) +ℤ (out.row.constant *ℤ scale))
    ≡ out.factor.top *ℤ (value_in (numbers_along it.lts it.tree start effect) e.terms +ℤ (e.constant *ℤ scale))
row_value_is it name e start effect scale out is names no_start follows unused (scaled, terms, (constant, product, (named, d))) =
    let g = pos (max d.divisor 1) in
    let value = terms_value it e.terms start effect scaled is names no_start follows unused terms in
    let numbers : pos (max d.divisor 1) *ℤ dot out.row.coeffs (column_values it.lts it.basis it.class start effect) ≡ scaled.multiple *ℤ value_in
    (numbers_along it.lts it.tree start effect) e.terms = sym (dot-times (pos (max d.divisor 1)) out.row.coeffs (column_values it.lts it.basis it.class start effect))
    ∙ ap (λ l. dot l (column_values it.lts it.basis it.class start effect)) (sym d.coeffs) ∙ value in
    let constants : pos (max d.divisor 1) *ℤ out.row.constant ≡ e.constant *ℤ scaled.multiple = sym d.constant ∙ whole_product_is e.constant scaled.multiple constant product in
    close (pos (max d.divisor 1)) scaled.multiple out.factor.top out.factor.bottom (dot out.row.coeffs (column_values it.lts it.basis it.class start effect)) out.row.constant
    (value_in (numbers_along it.lts it.tree start effect) e.terms) e.constant scale d.factor.nonzero numbers constants d.factor.value
  where
    close : (g m t u r k v c s : ℤ) → g ≢ pos 0 → g *ℤ r ≡ m *ℤ v → g *ℤ k ≡ c *ℤ m → t *ℤ g ≡ m *ℤ u → u *ℤ (r +ℤ (k *ℤ s)) ≡ t *ℤ (v +ℤ (c *ℤ s))
    close g m t u r k v c s ne p q f = mul-cancel_left g (u *ℤ (r +ℤ (k *ℤ s))) (t *ℤ (v +ℤ (c *ℤ s))) ne
        (left g u r k s ∙ ap₂ (λ a b. u *ℤ (a +ℤ (b *ℤ s))) p q ∙ mid u m v c s ∙ ap (λ z. z *ℤ (v +ℤ (c *ℤ s))) (sym f) ∙ mul_second_out t g (v +ℤ (c *ℤ s)))
      where
        left : (g u r k s : ℤ) → g *ℤ (u *ℤ (r +ℤ (k *ℤ s))) ≡ u *ℤ ((g *ℤ r) +ℤ ((g *ℤ k) *ℤ s))
        left g u r k s = simp ring

        mid : (u m v c s : ℤ) → u *ℤ ((m *ℤ v) +ℤ ((c *ℤ m) *ℤ s)) ≡ (m *ℤ u) *ℤ (v +ℤ (c *ℤ s))
        mid u m v c s = simp ring
