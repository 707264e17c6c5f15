-- The effects that the fold of a place makes, and the whole numbers that they become.
use Rattle.std.proofs.Common.{◌≡◌, ⊎_elim, ℕ, suc, ◌+◌, ◌<◌, ◌&&◌, not, Bool, true, false, List, [], ◌∷◌, Contains, Result, Ok, refl, sym, ap, ap₂, subst, ◌∙◌, arith, zero-add}
use Rattle.std.specs.Prelude.{ℤ, pos, ◌*ℤ◌, ◌<ℤ◌}
use Rattle.std.proofs.lemmas.Int.{ints}
use Rattle.std.proofs.lemmas.Bool.{true≢false, cases_Bool, and_from, not-true}
use Rattle.rg_theory.specs.declared.Arc.{Arc}
use Rattle.rg_theory.specs.System.{System, labels}
use Rattle.rg_integers.specs.Sum.{sum_below, sum_over}
use Rattle.rg_integers.proofs.Ring.{ring, mul_assoc}
use Rattle.rg_integers.proofs.Order.{mul-cancel, positive_differs}
use Rattle.rg_integers.proofs.Sums.{sum_below-same}
use Rattle.rg_linear.specs.Cycle.{CycleBasis}
use Rattle.rg_integers.specs.declared.term.Wide.{Wide}
use Rattle.rg_folds.specs.Fold.{and_then, further, joined, Ratio, whole, quotient, add, mul}
use Rattle.rg_case_folds.specs.Chords.{IsBasis}
use Rattle.rg_folds.specs.Substitution.{is_in, numbers_where}
use Rattle.rg_case_folds.specs.Rewriting.{has_label, free_columns}
use Rattle.rg_case_folds.specs.Placing.{effect_fold}
use Rattle.rg_case_folds.proofs.RowValues.{IsOver, further_over}
use Rattle.rg_folds.proofs.Sums.{both_sums}
use Rattle.rg_case_folds.specs.Meaning.{AreEffects}
use Rattle.rg_case_folds.proofs.Lists.{where_has, where_is, has_in}
use Rattle.rg_integers.proofs.ListSums.{sum_over-zero}
use Rattle.rg_case_folds.proofs.Products.{first_of_sum, mul_rotate}
use Rattle.std.proofs.Math.IntN.{*ℤ_comm, *ℤ-zero}
use Rattle.rg_case_folds.specs.Places.{AreValuesOf}

-- ---- one product

-- f is x over s, k is n over d: their product is x*n over s*d
product_over : (s x n d : ℤ) (f k h : Ratio) → IsOver s f x → quotient n d (Ok k) → mul f k (Ok h) → IsOver (s *ℤ d) h (x *ℤ n)
product_over s x n d f k h p q (_, _, r) = mul-cancel (h.top *ℤ (s *ℤ d)) ((x *ℤ n) *ℤ h.bottom) (f.bottom *ℤ k.bottom) r.nonzero
    (turn h.top s d (f.bottom *ℤ k.bottom) ∙ ap (λ z. z *ℤ (s *ℤ d)) r.value ∙ spread f.top k.top h.bottom s d ∙ ap₂ (λ a b. (a *ℤ b) *ℤ h.bottom) p q.value ∙ shut x f.bottom n k.bottom h.bottom)
  where
    turn : (t s d b : ℤ) → (t *ℤ (s *ℤ d)) *ℤ b ≡ (t *ℤ b) *ℤ (s *ℤ d)
    turn t s d b = simp ring

    spread : (f k u s d : ℤ) → ((f *ℤ k) *ℤ u) *ℤ (s *ℤ d) ≡ ((f *ℤ s) *ℤ (k *ℤ d)) *ℤ u
    spread f k u s d = simp ring

    shut : (x b n c u : ℤ) → ((x *ℤ b) *ℤ (n *ℤ c)) *ℤ u ≡ ((x *ℤ n) *ℤ u) *ℤ (b *ℤ c)
    shut x b n c u = simp ring

-- ---- sums that begin with their first term

further_bottom : (make : ℕ → Result Ratio Wide → Type 0) (f h : Ratio) (ts : List ℕ) → pos 0 <ℤ f.bottom → further add make f ts (Ok h) → pos 0 <ℤ h.bottom
further_bottom make f h [] p e = subst (λ (r : Ratio). pos 0 <ℤ r.bottom) (sym e) p
further_bottom make f h (t ∷ ts) p (k, made, (g, (_, _, added), rest)) = further_bottom make g h ts added.positive rest

joined_over : (b : ℤ) (make : ℕ → Result Ratio Wide → Type 0) (y : ℕ → ℤ) (h : Ratio) (ts : List ℕ) → joined add make (whole (pos 0)) ts (Ok h)
    → ((t : ℕ) (k : Ratio) → Contains ts t → make t (Ok k) → IsOver b k (y t) × (pos 0 <ℤ k.bottom)) → IsOver b h (sum_over y ts) × (pos 0 <ℤ h.bottom)
joined_over b make y h [] e each_over = (subst (λ (r : Ratio). IsOver b r (pos 0)) (sym e) (none b), subst (λ (r : Ratio). pos 0 <ℤ r.bottom) (sym e) (omega (arith, ints)))
  where
    none : (b : ℤ) → pos 0 *ℤ b ≡ pos 0 *ℤ pos 1
    none b = omega (arith, ints)
joined_over b make y h (t ∷ ts) (k, made, rest) each_over =
    let here = each_over t k (0, omega arith, refl) made in
    (further_over b make y k h (y t) ts rest here.0 (λ u l (i, lt, e) made'. (each_over u l (suc i, omega arith, e) made').0), further_bottom make k h ts here.1 rest)

-- ---- the sum over the free columns

-- of numbers that pass a test, those that do not being 0
where_sum : (test : ℕ → Bool) (g : ℕ → ℤ) (n : ℕ) → ((t : ℕ) → t < n → test t ≡ false → g t ≡ pos 0) → sum_over g (numbers_where test 0 n) ≡ sum_below n g
where_sum test g n zero_at =
    let both = both_sums test g 0 n in
    let none = sum_over-zero g (numbers_where (λ t. not (test t)) 0 n) (λ t has. (let (e, _, lt) = where_is (λ t. not (test t)) 0 n t has in zero_at t (omega arith) (not-true (test t) e))) in
    first_of_sum (sum_over g (numbers_where test 0 n)) (sum_over g (numbers_where (λ t. not (test t)) 0 n)) (sum_below n (λ i. g (0 + i))) both none
    ∙ sum_below-same n (λ i. g (0 + i)) g (λ i lt. ap g (zero-add i))

-- ---- the effect of a label

-- it is the number's, over the scale
pub effect_is : (lts : System) (tree : List Arc) (basis : CycleBasis) (start : Ratio) (value : ℕ → Ratio) (first : ℤ) (effect : ℕ → ℤ) (scale : ℤ) (t : ℕ) (h : Ratio)
    → IsBasis lts tree basis → AreEffects lts tree basis effect → AreValuesOf lts basis start value first effect scale → t < labels lts
    → effect_fold lts basis value t (Ok h) → IsOver scale h (effect t) × (pos 0 <ℤ h.bottom)
effect_is lts tree basis start value first effect scale t h is e v lt fold =
    ⊎_elim used (λ none. unused none (subst (λ b. effect_by b (is_in basis.members t)) none fold)) (cases_Bool (has_label t lts.arcs))
  where
    term : ℕ → Result Ratio Wide → Type 0
    term f = and_then (quotient ((basis.relation t).coefficient f) (basis.relation t).d) (λ k. mul (value f) k)

    effect_by : Bool → Bool → Type 0
    effect_by label member = Rattle.rg_folds.specs.Fold.either (not label) (Rattle.rg_folds.specs.Fold.gives (whole (pos 0)))
        (Rattle.rg_folds.specs.Fold.either member (Rattle.rg_folds.specs.Fold.gives (value t))
        (joined add term (whole (pos 0)) (free_columns lts basis))) (Ok h)

    unused : has_label t lts.arcs ≡ false → h ≡ whole (pos 0) → IsOver scale h (effect t) × (pos 0 <ℤ h.bottom)
    unused none same =
        (subst (λ (r : Ratio). IsOver scale r (effect t)) (sym same) (close scale (effect t) (e.unused t none)), subst (λ (r : Ratio). pos 0 <ℤ r.bottom) (sym same) (omega (arith, ints)))
      where
        close : (s z : ℤ) → z ≡ pos 0 → pos 0 *ℤ s ≡ z *ℤ pos 1
        close s z p = omega (arith, ints)

    free : has_label t lts.arcs ≡ true → is_in basis.members t ≡ true → h ≡ value t → IsOver scale h (effect t) × (pos 0 <ℤ h.bottom)
    free label member same =
        let has = where_has (λ t. is_in basis.members t && has_label t lts.arcs) 0 (labels lts) t (and_from (is_in basis.members t) (has_label t lts.arcs) member label) (omega arith) (omega arith) in
        (subst (λ (r : Ratio). IsOver scale r (effect t)) (sym same) (v.values t has), subst (λ (r : Ratio). pos 0 <ℤ r.bottom) (sym same) (v.bottoms t has))

    dependent : is_in basis.members t ≡ false → joined add term (whole (pos 0)) (free_columns lts basis) (Ok h) → IsOver scale h (effect t) × (pos 0 <ℤ h.bottom)
    dependent outside sum =
        let out : ¬ Contains basis.members t = λ has. true≢false (sym (has_in basis.members t has) ∙ outside) in
        let row = is.relations t lt out in
        let d = (basis.relation t).d in
        let (over, positive) = joined_over (scale *ℤ d) term (λ f. effect f *ℤ (basis.relation t).coefficient f) h (free_columns lts basis) sum
        (λ f k has (q, divided, product). (product_over scale (effect f) ((basis.relation t).coefficient f) d (value f) q k (v.values f has) divided product, product.2.positive)) in
        let total = where_sum (λ f. is_in basis.members f && has_label f lts.arcs) (λ f. effect f *ℤ (basis.relation t).coefficient f) (labels lts) (λ f lt' fails. none f (row.over f) fails)
        ∙ sum_below-same (labels lts) (λ f. effect f *ℤ (basis.relation t).coefficient f) (λ f. (basis.relation t).coefficient f *ℤ effect f)
        (λ f lt'. *ℤ_comm (effect f) ((basis.relation t).coefficient f))
        ∙ sym (e.follows t (basis.relation t) lt row) in (
          mul-cancel (h.top *ℤ scale) (effect t *ℤ h.bottom) d (positive_differs d row.positive)
              (mul_assoc h.top scale d ∙ over ∙ ap (λ z. z *ℤ h.bottom) total ∙ mul_rotate d (effect t) h.bottom),
          positive,
        )
      where
        times_zero : (z k : ℤ) → k ≡ pos 0 → z *ℤ k ≡ pos 0
        times_zero z k p = ap (λ y. z *ℤ y) p ∙ *ℤ-zero z

        zero_times : (z k : ℤ) → z ≡ pos 0 → z *ℤ k ≡ pos 0
        zero_times z k p = *ℤ_comm z k ∙ times_zero k z p

        none : (f : ℕ) → (¬ Contains basis.members f → (basis.relation t).coefficient f ≡ pos 0) → (is_in basis.members f && has_label f lts.arcs) ≡ false
            → effect f *ℤ (basis.relation t).coefficient f ≡ pos 0
        none f over fails = ⊎_elim
            (λ member. zero_times (effect f) ((basis.relation t).coefficient f)
            (e.unused f (⊎_elim (λ label. absurd (true≢false (sym (and_from (is_in basis.members f) (has_label f lts.arcs) member label) ∙ fails))) (λ label. label)
            (cases_Bool (has_label f lts.arcs)))))
            (λ outside'. times_zero (effect f) ((basis.relation t).coefficient f) (over (λ has. true≢false (sym (has_in basis.members f has) ∙ outside'))))
            (cases_Bool (is_in basis.members f))

    used : has_label t lts.arcs ≡ true → IsOver scale h (effect t) × (pos 0 <ℤ h.bottom)
    used label =
        let by = subst (λ b. effect_by b (is_in basis.members t)) label fold in
        ⊎_elim (λ member. free label member (subst (λ b. effect_by true b) member by)) (λ outside. dependent outside (subst (λ b. effect_by true b) outside by)) (cases_Bool (is_in basis.members t))
