-- Terms with the opposite signs have the same denominators.
use Rattle.std.proofs.Common.{◌≡◌, ℕ, Bool, true, false, if◌then◌else◌, List, [], ◌∷◌, ◌++◌, map, Ok, ap, ap₂, refl, subst, sym, ◌∙◌, arith}
use Rattle.std.specs.Prelude.{ℤ, pos, negsuc, neg_ℤ, ◌+ℤ◌, ◌*ℤ◌, unsigned_abs}
use Rattle.std.specs.Int.{IsGcd}
use Rattle.std.proofs.lemmas.Int.{ints}
use Rattle.rg_theory.specs.declared.Class.{Class}
use Rattle.rg_theory.specs.System.{System, labels}
use Rattle.rg_integers.proofs.Ring.{ring, neg-mul}
use Rattle.rg_linear.specs.Cycle.{CycleBasis}
use Rattle.rg_cert_meaning.specs.Expression.{plus, minus}
use Rattle.rg_cert_meaning.specs.declared.Variable.{Variable}
use Rattle.rg_case_folds.specs.Setting.{Setting}
use Rattle.rg_folds.specs.Fold.{each, further, Ratio, whole, IsRatio, add, mul, multiple_of_all}
use Rattle.rg_folds.specs.Substitution.{free_labels, dependent_labels, dependent_term, coefficient_fold}
use Rattle.rg_case_folds.specs.Rewriting.{has_label, variable_count, start_of, count_of, has_start, pick, columns_of, Scaled, terms_fold}
use Rattle.rg_case_folds.specs.Placing.{negated}
use Rattle.rg_folds.proofs.FoldLemmas.{ratio_one, multiple_one}

-- ---- fractions

negated_ratio : (f : Ratio) (n d : ℤ) → IsRatio f n d → IsRatio (negated f) (neg_ℤ n) d
negated_ratio f n d h = record {
  nonzero = h.nonzero;
  positive = h.positive;
  reduced = subst (λ (a : ℕ). IsGcd a (unsigned_abs f.bottom) 1) (size f.top) h.reduced;
  value = turn f.top d n f.bottom h.value;
}
  where
    size : (z : ℤ) → unsigned_abs z ≡ unsigned_abs (neg_ℤ z)
    size z = omega (arith, ints)

    turn : (t d n b : ℤ) → t *ℤ d ≡ n *ℤ b → neg_ℤ t *ℤ d ≡ neg_ℤ n *ℤ b
    turn t d n b e = neg-mul t d ∙ ap neg_ℤ e ∙ sym (neg-mul n b)

negated_product : (c : ℤ) (k p p' : Ratio) → mul (whole c) k (Ok p) → mul (whole (neg_ℤ c)) k (Ok p') → p' ≡ negated p
negated_product c k p p' (_, _, is) (_, _, is') =
    ratio_one p' (negated p) (neg_ℤ c *ℤ k.top) (pos 1 *ℤ k.bottom) is' (subst (λ n. IsRatio (negated p) n (pos 1 *ℤ k.bottom)) (turn c k.top) (negated_ratio p (c *ℤ k.top) (pos 1 *ℤ k.bottom) is))
  where
    turn : (c t : ℤ) → neg_ℤ (c *ℤ t) ≡ neg_ℤ c *ℤ t
    turn c t = simp ring

negated_sum : (f g s s' : Ratio) → add f g (Ok s) → add (negated f) (negated g) (Ok s') → s' ≡ negated s
negated_sum f g s s' (_, _, is) (_, _, is') = ratio_one s' (negated s) ((neg_ℤ f.top *ℤ g.bottom) +ℤ (neg_ℤ g.top *ℤ f.bottom)) (f.bottom *ℤ g.bottom) is'
    (subst (λ n. IsRatio (negated s) n (f.bottom *ℤ g.bottom)) (turn f.top g.bottom g.top f.bottom)
    (negated_ratio s ((f.top *ℤ g.bottom) +ℤ (g.top *ℤ f.bottom)) (f.bottom *ℤ g.bottom) is))
  where
    turn : (a b c d : ℤ) → neg_ℤ ((a *ℤ b) +ℤ (c *ℤ d)) ≡ (neg_ℤ a *ℤ b) +ℤ (neg_ℤ c *ℤ d)
    turn a b c d = outer (a *ℤ b) (c *ℤ d) ∙ ap₂ ◌+ℤ◌ (inner a b) (inner c d)
      where
        outer : (x y : ℤ) → neg_ℤ (x +ℤ y) ≡ neg_ℤ x +ℤ neg_ℤ y
        outer x y = omega (arith, ints)

        inner : (x y : ℤ) → neg_ℤ (x *ℤ y) ≡ neg_ℤ x *ℤ y
        inner x y = simp ring

-- ---- coefficients

module _ (labels : ℕ) (basis : CycleBasis) (counts counts' : ℕ → ℤ) (opposite : (t : ℕ) → counts' t ≡ neg_ℤ (counts t)) where
  negated_term : (f t : ℕ) (p p' : Ratio) → dependent_term basis counts f t (Ok p) → dependent_term basis counts' f t (Ok p') → p' ≡ negated p
  negated_term f t p p' (k, is, product) (k', is', product') =
      negated_product (counts t) k p p' product
      (subst (λ (r : Ratio). mul (whole (neg_ℤ (counts t))) r (Ok p')) (ratio_one k' k ((basis.relation t).coefficient f) (basis.relation t).d is' is)
      (subst (λ c. mul (whole c) k' (Ok p')) (opposite t) product'))

  negated_further : (f : ℕ) (ts : List ℕ) (s s' h h' : Ratio) → s' ≡ negated s → further add (dependent_term basis counts f) s ts (Ok h)
      → further add (dependent_term basis counts' f) s' ts (Ok h') → h' ≡ negated h
  negated_further f [] s s' h h' same e e' = e' ∙ same ∙ ap negated (sym e)
  negated_further f (t ∷ ts) s s' h h' same (p, made, (more, sum, rest)) (p', made', (more', sum', rest')) =
      negated_further f ts more more' h h' (negated_sum s p more more' sum
      (subst (λ (r : Ratio). add (negated s) r (Ok more')) (negated_term f t p p' made made') (subst (λ (r : Ratio). add r p' (Ok more')) same sum'))) rest rest'

  negated_coefficient : (f : ℕ) (h h' : Ratio) → coefficient_fold labels basis counts f (Ok h) → coefficient_fold labels basis counts' f (Ok h') → h' ≡ negated h
  negated_coefficient f h h' fold fold' = negated_further f (dependent_labels labels basis) (whole (counts f)) (whole (counts' f)) h h' (ap whole (opposite f)) fold fold'

  negated_all : (fs : List ℕ) (rs rs' : List Ratio) → each (coefficient_fold labels basis counts) fs (Ok rs) → each (coefficient_fold labels basis counts') fs (Ok rs') → rs' ≡ map negated rs
  negated_all [] rs rs' e e' = e' ∙ sym (ap (map negated) e)
  negated_all (f ∷ fs) rs rs' (h, is, (rest, more, e)) (h', is', (rest', more', e')) =
      e'
      ∙ ap₂ ◌∷◌ (negated_coefficient f h h' is is') (negated_all fs rest rest' more more')
      ∙ sym (ap (map negated) e)

-- ---- the denominators

bottoms_picked : (test : ℕ → Bool) (fs : List ℕ) (rs : List Ratio) → map (λ (r : Ratio). r.bottom) (pick test fs (map negated rs)) ≡ map (λ (r : Ratio). r.bottom) (pick test fs rs)
bottoms_picked test [] rs = refl
bottoms_picked test (f ∷ fs) [] = refl
bottoms_picked test (f ∷ fs) (r ∷ rs) = go (test f) (bottoms_picked test fs rs)
  where
    go : (b : Bool) → map (λ (r : Ratio). r.bottom) (pick test fs (map negated rs)) ≡ map (λ (r : Ratio). r.bottom) (pick test fs rs)
        → map (λ (r : Ratio). r.bottom) (if b then (negated r ∷ pick test fs (map negated rs)) else pick test fs (map negated rs)) ≡ map (λ (r : Ratio). r.bottom)
        (if b then (r ∷ pick test fs rs) else pick test fs rs)
    go true e = ap (λ l. r.bottom ∷ l) e
    go false e = e

bottoms_same : (lts : System) (basis : CycleBasis) (class : Class) (start start' : ℤ) (rs : List Ratio)
    → map (λ (r : Ratio). r.bottom) (columns_of lts basis class start' (map negated rs)) ≡ map (λ (r : Ratio). r.bottom) (columns_of lts basis class start rs)
bottoms_same lts basis class start start' rs = go (has_start class)
  where
    go : (b : Bool) → map (λ (r : Ratio). r.bottom)
        ((if b then (whole start' ∷ []) else []) ++ pick (λ t. has_label t lts.arcs) (free_labels (labels lts) basis) (map negated rs)) ≡ map (λ (r : Ratio). r.bottom)
        ((if b then (whole start ∷ []) else []) ++ pick (λ t. has_label t lts.arcs) (free_labels (labels lts) basis) rs)
    go true = ap (λ l. pos 1 ∷ l) (bottoms_picked (λ t. has_label t lts.arcs) (free_labels (labels lts) basis) rs)
    go false = bottoms_picked (λ t. has_label t lts.arcs) (free_labels (labels lts) basis) rs

-- a variable and its opposite are multiplied alike
pub same_multiple : (it : Setting) (v : Variable) (s s' : Scaled) → terms_fold it (plus v ∷ []) (Ok s) → terms_fold it (minus v ∷ []) (Ok s') → s'.multiple ≡ s.multiple
same_multiple it v s s' (free, substituted, (m, multiple, (ps, products, e))) (free', substituted', (m', multiple', (ps', products', e'))) =
    let negatives : free' ≡ map negated free =
    negated_all (labels it.lts) it.basis (count_of it.tree (plus v ∷ [])) (count_of it.tree (minus v ∷ []))
    (λ t. opposite (variable_count it.tree v t)) (free_labels (labels it.lts) it.basis) free free' substituted substituted' in
    let bottoms = ap (λ rs. map (λ (r : Ratio). r.bottom) (columns_of it.lts it.basis it.class (start_of (minus v ∷ [])) rs)) negatives
    ∙ bottoms_same it.lts it.basis it.class (start_of (plus v ∷ [])) (start_of (minus v ∷ [])) free in
    let one = (multiple_one (map (λ (r : Ratio). r.bottom) (columns_of it.lts it.basis it.class (start_of (plus v ∷ [])) free))).one (Ok m') (Ok m)
    (subst (λ ds. multiple_of_all ds (Ok m')) bottoms multiple') multiple in
    let same : m' ≡ m = cc in
    ap (λ (x : Scaled). x.multiple) e' ∙ same ∙ sym (ap (λ (x : Scaled). x.multiple) e)
  where
    opposite : (z : ℤ) → (negsuc 0 *ℤ z) +ℤ pos 0 ≡ neg_ℤ ((pos 1 *ℤ z) +ℤ pos 0)
    opposite z = omega (arith, ints)
