-- What a named row is worth, and what its folds make of it.
use Rattle.std.proofs.Common.{◌≡◌, ◌≢◌, ℕ, suc, ◌==◌, if◌then◌else◌, List, [], ◌∷◌, Result, Ok, Contains, ap, ap₂, refl, subst, sym, ◌∙◌, arith}
use Rattle.std.specs.Prelude.{ℤ, pos, ◌+ℤ◌, ◌*ℤ◌}
use Rattle.std.proofs.lemmas.Int.{ints}
use Rattle.rg_theory.specs.declared.Arc.{Arc}
use Rattle.rg_theory.specs.System.{System, labels}
use Rattle.rg_cert_meaning.specs.Expression.{Term, value_in}
use Rattle.rg_cert_meaning.specs.declared.Variable.{Variable}
use Rattle.rg_integers.specs.Sum.{sum_below, sum_over}
use Rattle.rg_integers.proofs.Ring.{ring, add-mul, mul_assoc, one-mul}
use Rattle.rg_integers.proofs.Order.{mul-cancel}
use Rattle.rg_integers.proofs.Sums.{sum_below-same, sum_below-zero, sum_below-plus, sum_below-times, sum_below-at}
use Rattle.rg_integers.specs.declared.term.Wide.{Wide}
use Rattle.rg_folds.specs.Fold.{further, Ratio, whole, quotient, add, mul}
use Rattle.rg_theory.specs.Tree.{parikh}
use Rattle.rg_linear.specs.Cycle.{CycleBasis}
use Rattle.rg_folds.specs.Substitution.{dependent_term, coefficient_fold, dependent_labels}
use Rattle.rg_case_folds.specs.Rewriting.{variable_start, variable_count, start_of, count_of}
use Rattle.rg_case_folds.specs.Values.{NamesLabels, numbers_along}
use Rattle.std.proofs.Math.IntN.{zero-*ℤ}
use Rattle.rg_case_folds.proofs.Products.{mul_right_comm, grouped, and_nothing}
use Rattle.rg_cert_meaning.specs.declared.Variable.TheVariants.{Tokens, Effect}

-- ---- the expression over Start and all labels

-- what one variable is worth
variable_value : (lts : System) (tree : List Arc) (start : ℤ) (effect : ℕ → ℤ) (c : ℤ) (v : Variable) (rest : List Term)
    → NamesLabels (labels lts) (record { coefficient = c; variable = v } ∷ rest) → numbers_along lts tree start effect v ≡ (variable_start v *ℤ start) +ℤ sum_below
    (labels lts) (λ t. variable_count tree v t *ℤ effect t)
variable_value lts tree start effect c (Tokens q) rest names = close start (sum_below (labels lts) (λ t. pos (parikh tree q t) *ℤ effect t))
  where
    close : (z s : ℤ) → z +ℤ s ≡ (pos 1 *ℤ z) +ℤ s
    close z s = omega (arith, ints)
variable_value lts tree start effect c (Effect u) rest names =
    close start (effect u) (sum_below (labels lts) (λ t. (if t == u then pos 1 else pos 0) *ℤ effect t)) (sum_below-at (labels lts) u (pos 1) effect names.0 ∙ one-mul (effect u))
  where
    close : (z e s : ℤ) → s ≡ e → e ≡ (pos 0 *ℤ z) +ℤ s
    close z e s p = omega (arith, ints)

names_rest : (n : ℕ) (t : Term) (rest : List Term) → NamesLabels n (t ∷ rest) → NamesLabels n rest
names_rest n t rest names = go t.variable names
  where
    go : (v : Variable) → NamesLabels n (record { coefficient = t.coefficient; variable = v } ∷ rest) → NamesLabels n rest
    go (Tokens q) h = h
    go (Effect u) h = h.1

-- by M(q) = Start + the sum of parikh(q)[t] * E(t), an expression is worth its coefficient of Start and its counts
pub rewritten : (lts : System) (tree : List Arc) (start : ℤ) (effect : ℕ → ℤ) (terms : List Term) → NamesLabels (labels lts) terms
    → value_in (numbers_along lts tree start effect) terms ≡ (start_of terms *ℤ start) +ℤ sum_below (labels lts) (λ t. count_of tree terms t *ℤ effect t)
rewritten lts tree start effect [] names = close start (sum_below (labels lts) (λ t. pos 0 *ℤ effect t)) (sum_below-zero (labels lts) (λ t. pos 0 *ℤ effect t) (λ t lt. zero-*ℤ (effect t)))
  where
    close : (z s : ℤ) → s ≡ pos 0 → pos 0 ≡ (pos 0 *ℤ z) +ℤ s
    close z s e = omega (arith, ints)
rewritten lts tree start effect (t ∷ terms) names =
    let n = labels lts in
    let here = variable_value lts tree start effect t.coefficient t.variable terms names in
    let rest = rewritten lts tree start effect terms (names_rest (labels lts) t terms names) in
    let sums : sum_below (labels lts) (λ u. ((t.coefficient *ℤ variable_count tree t.variable u) +ℤ count_of tree terms u) *ℤ effect u)
    ≡ (t.coefficient *ℤ sum_below (labels lts) (λ u. variable_count tree t.variable u *ℤ effect u))
    +ℤ sum_below (labels lts) (λ u. count_of tree terms u *ℤ effect u) =
    sum_below-same (labels lts) (λ u. ((t.coefficient *ℤ variable_count tree t.variable u) +ℤ count_of tree terms u) *ℤ effect u)
    (λ u. (t.coefficient *ℤ (variable_count tree t.variable u *ℤ effect u)) +ℤ (count_of tree terms u *ℤ effect u))
    (λ u lt. spread t.coefficient (variable_count tree t.variable u) (count_of tree terms u) (effect u))
    ∙ sum_below-plus (labels lts) (λ u. t.coefficient *ℤ (variable_count tree t.variable u *ℤ effect u)) (λ u. count_of tree terms u *ℤ effect u)
    ∙ ap (λ z. z +ℤ sum_below (labels lts) (λ u. count_of tree terms u *ℤ effect u)) (sum_below-times (labels lts) t.coefficient (λ u. variable_count tree t.variable u *ℤ effect u)) in
    ap₂ (λ a b. (t.coefficient *ℤ a) +ℤ b) here rest
    ∙ close t.coefficient (variable_start t.variable) start (sum_below (labels lts) (λ u. variable_count tree t.variable u *ℤ effect u))
    (start_of terms) (sum_below (labels lts) (λ u. count_of tree terms u *ℤ effect u))
    ∙ ap (λ z. (((t.coefficient *ℤ variable_start t.variable) +ℤ start_of terms) *ℤ start) +ℤ z) (sym sums)
  where
    spread : (c v k e : ℤ) → ((c *ℤ v) +ℤ k) *ℤ e ≡ (c *ℤ (v *ℤ e)) +ℤ (k *ℤ e)
    spread c v k e = add-mul (c *ℤ v) k e ∙ ap (λ z. z +ℤ (k *ℤ e)) (mul_assoc c v e)

    close : (c v z s a b : ℤ) → (c *ℤ ((v *ℤ z) +ℤ s)) +ℤ ((a *ℤ z) +ℤ b) ≡ (((c *ℤ v) +ℤ a) *ℤ z) +ℤ ((c *ℤ s) +ℤ b)
    close c v z s a b = simp ring (omega (arith, ints))

-- ---- what the steps are worth, over one bottom

-- f is x over b
abbrev pub IsOver : ℤ → Ratio → ℤ → Type 0
IsOver b f x = f.top *ℤ b ≡ x *ℤ f.bottom

pub add_over : (b : ℤ) (f g h : Ratio) (x y : ℤ) → add f g (Ok h) → IsOver b f x → IsOver b g y → IsOver b h (x +ℤ y)
add_over b f g h x y (_, _, r) p q = sum b f.top f.bottom g.top g.bottom h.top h.bottom x y r.nonzero r.value p q
  where
    sum : (b n d m e t u x y : ℤ) → (d *ℤ e) ≢ pos 0 → t *ℤ (d *ℤ e) ≡ ((n *ℤ e) +ℤ (m *ℤ d)) *ℤ u → n *ℤ b ≡ x *ℤ d → m *ℤ b ≡ y *ℤ e → t *ℤ b ≡ (x +ℤ y) *ℤ u
    sum b n d m e t u x y ne v p q = mul-cancel (t *ℤ b) ((x +ℤ y) *ℤ u) (d *ℤ e) ne
        (mul_right_comm t b (d *ℤ e) ∙ ap (λ z. z *ℤ b) v ∙ spread_out n e m d u b ∙ ap₂ (λ a c. (a *ℤ (e *ℤ u)) +ℤ (c *ℤ (d *ℤ u))) p q ∙ shut x y d e u)
      where
        spread_out : (n e m d u b : ℤ) → (((n *ℤ e) +ℤ (m *ℤ d)) *ℤ u) *ℤ b ≡ ((n *ℤ b) *ℤ (e *ℤ u)) +ℤ ((m *ℤ b) *ℤ (d *ℤ u))
        spread_out n e m d u b = simp ring (omega (arith, ints))

        shut : (x y d e u : ℤ) → ((x *ℤ d) *ℤ (e *ℤ u)) +ℤ ((y *ℤ e) *ℤ (d *ℤ u)) ≡ ((x +ℤ y) *ℤ u) *ℤ (d *ℤ e)
        shut x y d e u = simp ring (omega (arith, ints))

pub times_over : (b c : ℤ) (k h : Ratio) (y : ℤ) → mul (whole c) k (Ok h) → IsOver b k y → IsOver b h (c *ℤ y)
times_over b c k h y (_, _, r) q = product b c k.top k.bottom h.top h.bottom y r.nonzero r.value q
  where
    product : (b c m e t u y : ℤ) → (pos 1 *ℤ e) ≢ pos 0 → t *ℤ (pos 1 *ℤ e) ≡ (c *ℤ m) *ℤ u → m *ℤ b ≡ y *ℤ e → t *ℤ b ≡ (c *ℤ y) *ℤ u
    product b c m e t u y ne v q =
        mul-cancel (t *ℤ b) ((c *ℤ y) *ℤ u) (pos 1 *ℤ e) ne (mul_right_comm t b (pos 1 *ℤ e) ∙ ap (λ z. z *ℤ b) v ∙ spread_out c m u b ∙ ap (λ z. z *ℤ (c *ℤ u)) q ∙ shut y e c u)
      where
        spread_out : (c m u b : ℤ) → ((c *ℤ m) *ℤ u) *ℤ b ≡ (m *ℤ b) *ℤ (c *ℤ u)
        spread_out c m u b = simp ring

        shut : (y e c u : ℤ) → (y *ℤ e) *ℤ (c *ℤ u) ≡ ((c *ℤ y) *ℤ u) *ℤ (pos 1 *ℤ e)
        shut y e c u = simp ring

pub quotient_over : (n d q : ℤ) (k : Ratio) → quotient n d (Ok k) → IsOver (d *ℤ q) k (n *ℤ q)
quotient_over n d q k r = grouped k.top d q ∙ ap (λ z. z *ℤ q) r.value ∙ mul_right_comm n k.bottom q

pub whole_over : (b c : ℤ) → IsOver b (whole c) (c *ℤ b)
whole_over b c = omega (arith, ints)

pub further_over : (b : ℤ) (make : ℕ → Result Ratio Wide → Type 0) (y : ℕ → ℤ) (f h : Ratio) (x : ℤ) (ts : List ℕ) → further add make f ts (Ok h) → IsOver b f x
    → ((t : ℕ) (k : Ratio) → Contains ts t → make t (Ok k) → IsOver b k (y t)) → IsOver b h (x +ℤ sum_over y ts)
further_over b make y f h x [] e p each_over = subst (λ (g : Ratio). IsOver b g (x +ℤ pos 0)) (sym e) (p ∙ ap (λ z. z *ℤ f.bottom) (and_nothing x))
further_over b make y f h x (t ∷ ts) (k, made, (g, added, rest)) p each_over =
    let here = add_over b f k g x (y t) added p (each_over t k (0, omega arith, refl) made) in
    let whole_sum = further_over b make y g h (x +ℤ y t) ts rest here (λ u l has made'. each_over u l (later u has) made') in
    whole_sum ∙ ap (λ z. z *ℤ h.bottom) (assoc x (y t) (sum_over y ts))
  where
    later : (u : ℕ) → Contains ts u → Contains (t ∷ ts) u
    later u (i, lt, e) = (suc i, omega arith, e)

    assoc : (x y z : ℤ) → (x +ℤ y) +ℤ z ≡ x +ℤ (y +ℤ z)
    assoc x y z = omega (arith, ints)

-- the coefficient of the free label f is worth its own count, and what the dependent labels add; b is a multiple of each d
pub coefficient_over : (lts : System) (basis : CycleBasis) (counts : ℕ → ℤ) (f : ℕ) (h : Ratio) (b : ℤ) (part : ℕ → ℤ)
    → ((t : ℕ) → Contains (dependent_labels (labels lts) basis) t → b ≡ (basis.relation t).d *ℤ part t) → coefficient_fold (labels lts) basis counts f (Ok h)
    → IsOver b h ((counts f *ℤ b) +ℤ sum_over (λ t. counts t *ℤ ((basis.relation t).coefficient f *ℤ part t)) (dependent_labels (labels lts) basis))
coefficient_over lts basis counts f h b part divides fold =
    further_over b (dependent_term basis counts f) (λ t. counts t *ℤ ((basis.relation t).coefficient f *ℤ part t)) (whole (counts f)) h
    (counts f *ℤ b) (dependent_labels (labels lts) basis) fold (whole_over b (counts f)) made
  where
    made : (t : ℕ) (k : Ratio) → Contains (dependent_labels (labels lts) basis) t → dependent_term basis counts f t (Ok k) → IsOver b k (counts t *ℤ ((basis.relation t).coefficient f *ℤ part t))
    made t k has (q, is, product) = times_over b (counts t) q k ((basis.relation t).coefficient f *ℤ part t) product
        (subst (λ z. IsOver z q ((basis.relation t).coefficient f *ℤ part t)) (sym (divides t has))
        (quotient_over ((basis.relation t).coefficient f) (basis.relation t).d (part t) q is))
