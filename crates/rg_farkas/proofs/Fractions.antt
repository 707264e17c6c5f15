-- Sums and products of fractions over common bottoms, and what a common multiple makes of fractions.
use Rattle.std.proofs.Common.{◌≡◌, ◌≢◌, suc, List, [], ◌∷◌, ◌++◌, map, Result, Ok, Contains, ap, ap₂, refl, subst, sym, ◌∙◌, arith}
use Rattle.std.specs.Prelude.{ℤ, pos, neg_ℤ, ◌+ℤ◌, ◌*ℤ◌, ◌<ℤ◌, int_div}
use Rattle.std.proofs.lemmas.Int.{ints}
use Rattle.rg_integers.specs.Sum.{sum_over}
use Rattle.rg_integers.proofs.Ring.{ring}
use Rattle.rg_integers.proofs.Order.{mul-cancel}
use Rattle.rg_integers.specs.declared.term.Wide.{Wide}
use Rattle.rg_folds.specs.Fold.{each, further, joined, Ratio, whole, add, mul}
use Rattle.rg_case_folds.specs.Placing.{negated}
use Rattle.rg_case_folds.specs.Rewriting.{Scaled, scaled_fold}
use Rattle.rg_case_folds.proofs.RowValues.{IsOver, add_over}
use Rattle.rg_case_folds.proofs.Scaling.{Divides, AllDivide, all_divide, product_whole}
use Rattle.rg_case_folds.proofs.Signs.{AllPositive, all_multiple}
use Rattle.rg_case_folds.proofs.ExactRows.{part_exact as part_is}

-- the product of x over b and y over c
pub product_over : (b c : ℤ) (f g h : Ratio) (x y : ℤ) → mul f g (Ok h) → IsOver b f x → IsOver c g y → IsOver (b *ℤ c) h (x *ℤ y)
product_over b c f g h x y (_, _, r) p q = product b c f.top f.bottom g.top g.bottom h.top h.bottom x y r.nonzero r.value p q
  where
    product : (b c n d m e t u x y : ℤ) → (d *ℤ e) ≢ pos 0 → t *ℤ (d *ℤ e) ≡ (n *ℤ m) *ℤ u → n *ℤ b ≡ x *ℤ d → m *ℤ c ≡ y *ℤ e → t *ℤ (b *ℤ c) ≡ (x *ℤ y) *ℤ u
    product b c n d m e t u x y ne v p q = mul-cancel (t *ℤ (b *ℤ c)) ((x *ℤ y) *ℤ u) (d *ℤ e) ne
        (turn t (b *ℤ c) (d *ℤ e) ∙ ap (λ z. z *ℤ (b *ℤ c)) v ∙ spread_out n m u b c ∙ ap₂ (λ w z. (w *ℤ z) *ℤ u) p q ∙ shut x d y e u)
      where
        turn : (t b k : ℤ) → (t *ℤ b) *ℤ k ≡ (t *ℤ k) *ℤ b
        turn t b k = simp ring

        spread_out : (n m u b c : ℤ) → ((n *ℤ m) *ℤ u) *ℤ (b *ℤ c) ≡ ((n *ℤ b) *ℤ (m *ℤ c)) *ℤ u
        spread_out n m u b c = simp ring

        shut : (x d y e u : ℤ) → ((x *ℤ d) *ℤ (y *ℤ e)) *ℤ u ≡ ((x *ℤ y) *ℤ u) *ℤ (d *ℤ e)
        shut x d y e u = simp ring

pub whole_over_one : (c : ℤ) → IsOver (pos 1) (whole c) c
whole_over_one c = refl

-- the sum of made fractions, each over b
pub further_sum : {A : Type 0} (b : ℤ) (make : A → Result Ratio Wide → Type 0) (y : A → ℤ) (f h : Ratio) (x : ℤ) (items : List A)
    → further add make f items (Ok h) → IsOver b f x → ((a : A) (k : Ratio) → Contains items a → make a (Ok k) → IsOver b k (y a)) → IsOver b h (x +ℤ sum_over y items)
further_sum b make y f h x [] e p over = subst (λ (g : Ratio). IsOver b g (x +ℤ pos 0)) (sym e) (p ∙ ap (λ z. z *ℤ f.bottom) (none x))
  where
    none : (x : ℤ) → x ≡ x +ℤ pos 0
    none x = omega (arith, ints)
further_sum {A} b make y f h x (a ∷ items) (k, made, (g, added, rest)) p over =
    let here = add_over b f k g x (y a) added p (over a k (0, omega arith, refl) made) in
    let all = further_sum b make y g h (x +ℤ y a) items rest here (λ u l has made'. over u l (later u has) made') in
    all ∙ ap (λ z. z *ℤ h.bottom) (assoc x (y a) (sum_over y items))
  where
    later : (u : A) → Contains items u → Contains (a ∷ items) u
    later u (i, lt, e) = (suc i, omega arith, e)

    assoc : (x y z : ℤ) → (x +ℤ y) +ℤ z ≡ x +ℤ (y +ℤ z)
    assoc x y z = omega (arith, ints)

pub joined_sum : {A : Type 0} (b : ℤ) (make : A → Result Ratio Wide → Type 0) (y : A → ℤ) (h : Ratio) (items : List A)
    → joined add make (whole (pos 0)) items (Ok h) → ((a : A) (k : Ratio) → Contains items a → make a (Ok k) → IsOver b k (y a)) → IsOver b h (sum_over y items)
joined_sum b make y h [] e over = subst (λ (g : Ratio). IsOver b g (pos 0)) (sym e) (zero b)
  where
    zero : (b : ℤ) → pos 0 *ℤ b ≡ pos 0 *ℤ pos 1
    zero b = omega (arith, ints)
joined_sum {A} b make y h (a ∷ items) (k, made, rest) over =
    further_sum b make y k h (y a) items rest (over a k (0, omega arith, refl) made) (λ u l (i, lt, e) made'. over u l (suc i, omega arith, e) made')

pub negated_over : (b : ℤ) (h : Ratio) (x : ℤ) → IsOver b h x → IsOver b (negated h) (neg_ℤ x)
negated_over b h x p = neg_times h.top b ∙ ap neg_ℤ p ∙ sym (neg_times x h.bottom)
  where
    neg_times : (t b : ℤ) → neg_ℤ t *ℤ b ≡ neg_ℤ (t *ℤ b)
    neg_times t b = simp ring

-- ---- fractions times a common multiple

-- the fraction times m, where that is whole
abbrev pub whole_in : ℤ → Ratio → ℤ
whole_in m r = r.top *ℤ int_div m r.bottom

pub whole_in_over : (m : ℤ) (r : Ratio) → Divides r.bottom m → IsOver m r (whole_in m r)
whole_in_over m r d = ap (λ z. r.top *ℤ z) (part_is r.bottom m d) ∙ turn r.top r.bottom (int_div m r.bottom)
  where
    turn : (t b q : ℤ) → t *ℤ (b *ℤ q) ≡ (t *ℤ q) *ℤ b
    turn t b q = simp ring

products_are : (m : ℤ) (rs ps : List Ratio) → AllDivide (map (λ r. r.bottom) rs) m → each (λ r. mul r (whole m)) rs (Ok ps) → map (λ r. r.top) ps ≡ map (whole_in m) rs
products_are m [] ps d e = ap (map (λ r. r.top)) e
products_are m (r ∷ rs) ps (d, ds) (p, is, (rest, each_is, e)) =
    ap (map (λ r. r.top)) e
    ∙ ap₂ (λ z l. z ∷ l) (ap (λ (q : Ratio). q.top) (product_whole r p m (int_div m r.bottom) (part_is r.bottom m d) is)) (products_are m rs rest ds each_is)

pub scaled_are : (rs : List Ratio) (scaled : Scaled) → scaled_fold rs (Ok scaled) → scaled.numbers ≡ map (whole_in scaled.multiple) rs
scaled_are rs scaled (m, multiple, (ps, products, e)) =
    subst (λ (s : Scaled). s.numbers ≡ map (whole_in s.multiple) rs) (sym e) (products_are m rs ps (all_divide (map (λ r. r.bottom) rs) m multiple) products)

pub scaled_divide : (rs : List Ratio) (scaled : Scaled) → scaled_fold rs (Ok scaled) → AllDivide (map (λ r. r.bottom) rs) scaled.multiple
scaled_divide rs scaled (m, multiple, (ps, products, e)) = subst (λ (s : Scaled). AllDivide (map (λ r. r.bottom) rs) s.multiple) (sym e) (all_divide (map (λ r. r.bottom) rs) m multiple)

pub scaled_positive : (rs : List Ratio) (scaled : Scaled) → AllPositive (map (λ r. r.bottom) rs) → scaled_fold rs (Ok scaled) → pos 0 <ℤ scaled.multiple
scaled_positive rs scaled positive (m, multiple, (ps, products, e)) = subst (λ (s : Scaled). pos 0 <ℤ s.multiple) (sym e) (all_multiple (map (λ r. r.bottom) rs) m positive multiple)

-- the bottoms of both lists
pub divide_both : (rs xs : List Ratio) (m : ℤ) → AllDivide (map (λ r. r.bottom) (rs ++ xs)) m → AllDivide (map (λ r. r.bottom) rs) m × AllDivide (map (λ r. r.bottom) xs) m
divide_both [] xs m d = (tt, d)
divide_both (r ∷ rs) xs m (here, d) = let (a, b) = divide_both rs xs m d in ((here, a), b)
