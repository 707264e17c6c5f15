-- Multiplied by the least common multiple of their bottoms, fractions are whole; and a row is a positive multiple of its expression.
use Rattle.std.proofs.Common.{◌≡◌, ◌≢◌, List, [], ◌∷◌, map, Ok, ap, ap₂, subst, sym, ◌∙◌, arith}
use Rattle.std.specs.Prelude.{ℤ, pos, ◌+ℤ◌, ◌-ℤ◌, ◌*ℤ◌, unsigned_abs, int_div}
use Rattle.std.proofs.lemmas.Int.{ints}
use Rattle.std.proofs.Math.Nat.{one-dvd}
use Rattle.rg_integers.specs.Sum.{dot}
use Rattle.rg_integers.proofs.Ring.{ring, add-mul, mul_assoc}
use Rattle.rg_integers.specs.Divisor.{int_gcd}
use Rattle.rg_integers.proofs.Divisors.{gcd_of-is, exact}
use Rattle.rg_folds.specs.Fold.{gives, each, further, Ratio, whole, IsRatio, mul, common_multiple, multiple_of_all}
use Rattle.rg_case_folds.specs.Rewriting.{Scaled, scaled_fold}
use Rattle.rg_folds.proofs.FoldLemmas.{ratio_one}
use Rattle.rg_case_folds.proofs.Products.{less_nothing, mul_last_in, by_one_more, once, both_nothing, mul_right_comm}
use Rattle.rg_case_folds.proofs.RowValues.{IsOver}

-- ---- common multiples

abbrev pub Divides : ℤ → ℤ → Type 0
Divides d m = (q : ℤ) × (m ≡ d *ℤ q)

abbrev pub AllDivide : List ℤ → ℤ → Type 0
AllDivide [] m = Unit {0}
AllDivide (d ∷ ds) m = Divides d m × AllDivide ds m

pub multiple_divides : (x y z : ℤ) → common_multiple x y (Ok z) → Divides x z × Divides y z
multiple_divides x y z (_, is) =
    let g = int_gcd x y in
    let gcd = gcd_of-is (unsigned_abs x) (unsigned_abs y) in
    let ex : int_div x (int_gcd x y) *ℤ int_gcd x y ≡ x = exact x (int_gcd x y) gcd.0 in
    let ey : int_div y (int_gcd x y) *ℤ int_gcd x y ≡ y = exact y (int_gcd x y) gcd.1 in
    ((int_div y (int_gcd x y), is ∙ left (int_div x (int_gcd x y)) (int_div y (int_gcd x y)) (int_gcd x y) x y ex ey), (int_div x (int_gcd x y), is ∙ right (int_div x (int_gcd x y)) y))
  where
    right : (a y : ℤ) → (a *ℤ y) -ℤ (pos 0 *ℤ pos 0) ≡ y *ℤ a
    right a y = omega (arith, ints)

    left : (a b g x y : ℤ) → a *ℤ g ≡ x → b *ℤ g ≡ y → (a *ℤ y) -ℤ (pos 0 *ℤ pos 0) ≡ x *ℤ b
    left a b g x y p q = less_nothing a y ∙ ap (λ z. a *ℤ z) (sym q) ∙ mul_last_in a b g ∙ ap (λ z. z *ℤ b) p

divides_on : (d m n : ℤ) → Divides d m → Divides m n → Divides d n
divides_on d m n (q, e) (r, f) = (q *ℤ r, f ∙ ap (λ z. z *ℤ r) e ∙ mul_assoc d q r)

further_divides : (sum m : ℤ) (ds : List ℤ) → further common_multiple gives sum ds (Ok m) → Divides sum m × AllDivide ds m
further_divides sum m [] e = ((pos 1, e ∙ by_one_more sum), tt)
further_divides sum m (d ∷ ds) (x, is, (more, multiple, rest)) =
    let (one, others) = further_divides more m ds rest in
    let (a, b) = multiple_divides sum x more multiple in
    (divides_on sum more m a one, (subst (λ z. Divides z m) is (divides_on x more m b one), others))

pub all_divide : (ds : List ℤ) (m : ℤ) → multiple_of_all ds (Ok m) → AllDivide ds m
all_divide [] m h = tt
all_divide (d ∷ ds) m (x, is, rest) = let (one, others) = further_divides x m ds rest in (subst (λ z. Divides z m) is one, others)

-- ---- products that are whole

pub whole_ratio : (z n d : ℤ) → d ≢ pos 0 → z *ℤ d ≡ n → IsRatio (whole z) n d
whole_ratio z n d ne e = record { nonzero = ne; positive = omega (arith, ints); reduced = (one-dvd _, one-dvd _, λ k p q. q); value = e ∙ by_one_more n }

-- a multiple of the bottom makes a fraction whole
pub product_whole : (r p : Ratio) (m q : ℤ) → m ≡ r.bottom *ℤ q → mul r (whole m) (Ok p) → p ≡ whole (r.top *ℤ q)
product_whole r p m q e (_, _, is) =
    ratio_one p (whole (r.top *ℤ q)) (r.top *ℤ m) (r.bottom *ℤ pos 1) is (whole_ratio (r.top *ℤ q) (r.top *ℤ m) (r.bottom *ℤ pos 1) is.nonzero (turn r.top q r.bottom ∙ ap (λ z. r.top *ℤ z) (sym e)))
  where
    turn : (t q b : ℤ) → (t *ℤ q) *ℤ (b *ℤ pos 1) ≡ t *ℤ (b *ℤ q)
    turn t q b = simp ring

pub whole_product_is : (c m : ℤ) (p : Ratio) → mul (whole c) (whole m) (Ok p) → p.top ≡ c *ℤ m
whole_product_is c m p h = ap (λ (r : Ratio). r.top) (product_whole (whole c) p m m (once m) h)

abbrev pub AllOver : ℤ → List Ratio → List ℤ → Type 0
AllOver b [] [] = Unit {0}
AllOver b [] (x ∷ xs) = ⊥
AllOver b (r ∷ rs) [] = ⊥
AllOver b (r ∷ rs) (x ∷ xs) = IsOver b r x × AllOver b rs xs

products_dot : (b m : ℤ) (rs : List Ratio) (xs vs : List ℤ) (ps : List Ratio) → AllOver b rs xs → AllDivide (map (λ r. r.bottom) rs) m
    → each (λ r. mul r (whole m)) rs (Ok ps) → dot (map (λ r. r.top) ps) vs *ℤ b ≡ dot xs vs *ℤ m
products_dot b m [] [] vs ps over d e = rw e (both_nothing b m)
products_dot b m [] (x ∷ xs) vs ps over d e = absurd over
products_dot b m (r ∷ rs) [] vs ps over d e = absurd over
products_dot b m (r ∷ rs) (x ∷ xs) [] ps over d (p, is, (rest, each_is, e)) = rw e (both_nothing b m)
products_dot b m (r ∷ rs) (x ∷ xs) (v ∷ vs) ps (here, over) ((q, div), d) (p, is, (rest, each_is, e)) =
    let ih = products_dot b m rs xs vs rest over d each_is in
    let top : p.top ≡ r.top *ℤ q = ap (λ (z : Ratio). z.top) (product_whole r p m q div is) in
    let one : p.top *ℤ b ≡ x *ℤ m = ap (λ z. z *ℤ b) top ∙ mul_right_comm r.top q b ∙ ap (λ z. z *ℤ q) here ∙ mul_assoc x r.bottom q ∙ ap (λ z. x *ℤ z) (sym div) in
    ap (λ (l : List Ratio). dot (map (λ z. z.top) l) (v ∷ vs) *ℤ b) e ∙ close p.top v (dot (map (λ z. z.top) rest) vs) b x m (dot xs vs) one ih
  where
    close : (p v s b x m t : ℤ) → p *ℤ b ≡ x *ℤ m → s *ℤ b ≡ t *ℤ m → ((p *ℤ v) +ℤ s) *ℤ b ≡ ((x *ℤ v) +ℤ t) *ℤ m
    close p v s b x m t f g = add-mul (p *ℤ v) s b ∙ ap₂ ◌+ℤ◌ (mul_right_comm p v b ∙ ap (λ z. z *ℤ v) f ∙ mul_right_comm x m v) g ∙ sym (add-mul (x *ℤ v) t m)

-- numbers without denominators have the values of the fractions, times the multiple
pub scaled_dot : (b : ℤ) (rs : List Ratio) (xs vs : List ℤ) (scaled : Scaled) → AllOver b rs xs → scaled_fold rs (Ok scaled) → dot scaled.numbers vs *ℤ b ≡ dot xs vs *ℤ scaled.multiple
scaled_dot b rs xs vs scaled over (m, multiple, (ps, products, e)) =
    subst (λ (s : Scaled). dot s.numbers vs *ℤ b ≡ dot xs vs *ℤ s.multiple) (sym e) (products_dot b m rs xs vs ps over (all_divide (map (λ r. r.bottom) rs) m multiple) products)
