-- Numbers over a scale, along the tree and less the least of them.
use Rattle.std.proofs.Common.{◌≡◌, ◌≢◌, ⊎_elim, ◌⊎◌, ℕ, zero, suc, ◌*◌, ◌<◌, ◌==◌, Bool, true, false, if◌then◌else◌, List, [], ◌∷◌, ◌++◌, length, Contains, Ok, inl, inr, refl, sym, ap, ap₂, subst, ◌∙◌, arith}
use Rattle.std.specs.Prelude.{ℤ, pos, neg_ℤ, ◌+ℤ◌, ◌-ℤ◌, ◌*ℤ◌, ◌<ℤ◌, ◌≤ℤ◌, int_lt, int_div, unsigned_abs}
use Rattle.std.proofs.lemmas.Int.{ints, unsigned_abs-mul, by_lt_z}
use Rattle.std.proofs.Math.Nat.{one-dvd, mul-suc}
use Rattle.rg_theory.specs.declared.Arc.{Arc}
use Rattle.rg_theory.specs.System.{System, IsInRange, IsReachable, labels}
use Rattle.rg_theory.specs.Tree.{IsTree, ways_from, way_to}
use Rattle.rg_theory.proofs.Lists.{Contains-cons_cases}
use Rattle.rg_theory.proofs.Trees.{way_leads}
use Rattle.rg_integers.specs.Range.{InRange}
use Rattle.rg_integers.specs.Divisor.{int_gcd}
use Rattle.rg_integers.specs.Sum.{sum_over}
use Rattle.rg_integers.proofs.Ring.{ring, neg-mul}
use Rattle.rg_integers.proofs.Order.{mul-cancel, mul_positive, positive_differs, quotient_positive}
use Rattle.rg_integers.proofs.Divisors.{gcd_of-is, exact, int_gcd_positive}
use Rattle.rg_integers.proofs.ListSums.{sum_over-append}
use Rattle.rg_linear.proofs.Branches.{positive_times_less, positive_times_most}
use Rattle.rg_folds.specs.Fold.{Ratio, whole, add}
use Rattle.rg_case_folds.specs.Potentials.{potential}
use Rattle.rg_case_folds.specs.Placing.{negated, along_tree, lesser, least_from, least_of}
use Rattle.rg_folds.proofs.FoldLemmas.{ratio_one}
use Rattle.rg_case_folds.proofs.RowValues.{IsOver, add_over}
use Rattle.rg_case_folds.proofs.Scaling.{whole_ratio}
use Rattle.rg_case_folds.proofs.Potentials.{counted, led_below}
use Rattle.rg_case_folds.proofs.Lists.{nothing, first, behind}
use Rattle.rg_case_folds.specs.Places.{IsReduced}
use Rattle.rg_case_folds.proofs.Products.{mul_rotate, and_nothing, itself}
use Rattle.rg_fraction.proofs.Orders.{weak}
use Rattle.std.proofs.Math.IntN.{*ℤ_comm}
use Rattle.rg_case_folds.proofs.Found.{IsOverAt}

-- ---- reduced numbers

pub whole_reduced : (z : ℤ) → IsReduced (whole z)
whole_reduced z = (one-dvd _, one-dvd _, λ k p q. q)

-- a reduced number that is a multiple of the scale, over it
pub whole_over : (k z : ℤ) (r : Ratio) → pos 0 <ℤ k → IsOverAt k r (k *ℤ z) → IsReduced r → r ≡ whole z
whole_over k z r positive (over, bottom) reduced = ratio_one r (whole z) (z *ℤ r.bottom) r.bottom
    (record { nonzero = positive_differs r.bottom bottom; positive = bottom; reduced = reduced; value = ap (λ t. t *ℤ r.bottom) top })
    (whole_ratio z (z *ℤ r.bottom) r.bottom (positive_differs r.bottom bottom) refl)
  where
    top : r.top ≡ z *ℤ r.bottom
    top = mul-cancel r.top (z *ℤ r.bottom) k (positive_differs k positive) (over ∙ mul_rotate k z r.bottom)

-- what a sum is, where it is a whole number
pub sum_in_range : (f g : Ratio) (z : ℤ) → pos 0 <ℤ f.bottom → pos 0 <ℤ g.bottom → add f g (Ok (whole z)) → InRange z
sum_in_range f g z pf pg (top, bottom, is) = smaller z ((int_div f.bottom (int_gcd f.bottom g.bottom)) *ℤ g.bottom)
    ((f.top *ℤ int_div g.bottom (int_gcd f.bottom g.bottom)) -ℤ (neg_ℤ g.top *ℤ int_div f.bottom (int_gcd f.bottom g.bottom)))
    (mul_positive (int_div f.bottom (int_gcd f.bottom g.bottom)) g.bottom part pg) product top.difference
  where
    divides : f.bottom ≡ int_div f.bottom (int_gcd f.bottom g.bottom) *ℤ int_gcd f.bottom g.bottom
    divides = sym (exact f.bottom (int_gcd f.bottom g.bottom) (gcd_of-is (unsigned_abs f.bottom) (unsigned_abs g.bottom)).0)

    divides' : g.bottom ≡ int_div g.bottom (int_gcd f.bottom g.bottom) *ℤ int_gcd f.bottom g.bottom
    divides' = sym (exact g.bottom (int_gcd f.bottom g.bottom) (gcd_of-is (unsigned_abs f.bottom) (unsigned_abs g.bottom)).1)

    gcd_positive : pos 0 <ℤ int_gcd f.bottom g.bottom
    gcd_positive = int_gcd_positive f.bottom g.bottom (positive_differs g.bottom pg)

    part : pos 0 <ℤ int_div f.bottom (int_gcd f.bottom g.bottom)
    part = quotient_positive (int_div f.bottom (int_gcd f.bottom g.bottom)) (int_gcd f.bottom g.bottom) f.bottom (weak _ gcd_positive) (sym divides) pf

    close : (z d e t u G : ℤ) (d' e' : ℤ) → G ≢ pos 0 → d ≡ d' *ℤ G → e ≡ e' *ℤ G → z *ℤ (d *ℤ e) ≡ ((t *ℤ e) +ℤ (u *ℤ d)) *ℤ pos 1 → z *ℤ (d' *ℤ e) ≡ (t *ℤ e') -ℤ (neg_ℤ u *ℤ d')
    close z d e t u G d' e' ne p q v =
        mul-cancel (z *ℤ (d' *ℤ e)) ((t *ℤ e') -ℤ (neg_ℤ u *ℤ d')) G ne (left z d' e G ∙ ap (λ y. z *ℤ (y *ℤ e)) (sym p) ∙ v ∙ ap₂ (λ a b. ((t *ℤ a) +ℤ (u *ℤ b)) *ℤ pos 1) q p ∙ right t u d' e' G)
      where
        left : (z d' e G : ℤ) → (z *ℤ (d' *ℤ e)) *ℤ G ≡ z *ℤ ((d' *ℤ G) *ℤ e)
        left z d' e G = simp ring

        right : (t u d' e' G : ℤ) → ((t *ℤ (e' *ℤ G)) +ℤ (u *ℤ (d' *ℤ G))) *ℤ pos 1 ≡ ((t *ℤ e') -ℤ (neg_ℤ u *ℤ d')) *ℤ G
        right t u d' e' G = simp ring (omega (arith, ints))

    product : z *ℤ (int_div f.bottom (int_gcd f.bottom g.bottom) *ℤ g.bottom) ≡ (f.top *ℤ int_div g.bottom (int_gcd f.bottom g.bottom)) -ℤ (neg_ℤ g.top *ℤ int_div f.bottom (int_gcd f.bottom g.bottom))
    product = close z f.bottom g.bottom f.top g.top (int_gcd f.bottom g.bottom) (int_div f.bottom (int_gcd f.bottom g.bottom))
        (int_div g.bottom (int_gcd f.bottom g.bottom)) (positive_differs _ gcd_positive) divides divides' is.value

    smaller : (z m t : ℤ) → pos 0 <ℤ m → z *ℤ m ≡ t → InRange t → InRange z
    smaller z m t h e fits = below (unsigned_abs z) (unsigned_abs m) (unsigned_abs t) _ (some m h) (sym (unsigned_abs-mul z m) ∙ ap unsigned_abs e) fits
      where
        some : (m : ℤ) → pos 0 <ℤ m → 0 < unsigned_abs m
        some m h = omega (arith, ints)

        below : (a b n m : ℕ) → 0 < b → a * b ≡ n → n < m → a < m
        below a zero n m h e lt = absurd (omega arith)
        below a (suc b) n m h e lt = let k = mul-suc a b in omega arith

-- ---- along the tree

along_over : (k : ℤ) (effect number out : ℕ → Ratio) (tree : List Arc) (way : ℕ → List ℕ) (z : ℤ) (e : ℕ → ℤ)
    → ((a : Arc) → Contains tree a → IsOverAt k (effect a.label) (e a.label)) → ((s : ℕ) → IsOverAt k (number s) (z +ℤ sum_over e (way s)))
    → ((s : ℕ) → IsReduced (number s)) → along_tree effect number tree (Ok out) → (s : ℕ) → IsOverAt k (out s) (z +ℤ sum_over e (ways_from way tree s))
    × IsReduced (out s)
along_over k effect number out [] way z e overs at reduced made s = subst (λ (f : ℕ → Ratio). IsOverAt k (f s) (z +ℤ sum_over e (way s)) × IsReduced (f s)) (sym made) (at s, reduced s)
along_over k effect number out (a ∷ tree) way z e overs at reduced (m, added, rest) s =
    along_over k effect (λ q. if q == a.to then m else number q) out tree (λ q. if q == a.to then (way a.from ++ a.label ∷ []) else way q) z e
    (λ b has. overs b (behind a b tree has)) next reduced_next rest s
  where
    joined : IsOverAt k m (z +ℤ sum_over e (way a.from ++ a.label ∷ []))
    joined = (
      subst (IsOver k m) (close z (sum_over e (way a.from)) (e a.label) (sum_over e (way a.from ++ a.label ∷ [])) (sum_over-append e (way a.from) (a.label ∷ [])))
          (add_over k (number a.from) (effect a.label) m (z +ℤ sum_over e (way a.from)) (e a.label) added (at a.from).0 (overs a (first a tree)).0),
      added.2.positive,
    )
      where
        close : (z w l s : ℤ) → s ≡ w +ℤ (l +ℤ pos 0) → (z +ℤ w) +ℤ l ≡ z +ℤ s
        close z w l s p = omega (arith, ints)

    next : (q : ℕ) → IsOverAt k (if q == a.to then m else number q) (z +ℤ sum_over e (if q == a.to then (way a.from ++ a.label ∷ []) else way q))
    next q = go (q == a.to)
      where
        go : (b : Bool) → IsOverAt k (if b then m else number q) (z +ℤ sum_over e (if b then (way a.from ++ a.label ∷ []) else way q))
        go true = joined
        go false = at q

    reduced_next : (q : ℕ) → IsReduced (if q == a.to then m else number q)
    reduced_next q = go (q == a.to)
      where
        go : (b : Bool) → IsReduced (if b then m else number q)
        go true = added.2.reduced
        go false = reduced q

-- the number of a state is over the scale what Start and the effects give along the tree
pub along_gives_over : (lts : System) (tree : List Arc) (k : ℤ) (effect out : ℕ → Ratio) (start : Ratio) (z : ℤ) (e : ℕ → ℤ) (s : ℕ) → IsInRange lts → IsTree lts tree
    → IsReachable lts s → ((a : Arc) → Contains tree a → IsOverAt k (effect a.label) (e a.label)) → IsOverAt k start z → IsReduced start
    → along_tree effect (λ q. start) tree (Ok out) → IsOverAt k (out s) (potential lts tree z e s) × IsReduced (out s)
along_gives_over lts tree k effect out start z e s fine g reached overs at reduced made =
    let (over, is_reduced) = along_over k effect (λ q. start) out tree (λ q. []) z e overs (λ q. subst (IsOverAt k start) (and_nothing z) at) (λ q. reduced) made s in
    (subst (IsOverAt k (out s)) by_labels over, is_reduced)
  where
    by_labels : z +ℤ sum_over e (way_to tree s) ≡ potential lts tree z e s
    by_labels = ap (λ y. z +ℤ y) (sym (counted (labels lts) e (way_to tree s) (led_below lts lts.initial (way_to tree s) s fine (way_leads lts tree s g reached))))

-- ---- the least

pub opposite_over : (k z : ℤ) (r : Ratio) → IsOverAt k r z → IsOverAt k (negated r) (neg_ℤ z)
opposite_over k z r (over, bottom) = (turn r.top k z r.bottom over, bottom)
  where
    turn : (t k z b : ℤ) → t *ℤ k ≡ z *ℤ b → neg_ℤ t *ℤ k ≡ neg_ℤ z *ℤ b
    turn t k z b e = neg-mul t k ∙ ap neg_ℤ e ∙ sym (neg-mul z b)

-- a number that is not less has not the lesser value
order_over : (k a b : ℤ) (f g : Ratio) → pos 0 <ℤ k → IsOverAt k f a → IsOverAt k g b → (f.top *ℤ g.bottom) ≤ℤ (g.top *ℤ f.bottom) → a ≤ℤ b
order_over k a b f g positive (of_f, pf) (of_g, pg) le = by_lt_z b a (λ less. absurd (more less)) (λ most. most)
  where
    turn : (t k c : ℤ) → (t *ℤ c) *ℤ k ≡ (t *ℤ k) *ℤ c
    turn t k c = simp ring

    both' : (b c a : ℤ) → (b *ℤ c) *ℤ a ≡ (a *ℤ c) *ℤ b
    both' b c a = simp ring

    f_is : (f.top *ℤ g.bottom) *ℤ k ≡ (f.bottom *ℤ g.bottom) *ℤ a
    f_is = turn f.top k g.bottom ∙ ap (λ z. z *ℤ g.bottom) of_f ∙ mul_rotate a f.bottom g.bottom

    g_is : (g.top *ℤ f.bottom) *ℤ k ≡ (f.bottom *ℤ g.bottom) *ℤ b
    g_is = turn g.top k f.bottom ∙ ap (λ z. z *ℤ f.bottom) of_g ∙ both' b g.bottom f.bottom

    times : (x y k : ℤ) → pos 0 <ℤ k → x ≤ℤ y → (x *ℤ k) ≤ℤ (y *ℤ k)
    times x y k h le = let m = positive_times_most k x y h le in let p = *ℤ_comm k x in let q = *ℤ_comm k y in omega (arith, ints)

    more : b <ℤ a → ⊥
    more less =
        let m = positive_times_less (f.bottom *ℤ g.bottom) b a (mul_positive f.bottom g.bottom pf pg) less in
        let t = times (f.top *ℤ g.bottom) (g.top *ℤ f.bottom) k positive le in
        let p = f_is in
        let q = g_is in
        omega (arith, ints)

-- the lesser of two is one of them, and none is less
lesser_over : (k a b : ℤ) (f g : Ratio) → pos 0 <ℤ k → IsOverAt k f a → IsOverAt k g b → (c : ℤ) × IsOverAt k (lesser f g) c × ((lesser f g ≡ f) ⊎ (lesser f g ≡ g)) × (c ≤ℤ a) × (c ≤ℤ b)
lesser_over k a b f g positive of_f of_g = go (int_lt (g.top *ℤ f.bottom) (f.top *ℤ g.bottom)) refl
  where
    less : (x y : ℤ) → int_lt x y ≡ true → x ≤ℤ y
    less x y e = omega (arith, ints)

    not_less : (x y : ℤ) → int_lt x y ≡ false → y ≤ℤ x
    not_less x y e = omega (arith, ints)

    go : (t : Bool) → int_lt (g.top *ℤ f.bottom) (f.top *ℤ g.bottom) ≡ t → (c : ℤ) × IsOverAt k (if t then g else f) c × (((if t then g else f) ≡ f) ⊎ ((if t then g else f) ≡ g)) × (c ≤ℤ a) × (c ≤ℤ b)
    go true e = (b, of_g, inr refl, order_over k b a g f positive of_g of_f (less (g.top *ℤ f.bottom) (f.top *ℤ g.bottom) e), itself b)
    go false e = (a, of_f, inl refl, itself a, order_over k a b f g positive of_f of_g (not_less (g.top *ℤ f.bottom) (f.top *ℤ g.bottom) e))

-- a number of the list
abbrev pub AreOver : ℤ → List Ratio → Type 0
AreOver k rs = (r : Ratio) → Contains rs r → (z : ℤ) × IsOverAt k r z

-- two values of one number are the same
pub one_value : (k a b : ℤ) (r : Ratio) → IsOverAt k r a → IsOverAt k r b → a ≡ b
one_value k a b r (p, bottom) (q, _) = mul-cancel a b r.bottom (positive_differs r.bottom bottom) (sym p ∙ q)

least_from_over : (k : ℤ) (f : Ratio) (rest : List Ratio) → pos 0 <ℤ k → AreOver k (f ∷ rest)
    → (c : ℤ) × IsOverAt k (least_from f rest) c × Contains (f ∷ rest) (least_from f rest) × ((r : Ratio) (z : ℤ) → Contains (f ∷ rest) r → IsOverAt k r z → c ≤ℤ z)
least_from_over k f [] positive all =
    let (c, over) = all f (first f []) in
    (c, over, first f [], λ r z has at. ⊎_elim (λ is. same c z (one_value k c z f over (subst (λ q. IsOverAt k q z) (sym is) at))) (λ there. absurd (nothing r there)) (Contains-cons_cases f r [] has))
  where
    same : (a b : ℤ) → a ≡ b → a ≤ℤ b
    same a b e = omega (arith, ints)
least_from_over k f (g ∷ rest) positive all =
    let (a, of_f) = all f (first f (g ∷ rest)) in
    let (b, of_g) = all g (behind f g (g ∷ rest) (first g rest)) in
    let (l, of_l, is, below_f, below_g) = lesser_over k a b f g positive of_f of_g in
    let (c, over, has, low) = least_from_over k (lesser f g) rest positive
    (λ r h. ⊎_elim (λ e. (l, subst (λ q. IsOverAt k q l) e of_l)) (λ there. all r (behind f r (g ∷ rest) (behind g r rest there)))
    (Contains-cons_cases (lesser f g) r rest h)) in (
      c,
      over,
      ⊎_elim
          (λ e. ⊎_elim (λ e'. subst (Contains (f ∷ g ∷ rest)) (sym e' ∙ e) (first f (g ∷ rest))) (λ e'. subst (Contains (f ∷ g ∷ rest)) (sym e' ∙ e) (behind f g (g ∷ rest) (first g rest))) is)
          (λ there. behind f (least_from (lesser f g) rest) (g ∷ rest) (behind g (least_from (lesser f g) rest) rest there))
          (Contains-cons_cases (lesser f g) (least_from (lesser f g) rest) rest has),
      λ r z h at.
          (let c_l = low (lesser f g) l (first (lesser f g) rest) of_l in
          ⊎_elim
          (λ e. after c l a z c_l below_f (one_value k a z f of_f (subst (λ q. IsOverAt k q z) (sym e) at)))
          (λ there.
          ⊎_elim
          (λ e. after c l b z c_l below_g (one_value k b z g of_g (subst (λ q. IsOverAt k q z) (sym e) at)))
          (λ later. low r z (behind (lesser f g) r rest later) at)
          (Contains-cons_cases g r rest there))
          (Contains-cons_cases f r (g ∷ rest) h)),
    )
  where
    after : (c l a z : ℤ) → c ≤ℤ l → l ≤ℤ a → a ≡ z → c ≤ℤ z
    after c l a z p q e = omega (arith, ints)

pub least_over : (k : ℤ) (rs : List Ratio) → 0 < length rs → pos 0 <ℤ k → AreOver k rs
    → (c : ℤ) × IsOverAt k (least_of rs) c × Contains rs (least_of rs) × ((r : Ratio) (z : ℤ) → Contains rs r → IsOverAt k r z → c ≤ℤ z)
least_over k [] some positive all = absurd (omega arith)
least_over k (f ∷ rest) some positive all = least_from_over k f rest positive all
