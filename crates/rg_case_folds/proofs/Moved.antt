-- The numbers of the states along the tree, and moved so that the least is 0.
use Rattle.std.proofs.Common.{◌≡◌, ⊎_elim, ℕ, ◌<◌, ◌==◌, Bool, true, false, if◌then◌else◌, List, [], ◌∷◌, ◌++◌, length, Contains, Ok, inl, inr, ◌⊎◌, refl, sym, ap, ap₂, subst, ◌∙◌, arith}
use Rattle.std.specs.Prelude.{ℤ, pos, ◌+ℤ◌, ◌*ℤ◌, ◌≤ℤ◌, int_lt}
use Rattle.std.proofs.lemmas.Int.{ints}
use Rattle.rg_theory.specs.declared.Arc.{Arc}
use Rattle.rg_theory.specs.System.{System, IsInRange, IsReachable, labels}
use Rattle.rg_theory.specs.Tree.{IsTree, ways_from, way_to, count}
use Rattle.rg_theory.proofs.Lists.{Contains-cons_cases}
use Rattle.rg_theory.proofs.Trees.{way_leads}
use Rattle.rg_integers.specs.Range.{InRange}
use Rattle.rg_integers.specs.Sum.{sum_over}
use Rattle.rg_integers.proofs.Sums.{sum_below-same}
use Rattle.rg_integers.proofs.ListSums.{sum_over-append}
use Rattle.rg_folds.specs.Fold.{Ratio, whole, add}
use Rattle.rg_case_folds.specs.Potentials.{potential}
use Rattle.rg_case_folds.specs.Placing.{along_tree, lesser, least_from, least_of}
use Rattle.rg_case_folds.proofs.Potentials.{counted, led_below}
use Rattle.rg_case_folds.proofs.Lists.{nothing, first, behind}
use Rattle.rg_case_folds.proofs.Products.{and_nothing, itself}
use Rattle.rg_case_folds.proofs.Wholes.{add_whole}

-- f is the whole number z, in range
abbrev pub IsWholeAt : Ratio → ℤ → Type 0
IsWholeAt f z = (f ≡ whole z) × InRange z

-- ---- along the tree

along_is : (effect number out : ℕ → Ratio) (tree : List Arc) (way : ℕ → List ℕ) (z : ℤ) (e : ℕ → ℤ) → ((t : ℕ) → effect t ≡ whole (e t))
    → ((s : ℕ) → IsWholeAt (number s) (z +ℤ sum_over e (way s))) → along_tree effect number tree (Ok out) → (s : ℕ)
    → IsWholeAt (out s) (z +ℤ sum_over e (ways_from way tree s))
along_is effect number out [] way z e whole_effects at made s = subst (λ (f : ℕ → Ratio). IsWholeAt (f s) (z +ℤ sum_over e (way s))) (sym made) (at s)
along_is effect number out (a ∷ tree) way z e whole_effects at (m, added, rest) s =
    along_is effect (λ q. if q == a.to then m else number q) out tree (λ q. if q == a.to then (way a.from ++ a.label ∷ []) else way q) z e whole_effects next rest s
  where
    joined : IsWholeAt m (z +ℤ sum_over e (way a.from ++ a.label ∷ []))
    joined =
        let (is, fits) = add_whole (z +ℤ sum_over e (way a.from)) (e a.label) m
        (subst (λ g. add (whole (z +ℤ sum_over e (way a.from))) g (Ok m)) (whole_effects a.label) (subst (λ f. add f (effect a.label) (Ok m)) (at a.from).0 added)) in
        let longer : (z +ℤ sum_over e (way a.from)) +ℤ e a.label ≡ z +ℤ sum_over e (way a.from ++ a.label ∷ []) =
        close z (sum_over e (way a.from)) (e a.label) (sum_over e (way a.from ++ a.label ∷ [])) (sum_over-append e (way a.from) (a.label ∷ [])) in
        (is ∙ ap whole longer, subst InRange longer fits)
      where
        close : (z w l s : ℤ) → s ≡ w +ℤ (l +ℤ pos 0) → (z +ℤ w) +ℤ l ≡ z +ℤ s
        close z w l s p = omega (arith, ints)

    next : (q : ℕ) → IsWholeAt (if q == a.to then m else number q) (z +ℤ sum_over e (if q == a.to then (way a.from ++ a.label ∷ []) else way q))
    next q = go (q == a.to)
      where
        go : (b : Bool) → IsWholeAt (if b then m else number q) (z +ℤ sum_over e (if b then (way a.from ++ a.label ∷ []) else way q))
        go true = joined
        go false = at q

-- the number of a state is that which Start and the effects give along the tree
pub along_gives : (lts : System) (tree : List Arc) (effect out : ℕ → Ratio) (z : ℤ) (e e' : ℕ → ℤ) (s : ℕ) → IsInRange lts → IsTree lts tree → IsReachable lts s
    → InRange z → ((t : ℕ) → effect t ≡ whole (e t)) → ((t : ℕ) → t < labels lts → e t ≡ e' t) → along_tree effect (λ q. whole z) tree (Ok out)
    → IsWholeAt (out s) (potential lts tree z e' s)
along_gives lts tree effect out z e e' s fine g reached fits whole_effects same made =
    let (is, in_range) = along_is effect (λ q. whole z) out tree (λ q. []) z e whole_effects (λ q. (ap whole (and_nothing z), subst InRange (and_nothing z) fits)) made s in
    (is ∙ ap whole by_labels, subst InRange by_labels in_range)
  where
    by_labels : z +ℤ sum_over e (way_to tree s) ≡ potential lts tree z e' s
    by_labels = ap (λ y. z +ℤ y) (sym (counted (labels lts) e (way_to tree s) (led_below lts lts.initial (way_to tree s) s fine (way_leads lts tree s g reached)))
        ∙ sum_below-same (labels lts) (λ t. pos (count t (way_to tree s)) *ℤ e t) (λ t. pos (count t (way_to tree s)) *ℤ e' t)
        (λ t lt. ap (λ y. pos (count t (way_to tree s)) *ℤ y) (same t lt)))

-- ---- the least of whole numbers

abbrev pub AllWhole : List Ratio → Type 0
AllWhole rs = (r : Ratio) → Contains rs r → r.bottom ≡ pos 1

lesser_is : (f g : Ratio) → f.bottom ≡ pos 1 → g.bottom ≡ pos 1 → ((lesser f g ≡ f) ⊎ (lesser f g ≡ g)) × ((lesser f g).top ≤ℤ f.top) × ((lesser f g).top ≤ℤ g.top)
lesser_is f g p q = go (int_lt (g.top *ℤ f.bottom) (f.top *ℤ g.bottom)) refl
  where
    less : int_lt (g.top *ℤ f.bottom) (f.top *ℤ g.bottom) ≡ true → g.top ≤ℤ f.top
    less e = close f.top g.top (ap₂ (λ a b. int_lt (g.top *ℤ a) (f.top *ℤ b)) (sym p) (sym q) ∙ e)
      where
        close : (x y : ℤ) → int_lt (y *ℤ pos 1) (x *ℤ pos 1) ≡ true → y ≤ℤ x
        close x y e = omega (arith, ints)

    not_less : int_lt (g.top *ℤ f.bottom) (f.top *ℤ g.bottom) ≡ false → f.top ≤ℤ g.top
    not_less e = close f.top g.top (ap₂ (λ a b. int_lt (g.top *ℤ a) (f.top *ℤ b)) (sym p) (sym q) ∙ e)
      where
        close : (x y : ℤ) → int_lt (y *ℤ pos 1) (x *ℤ pos 1) ≡ false → x ≤ℤ y
        close x y e = omega (arith, ints)

    go : (b : Bool) → int_lt (g.top *ℤ f.bottom) (f.top *ℤ g.bottom) ≡ b
        → (((if b then g else f) ≡ f) ⊎ ((if b then g else f) ≡ g)) × ((if b then g else f).top ≤ℤ f.top) × ((if b then g else f).top ≤ℤ g.top)
    go true e = (inr refl, less e, itself g.top)
    go false e = (inl refl, itself f.top, not_less e)

-- it is one of them, and none is less
least_from_is : (f : Ratio) (rest : List Ratio) → AllWhole (f ∷ rest) → Contains (f ∷ rest) (least_from f rest) × ((r : Ratio) → Contains (f ∷ rest) r → (least_from f rest).top ≤ℤ r.top)
least_from_is f [] all = ((0, omega arith, refl), λ r has. ⊎_elim (λ is. subst (λ (g : Ratio). f.top ≤ℤ g.top) is (itself f.top)) (λ there. absurd (nothing r there)) (Contains-cons_cases f r [] has))
least_from_is f (g ∷ rest) all =
    let (is, below_f, below_g) = lesser_is f g (all f (first f (g ∷ rest))) (all g (behind f g (g ∷ rest) (first g rest))) in
    let one : (lesser f g).bottom ≡ pos 1 = ⊎_elim (λ e. subst (λ (r : Ratio). r.bottom ≡ pos 1) (sym e) (all f (first f (g ∷ rest))))
    (λ e. subst (λ (r : Ratio). r.bottom ≡ pos 1) (sym e) (all g (behind f g (g ∷ rest) (first g rest)))) is in
    let (has, low) = least_from_is (lesser f g) rest
    (λ r h. ⊎_elim (λ e. subst (λ (r : Ratio). r.bottom ≡ pos 1) e one) (λ there. all r (behind f r (g ∷ rest) (behind g r rest there)))
    (Contains-cons_cases (lesser f g) r rest h)) in (
      ⊎_elim
          (λ e. ⊎_elim (λ e'. subst (Contains (f ∷ g ∷ rest)) (sym e' ∙ e) (first f (g ∷ rest))) (λ e'. subst (Contains (f ∷ g ∷ rest)) (sym e' ∙ e) (behind f g (g ∷ rest) (first g rest))) is)
          (λ there. behind f (least_from (lesser f g) rest) (g ∷ rest) (behind g (least_from (lesser f g) rest) rest there))
          (Contains-cons_cases (lesser f g) (least_from (lesser f g) rest) rest has),
      λ r h.
          ⊎_elim
          (λ e. subst (λ (q : Ratio). (least_from (lesser f g) rest).top ≤ℤ q.top) e
          (after (least_from (lesser f g) rest).top (lesser f g).top f.top (low (lesser f g) (first (lesser f g) rest)) below_f))
          (λ there.
          ⊎_elim
          (λ e. subst (λ (q : Ratio). (least_from (lesser f g) rest).top ≤ℤ q.top) e
          (after (least_from (lesser f g) rest).top (lesser f g).top g.top (low (lesser f g) (first (lesser f g) rest)) below_g))
          (λ later. low r (behind (lesser f g) r rest later))
          (Contains-cons_cases g r rest there))
          (Contains-cons_cases f r (g ∷ rest) h),
    )
  where
    after : (a b c : ℤ) → a ≤ℤ b → b ≤ℤ c → a ≤ℤ c
    after a b c p q = omega (arith, ints)

pub least_is : (rs : List Ratio) → 0 < length rs → AllWhole rs → Contains rs (least_of rs) × ((r : Ratio) → Contains rs r → (least_of rs).top ≤ℤ r.top)
least_is [] some all = absurd (omega arith)
least_is (f ∷ rest) some all = least_from_is f rest all
