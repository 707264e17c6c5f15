-- Numbers of states that the effects of labels give along the tree.
use Rattle.std.proofs.Common.{◌≡◌, ◌≢◌, ◌⊎◌, ⊎_elim, ◌↔◌, ℕ, suc, ◌+◌, ◌<◌, ◌==◌, eq-eqb, ne_eqb, Bool, true, false, if◌then◌else◌, List, [], ◌∷◌, ◌++◌, Contains, inl, inr, ap, ap₂, refl, subst, sym, ◌∙◌, arith, zero-add}
use Rattle.std.specs.Prelude.{ℤ, pos, ◌+ℤ◌, ◌-ℤ◌, ◌*ℤ◌}
use Rattle.std.proofs.lemmas.Int.{ints}
use Rattle.rg_theory.specs.declared.Arc.{Arc}
use Rattle.rg_theory.specs.System.{System, labels, arc, Leads, IsReachable, IsInRange}
use Rattle.rg_theory.proofs.Arcs.{arc_in_range, same_arc_is}
use Rattle.rg_theory.proofs.Lists.{Contains-cons_cases}
use Rattle.rg_integers.specs.Sum.{sum_below, sum_over}
use Rattle.rg_integers.proofs.Ring.{ring, add-mul, one-mul}
use Rattle.std.proofs.Math.IntN.{zero-*ℤ}
use Rattle.rg_integers.proofs.Sums.{sum_below-same, sum_below-zero, sum_below-plus, sum_below-only}
use Rattle.rg_theory.specs.Tree.{IsTree, way_to, count, parikh, same_arc, is_among, arcs_without, chords, chord_entry, IsKept, KeepsArcs}
use Rattle.rg_case_folds.specs.Potentials.{chord_sum, potential}
use Rattle.rg_theory.proofs.Trees.{way_joins, way_leads}

abbrev pub AllBelow : ℕ → List ℕ → Type 0
AllBelow n [] = Unit {0}
AllBelow n (t ∷ ts) = (t < n) × AllBelow n ts

-- a sum that has one label's effect alone
one_effect : (n u : ℕ) (effect : ℕ → ℤ) → u < n → sum_below n (λ t. pos (if t == u then 1 else 0) *ℤ effect t) ≡ effect u
one_effect n u effect lt = sum_below-only n u (λ t. pos (if t == u then 1 else 0) *ℤ effect t) lt others ∙ here
  where
    others : (t : ℕ) → t < n → t ≢ u → pos (if t == u then 1 else 0) *ℤ effect t ≡ pos 0
    others t lt' ne = ap (λ b. pos (if b then 1 else 0) *ℤ effect t) (ne_eqb t u ne) ∙ zero-*ℤ (effect t)

    here : pos (if u == u then 1 else 0) *ℤ effect u ≡ effect u
    here = ap (λ b. pos (if b then 1 else 0) *ℤ effect u) (eq-eqb u u refl) ∙ one-mul (effect u)

more_count : (a b : ℕ) (z : ℤ) → pos (a + b) *ℤ z ≡ (pos a *ℤ z) +ℤ (pos b *ℤ z)
more_count a b z = let e : pos (a + b) ≡ pos a +ℤ pos b = omega (arith, ints) in rw e (add-mul (pos a) (pos b) z)

-- counting labels adds up their effects
pub counted : (n : ℕ) (effect : ℕ → ℤ) (ts : List ℕ) → AllBelow n ts → sum_below n (λ t. pos (count t ts) *ℤ effect t) ≡ sum_over effect ts
counted n effect [] below = sum_below-zero n (λ t. pos 0 *ℤ effect t) (λ t lt. zero-*ℤ (effect t))
counted n effect (u ∷ us) (lt, below) =
    sum_below-same n (λ t. pos ((if t == u then 1 else 0) + count t us) *ℤ effect t)
    (λ t. (pos (if t == u then 1 else 0) *ℤ effect t) +ℤ (pos (count t us) *ℤ effect t)) (λ t lt'. more_count (if t == u then 1 else 0) (count t us) (effect t))
    ∙ sum_below-plus n (λ t. pos (if t == u then 1 else 0) *ℤ effect t) (λ t. pos (count t us) *ℤ effect t)
    ∙ ap₂ ◌+ℤ◌ (one_effect n u effect lt) (counted n effect us below)

pub led_below : (lts : System) (s : ℕ) (ts : List ℕ) (s' : ℕ) → IsInRange lts → Leads lts s ts s' → AllBelow (labels lts) ts
led_below lts s [] s' fine e = tt
led_below lts s (t ∷ ts) s' fine (mid, step, rest) = ((arc_in_range lts fine s t mid step).1, led_below lts mid ts s' fine rest)

-- along labels that lead on, numbers that keep all arcs move by the effects
pub moved_along : (lts : System) (number effect : ℕ → ℤ) (s : ℕ) (ts : List ℕ) (s' : ℕ) → KeepsArcs lts number effect → Leads lts s ts s' → number s' ≡ number s +ℤ sum_over effect ts
moved_along lts number effect s [] s' keeps e = let same = ap number e in omega (arith, ints)
moved_along lts number effect s (t ∷ ts) s' keeps (mid, step, rest) =
    let ih = moved_along lts number effect mid ts s' keeps rest in
    let here : number s +ℤ effect t ≡ number mid = keeps (arc s t mid) step in
    omega (arith, ints)

-- numbers that keep all arcs are those that their effects give
pub own_potential : (lts : System) (tree : List Arc) (number effect : ℕ → ℤ) (s : ℕ) → IsInRange lts → IsTree lts tree → KeepsArcs lts number effect → IsReachable lts s
    → number s ≡ potential lts tree (number lts.initial) effect s
own_potential lts tree number effect s fine g keeps reached =
    let leads = way_leads lts tree s g reached in
    moved_along lts number effect lts.initial (way_to tree s) s keeps leads
    ∙ ap (λ z. number lts.initial +ℤ z) (sym (counted (labels lts) effect (way_to tree s) (led_below lts lts.initial (way_to tree s) s fine leads)))

-- ---- one arc

-- what an arc's sum is: how far the arc is from being kept
pub arc_sum : (lts : System) (tree : List Arc) (start : ℤ) (effect : ℕ → ℤ) (a : Arc) → a.label < labels lts
    → (potential lts tree start effect a.from +ℤ effect a.label) -ℤ potential lts tree start effect a.to ≡ chord_sum lts tree effect a
arc_sum lts tree start effect a lt =
    let n = labels lts in
    let from : ℕ → ℤ = λ t. pos (parikh tree a.from t) *ℤ effect t in
    let to : ℕ → ℤ = λ t. pos (parikh tree a.to t) *ℤ effect t in
    let own : ℕ → ℤ = λ t. pos (if t == a.label then 1 else 0) *ℤ effect t in
    let vector : ℕ → ℤ = λ t. chord_entry tree a t *ℤ effect t in
    let split : sum_below n (λ t. vector t +ℤ to t) ≡ sum_below n (λ t. from t +ℤ own t) =
    sum_below-same n (λ t. vector t +ℤ to t) (λ t. from t +ℤ own t) (λ t lt'. at_label (t == a.label) (parikh tree a.from t) (parikh tree a.to t) (effect t)) in
    let left : sum_below n (λ t. vector t +ℤ to t) ≡ sum_below n vector +ℤ sum_below n to = sum_below-plus n vector to in
    let right : sum_below n (λ t. from t +ℤ own t) ≡ sum_below n from +ℤ sum_below n own = sum_below-plus n from own in
    let one : sum_below n own ≡ effect a.label = one_effect n a.label effect lt in
    close start (effect a.label) (sum_below n vector) (sum_below n to) (sum_below n from) (sum_below n own) (sym left ∙ split ∙ right) one
  where
    at_label : (b : Bool) (m n : ℕ) (z : ℤ) → (((pos m +ℤ (if b then pos 1 else pos 0)) -ℤ pos n) *ℤ z) +ℤ (pos n *ℤ z) ≡ (pos m *ℤ z) +ℤ (pos (if b then 1 else 0) *ℤ z)
    at_label true m n z = simp ring (omega (arith, ints))
    at_label false m n z = simp ring (omega (arith, ints))

    close : (start e v to from own : ℤ) → v +ℤ to ≡ from +ℤ own → own ≡ e → ((start +ℤ from) +ℤ e) -ℤ (start +ℤ to) ≡ v
    close start e v to from own p q = omega (arith, ints)

pub kept_from_sum : (lts : System) (tree : List Arc) (start : ℤ) (effect : ℕ → ℤ) (a : Arc) → a.label < labels lts → chord_sum lts tree effect a ≡ pos 0
    → IsKept (potential lts tree start effect) effect a
kept_from_sum lts tree start effect a lt e = close (potential lts tree start effect a.from +ℤ effect a.label) (potential lts tree start effect a.to) (arc_sum lts tree start effect a lt ∙ e)
  where
    close : (x y : ℤ) → x -ℤ y ≡ pos 0 → x ≡ y
    close x y e = omega (arith, ints)

pub sum_from_kept : (lts : System) (tree : List Arc) (start : ℤ) (effect : ℕ → ℤ) (a : Arc) → a.label < labels lts → IsKept (potential lts tree start effect) effect a
    → chord_sum lts tree effect a ≡ pos 0
sum_from_kept lts tree start effect a lt e = sym (arc_sum lts tree start effect a lt) ∙ close (potential lts tree start effect a.from +ℤ effect a.label) (potential lts tree start effect a.to) e
  where
    close : (x y : ℤ) → x ≡ y → x -ℤ y ≡ pos 0
    close x y e = omega (arith, ints)

-- ---- tree arcs and chords

count-append : (t : ℕ) (us vs : List ℕ) → count t (us ++ vs) ≡ count t us + count t vs
count-append t [] vs = sym (zero-add (count t vs))
count-append t (u ∷ us) vs = let ih = count-append t us vs in go (if t == u then 1 else 0) (count t (us ++ vs)) (count t us) (count t vs) ih
  where
    go : (n a b c : ℕ) → a ≡ b + c → n + a ≡ (n + b) + c
    go n a b c e = omega arith

-- an arc of the tree has the vector 0
pub tree_entry : (lts : System) (tree : List Arc) (a : Arc) (t : ℕ) → IsTree lts tree → Contains tree a → chord_entry tree a t ≡ pos 0
tree_entry lts tree a t g has =
    let way = way_joins lts (λ s. []) (lts.initial ∷ []) tree a g has in
    let counts : parikh tree a.to t ≡ parikh tree a.from t + ((if t == a.label then 1 else 0) + 0) = ap (count t) way ∙ count-append t (way_to tree a.from) (a.label ∷ []) in
    close (t == a.label) (parikh tree a.from t) (parikh tree a.to t) counts
  where
    close : (b : Bool) (m n : ℕ) → n ≡ m + ((if b then 1 else 0) + 0) → (pos m +ℤ (if b then pos 1 else pos 0)) -ℤ pos n ≡ pos 0
    close true m n e = omega (arith, ints)
    close false m n e = omega (arith, ints)

pub tree_sum : (lts : System) (tree : List Arc) (effect : ℕ → ℤ) (a : Arc) → IsTree lts tree → Contains tree a → chord_sum lts tree effect a ≡ pos 0
tree_sum lts tree effect a g has = sum_below-zero (labels lts) (λ t. chord_entry tree a t *ℤ effect t) (λ t lt. ap (λ z. z *ℤ effect t) (tree_entry lts tree a t g has) ∙ zero-*ℤ (effect t))

pub arc_label : (lts : System) (a : Arc) → IsInRange lts → Contains lts.arcs a → a.label < labels lts
arc_label lts a fine has = (arc_in_range lts fine a.from a.label a.to has).1

-- an arc that the test finds is among the arcs
pub among_is : (arcs : List Arc) (a : Arc) → is_among arcs a ≡ true → Contains arcs a
among_is [] a e = cc
among_is (b ∷ arcs) a e = go (same_arc b a) refl e (λ h. among_is arcs a h)
  where
    go : (t : Bool) → same_arc b a ≡ t → (if t then true else is_among arcs a) ≡ true → (is_among arcs a ≡ true → Contains arcs a) → Contains (b ∷ arcs) a
    go true is h next = (0, omega arith, same_arc_is b a is)
    go false is h next = let (k, lt, at) = next h in (suc k, omega arith, at)

-- an arc is in the tree or a chord
pub tree_or_chord : (tree arcs : List Arc) (a : Arc) → Contains arcs a → Contains tree a ⊎ Contains (arcs_without tree arcs) a
tree_or_chord tree [] a (k, lt, e) = absurd (omega arith)
tree_or_chord tree (b ∷ arcs) a has = go (is_among tree b) refl (Contains-cons_cases b a arcs has) (λ there. tree_or_chord tree arcs a there)
  where
    go : (t : Bool) → is_among tree b ≡ t → (b ≡ a) ⊎ Contains arcs a → (Contains arcs a → Contains tree a ⊎ Contains (arcs_without tree arcs) a)
        → Contains tree a ⊎ Contains (if t then arcs_without tree arcs else (b ∷ arcs_without tree arcs)) a
    go true is (inl e) next = inl (subst (Contains tree) e (among_is tree b is))
    go true is (inr there) next = next there
    go false is (inl e) next = inr (0, omega arith, e)
    go false is (inr there) next = ⊎_elim (λ h. inl h) (λ (k, lt, e). inr (suc k, omega arith, e)) (next there)

pub chord_is_arc : (tree arcs : List Arc) (a : Arc) → Contains (arcs_without tree arcs) a → Contains arcs a
chord_is_arc tree [] a has = has
chord_is_arc tree (b ∷ arcs) a has = go (is_among tree b) has (λ h. chord_is_arc tree arcs a h)
  where
    there : Contains arcs a → Contains (b ∷ arcs) a
    there (k, lt, e) = (suc k, omega arith, e)

    go : (t : Bool) → Contains (if t then arcs_without tree arcs else (b ∷ arcs_without tree arcs)) a → (Contains (arcs_without tree arcs) a → Contains arcs a) → Contains (b ∷ arcs) a
    go true h next = there (next h)
    go false h next = ⊎_elim (λ e. (0, omega arith, e)) (λ h'. there (next h')) (Contains-cons_cases b a (arcs_without tree arcs) h)

-- all arcs are kept exactly where every chord's sum is 0
pub chord_equations : (lts : System) (tree : List Arc) (start : ℤ) (effect : ℕ → ℤ) → IsInRange lts → IsTree lts tree
    → KeepsArcs lts (potential lts tree start effect) effect ↔ ((a : Arc) → Contains (chords lts tree) a → chord_sum lts tree effect a ≡ pos 0)
chord_equations lts tree start effect fine g = (
  (λ keeps a has. (let arc_has = chord_is_arc tree lts.arcs a has in sum_from_kept lts tree start effect a (arc_label lts a fine arc_has) (keeps a arc_has))),
  (λ zero_sums a has. kept_from_sum lts tree start effect a (arc_label lts a fine has) (⊎_elim (λ h. tree_sum lts tree effect a g h) (λ h. zero_sums a h) (tree_or_chord tree lts.arcs a has))),
)
