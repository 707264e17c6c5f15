-- What rows add up to, as they are listed in a leaf.
use Rattle.std.proofs.Common.{◌≡◌, ⊎_elim, ℕ, zero, suc, ◌+◌, ◌<◌, ◌≤◌, ◌||◌, Bool, true, false, if◌then◌else◌, List, [], ◌∷◌, ◌++◌, map, length, drop, slice_index_or, Contains, ap, ap₂, refl, subst, sym, ◌∙◌, arith}
use Rattle.std.specs.Prelude.{ℤ, pos, ◌+ℤ◌, ◌*ℤ◌, int_lt, AllPairs}
use Rattle.std.proofs.Math.IntN.{zero-*ℤ}
use Rattle.std.proofs.lemmas.Int.{ints}
use Rattle.std.proofs.lemmas.Bool.{cases_Bool}
use Rattle.rg_theory.specs.declared.Arc.{Arc}
use Rattle.rg_theory.specs.System.{IsArcBefore}
use Rattle.rg_theory.specs.Tree.{same_arc}
use Rattle.rg_theory.proofs.Lists.{Contains-cons_cases}
use Rattle.rg_theory.proofs.Arcs.{same_arc_itself}
use Rattle.rg_integers.specs.Sum.{sum_over}
use Rattle.rg_integers.proofs.Ring.{ring}
use Rattle.rg_integers.proofs.ListSums.{sum_over-same, sum_over-zero, sum_over-append, sum_over-map, sum_over-plus}
use Rattle.rg_cert_meaning.specs.declared.RowName.{RowName}
use Rattle.rg_cert_meaning.specs.Refutes.{NamedRow}
use Rattle.rg_case_folds.specs.Spreading.{named_from, not_zero, multiplier_among, arc_name}
use Rattle.rg_case_folds.proofs.Potentials.{among_is}
use Rattle.rg_farkas.specs.View.{arc_times}
use Rattle.rg_linear.proofs.Splits.{nonzero_test as zero_of}

-- what g of the rows' names adds up to, each times its multiplier
abbrev pub rows_sum : (RowName → ℤ) → List NamedRow → ℤ
rows_sum g rows = sum_over (λ r. r.multiplier *ℤ g r.name) rows

-- ---- rows with the multiplier 0

pub without_zeros : (g : RowName → ℤ) (rows : List NamedRow) → rows_sum g (not_zero rows) ≡ rows_sum g rows
without_zeros g [] = refl
without_zeros g (r ∷ rows) = go (int_lt r.multiplier (pos 0) || int_lt (pos 0) r.multiplier) refl (without_zeros g rows)
  where
    go : (b : Bool) → (int_lt r.multiplier (pos 0) || int_lt (pos 0) r.multiplier) ≡ b → rows_sum g (not_zero rows) ≡ rows_sum g rows
        → rows_sum g (if b then (r ∷ not_zero rows) else not_zero rows) ≡ (r.multiplier *ℤ g r.name) +ℤ rows_sum g rows
    go true e ih = ap (λ z. (r.multiplier *ℤ g r.name) +ℤ z) ih
    go false e ih = ih ∙ none _ _ (ap (λ z. z *ℤ g r.name) (zero_of r.multiplier e) ∙ zero-*ℤ (g r.name))
      where
        none : (x s : ℤ) → x ≡ pos 0 → s ≡ x +ℤ s
        none x s e = omega (arith, ints)

pub zeros-append : (xs ys : List NamedRow) → not_zero (xs ++ ys) ≡ not_zero xs ++ not_zero ys
zeros-append [] ys = refl
zeros-append (r ∷ xs) ys = go (int_lt r.multiplier (pos 0) || int_lt (pos 0) r.multiplier) (zeros-append xs ys)
  where
    go : (b : Bool) → not_zero (xs ++ ys) ≡ not_zero xs ++ not_zero ys → (if b then (r ∷ not_zero (xs ++ ys)) else not_zero (xs ++ ys)) ≡ (if b then (r ∷ not_zero xs) else not_zero xs) ++ not_zero ys
    go true ih = ap (λ l. r ∷ l) ih
    go false ih = ih

-- ---- names with numbers

pub named-append : (xs ys : List RowName) (zs : List ℤ) → length xs ≤ length zs → named_from (xs ++ ys) zs ≡ named_from xs zs ++ named_from ys (drop (length xs) zs)
named-append [] ys zs le = refl
named-append (x ∷ xs) ys [] le = absurd (omega arith)
named-append (x ∷ xs) ys (z ∷ zs) le = ap (λ l. record { multiplier = z; name = x } ∷ l) (named-append xs ys zs (omega arith))

pub named-scaled : (g : RowName → ℤ) (d : ℤ) (xs : List RowName) (zs : List ℤ) → rows_sum g (named_from xs (map (λ z. d *ℤ z) zs)) ≡ d *ℤ rows_sum g (named_from xs zs)
named-scaled g d [] zs = none d
  where
    none : (d : ℤ) → pos 0 ≡ d *ℤ pos 0
    none d = omega (arith, ints)
named-scaled g d (x ∷ xs) [] = none d
  where
    none : (d : ℤ) → pos 0 ≡ d *ℤ pos 0
    none d = omega (arith, ints)
named-scaled g d (x ∷ xs) (z ∷ zs) = ap (λ y. ((d *ℤ z) *ℤ g x) +ℤ y) (named-scaled g d xs zs) ∙ close d z (g x) (rows_sum g (named_from xs zs))
  where
    close : (d z g s : ℤ) → ((d *ℤ z) *ℤ g) +ℤ (d *ℤ s) ≡ d *ℤ ((z *ℤ g) +ℤ s)
    close d z g s = simp ring (omega (arith, ints))

-- ---- the arcs of the system with the multipliers of some arcs

abbrev pub Differ : List Arc → Type 0
Differ [] = Unit {0}
Differ (a ∷ arcs) = (¬ Contains arcs a) × Differ arcs

pub ordered_differ : (arcs : List Arc) → AllPairs IsArcBefore arcs → Differ arcs
ordered_differ [] order = tt
ordered_differ (a ∷ arcs) order = (later, ordered_differ arcs (λ i j d lt below. order (suc i) (suc j) d (omega arith) (omega arith)))
  where
    itself : (x : Arc) → IsArcBefore x x → ⊥
    itself x before = ⊎_elim (λ lt. omega arith) (λ rest. ⊎_elim (λ lt. omega arith) (λ last. (let lt = last.1 in omega arith)) rest.1) before

    later : ¬ Contains arcs a
    later (k, lt, at) = itself a (subst (λ x. IsArcBefore a x) at (order 0 (suc k) a (omega arith) (omega arith)))

pub arc_is : (b a : Arc) → same_arc b a ≡ true → b ≡ a
arc_is b a e = let (k, lt, at) = among_is (b ∷ []) a (ap (λ t. if t then true else false) e) in only k lt at
  where
    only : (k : ℕ) → k < length (b ∷ []) → slice_index_or (b ∷ []) k a ≡ a → b ≡ a
    only zero lt at = at
    only (suc k) lt at = absurd (omega arith)

-- an arc that is not among the arcs has no multiplier
pub none_among : (arcs : List Arc) (zs : List ℤ) (a : Arc) → ¬ Contains arcs a → multiplier_among arcs zs a ≡ pos 0
none_among [] zs a lacks = refl
none_among (b ∷ arcs) [] a lacks = refl
none_among (b ∷ arcs) (z ∷ zs) a lacks = ⊎_elim (λ e. absurd (lacks (0, omega arith, arc_is b a e)))
    (λ e. ap (λ t. if t then z else multiplier_among arcs zs a) e ∙ none_among arcs zs a (λ (k, lt, at). lacks (suc k, omega arith, at))) (cases_Bool (same_arc b a))

-- one arc alone
one_arc : (h : Arc → ℤ) (b : Arc) (all : List Arc) → Differ all → Contains all b → sum_over (λ a. if same_arc b a then h a else pos 0) all ≡ h b
one_arc h b [] differ (k, lt, e) = absurd (omega arith)
one_arc h b (a ∷ all) (lacks, differ) has = ⊎_elim here (λ has'. there has' (one_arc h b all differ has')) (Contains-cons_cases a b all has)
  where
    here : a ≡ b → (if same_arc b a then h a else pos 0) +ℤ sum_over (λ u. if same_arc b u then h u else pos 0) all ≡ h b
    here e = ap₂ (λ t z. (if t then h a else pos 0) +ℤ z) (subst (λ u. same_arc b u ≡ true) (sym e) (same_arc_itself b)) (sum_over-zero _ all others) ∙ last (h a) ∙ ap h e
      where
        others : (u : Arc) → Contains all u → (if same_arc b u then h u else pos 0) ≡ pos 0
        others u has' = ⊎_elim (λ is. absurd (lacks (subst (Contains all) (sym (arc_is b u is) ∙ sym e) has'))) (λ not_is. ap (λ t. if t then h u else pos 0) not_is) (cases_Bool (same_arc b u))

        last : (z : ℤ) → z +ℤ pos 0 ≡ z
        last z = omega (arith, ints)

    there : Contains all b → sum_over (λ u. if same_arc b u then h u else pos 0) all ≡ h b → (if same_arc b a then h a else pos 0) +ℤ sum_over (λ u. if same_arc b u then h u else pos 0) all ≡ h b
    there has' ih = ap₂ (λ t z. (if t then h a else pos 0) +ℤ z) differs ih ∙ first (h b)
      where
        differs : same_arc b a ≡ false
        differs = ⊎_elim (λ is. absurd (lacks (subst (Contains all) (arc_is b a is) has'))) (λ e. e) (cases_Bool (same_arc b a))

        first : (z : ℤ) → pos 0 +ℤ z ≡ z
        first z = omega (arith, ints)

-- what g of all arcs adds up to, each times its multiplier among some of them
pub arcs_sum : (g : Arc → ℤ) (all arcs : List Arc) (zs : List ℤ) → Differ all → Differ arcs → ((a : Arc) → Contains arcs a → Contains all a) → length arcs ≤ length zs
    → sum_over (λ a. multiplier_among arcs zs a *ℤ g a) all ≡ sum_over (λ r. r.multiplier *ℤ g r.arc) (arc_times arcs zs)
arcs_sum g all [] zs differ differ' inside le = sum_over-zero _ all (λ a has. zero-*ℤ (g a))
arcs_sum g all (b ∷ arcs) [] differ differ' inside le = absurd (omega arith)
arcs_sum g all (b ∷ arcs) (z ∷ zs) differ (lacks, differ') inside le =
    sum_over-same _ (λ a. (if same_arc b a then z *ℤ g a else pos 0) +ℤ (multiplier_among arcs zs a *ℤ g a)) all (λ a has. split a)
    ∙ sum_over-plus (λ a. if same_arc b a then z *ℤ g a else pos 0) (λ a. multiplier_among arcs zs a *ℤ g a) all
    ∙ ap₂ ◌+ℤ◌ (one_arc (λ a. z *ℤ g a) b all differ (inside b (0, omega arith, refl))) (arcs_sum g all arcs zs differ differ' (λ a (k, lt, at). inside a (suc k, omega arith, at)) (omega arith))
  where
    split : (a : Arc) → (if same_arc b a then z else multiplier_among arcs zs a) *ℤ g a ≡ (if same_arc b a then z *ℤ g a else pos 0) +ℤ (multiplier_among arcs zs a *ℤ g a)
    split a = ⊎_elim
        (λ is. ap (λ t. (if t then z else multiplier_among arcs zs a) *ℤ g a) is ∙ last (z *ℤ g a)
        ∙ sym (ap₂ (λ t y. (if t then z *ℤ g a else pos 0) +ℤ (y *ℤ g a)) is (none_among arcs zs a (λ has. lacks (subst (Contains arcs) (sym (arc_is b a is)) has)))
        ∙ ap (λ y. (z *ℤ g a) +ℤ y) (zero-*ℤ (g a))))
        (λ not_is. ap (λ t. (if t then z else multiplier_among arcs zs a) *ℤ g a) not_is ∙ first (multiplier_among arcs zs a *ℤ g a)
        ∙ sym (ap (λ t. (if t then z *ℤ g a else pos 0) +ℤ (multiplier_among arcs zs a *ℤ g a)) not_is))
        (cases_Bool (same_arc b a))
      where
        last : (x : ℤ) → x ≡ x +ℤ pos 0
        last x = omega (arith, ints)

        first : (x : ℤ) → x ≡ pos 0 +ℤ x
        first x = omega (arith, ints)

-- arcs with numbers as rows
pub arcs_named : (g : RowName → ℤ) (arcs : List Arc) (zs : List ℤ) → rows_sum g (named_from (map arc_name arcs) zs) ≡ sum_over (λ r. r.multiplier *ℤ g (arc_name r.arc)) (arc_times arcs zs)
arcs_named g [] zs = refl
arcs_named g (a ∷ arcs) [] = refl
arcs_named g (a ∷ arcs) (z ∷ zs) = ap (λ y. (z *ℤ g (arc_name a)) +ℤ y) (arcs_named g arcs zs)

-- ---- the leaf

-- the rows of a leaf add up to what its parts add up to
pub leaf_sum : (g : RowName → ℤ) (names : List RowName) (all arcs : List Arc) (zs : List ℤ) → Differ all → Differ arcs
    → ((a : Arc) → Contains arcs a → Contains all a) → length names + length arcs ≤ length zs
    → rows_sum g (not_zero (named_from names zs
    ++ map (λ a. record { multiplier = multiplier_among arcs (drop (length names) zs) a; name = arc_name a }) all))
    ≡ rows_sum g (named_from (names ++ map arc_name arcs) zs)
leaf_sum g names all arcs zs differ differ' inside le =
    without_zeros g _
    ∙ sum_over-append (λ r. r.multiplier *ℤ g r.name) (named_from names zs) _
    ∙ ap (λ z. rows_sum g (named_from names zs) +ℤ z)
    (sum_over-map (λ r. r.multiplier *ℤ g r.name) (λ a. record { multiplier = multiplier_among arcs (drop (length names) zs) a; name = arc_name a }) all
    ∙ arcs_sum (λ a. g (arc_name a)) all arcs (drop (length names) zs) differ differ' inside (rest names zs (length arcs) le)
    ∙ sym (arcs_named g arcs (drop (length names) zs)))
    ∙ sym (sum_over-append (λ r. r.multiplier *ℤ g r.name) (named_from names zs) (named_from (map arc_name arcs) (drop (length names) zs)))
    ∙ ap (rows_sum g) (sym (named-append names (map arc_name arcs) zs (omega arith)))
  where
    rest : {X : Type 0} (xs : List X) (zs : List ℤ) (n : ℕ) → length xs + n ≤ length zs → n ≤ length (drop (length xs) zs)
    rest [] zs n le = omega arith
    rest (x ∷ xs) [] n le = absurd (omega arith)
    rest (x ∷ xs) (z ∷ zs) n le = rest xs zs n (omega arith)
