-- The leaf of shares that refute refutes.
use Rattle.std.proofs.Common.{◌≡◌, ◌≢◌, ◌⊎◌, ⊎_elim, inl, inr, ℕ, suc, max, ◌+◌, ◌<◌, ◌≤◌, ◌||◌, Bool, true, false, if◌then◌else◌, List, [], ◌∷◌, ◌++◌, map, length, drop, reverse, Ok, Contains, All, ap, ap₂, refl, subst, sym, ◌∙◌, arith, append_assoc}
use Rattle.std.specs.Prelude.{ℤ, pos, negsuc, ◌+ℤ◌, ◌-ℤ◌, ◌*ℤ◌, ◌<ℤ◌, ◌≤ℤ◌, int_lt, int_div}
use Rattle.std.proofs.Math.IntN.{zero-*ℤ, *ℤ-zero}
use Rattle.std.proofs.lemmas.Int.{ints}
use Rattle.std.proofs.lemmas.Bool.{cases_eq, cases_lt}
use Rattle.std.proofs.lemmas.List.{length-map, map-append, length-append}
use Rattle.std.proofs.lemmas.List.Elements.{All-nil, All-cons, All-head, All-tail, All-append, All-map, All-contains, Contains-append_left, Contains-append_right}
use Rattle.rg_theory.specs.declared.Arc.{Arc}
use Rattle.rg_theory.specs.System.{System, IsInRange, IsAllReachable, states, labels}
use Rattle.rg_theory.specs.Tree.{Grows, IsTree, parikh}
use Rattle.rg_theory.proofs.Arcs.{arc_in_range}
use Rattle.rg_theory.proofs.Lists.{Contains-cons_cases, map_there}
use Rattle.rg_theory.proofs.Trees.{reachable_is_met}
use Rattle.rg_lts.specs.WellFormed.{IsWellFormed}
use Rattle.rg_integers.specs.Range.{InRange}
use Rattle.rg_integers.specs.Sum.{sum_below, sum_over, only}
use Rattle.rg_integers.proofs.Ring.{ring}
use Rattle.rg_integers.proofs.Order.{mul_is_zero, mul_not_negative, positive_differs, factor_positive, mul_positive}
use Rattle.rg_integers.proofs.Sums.{sum_below-zero, sum_below-only}
use Rattle.rg_integers.proofs.ListSums.{sum_over-same, sum_over-zero, sum_over-append, sum_over-map}
use Rattle.rg_linear.specs.Cycle.{CycleBasis}
use Rattle.rg_linear.proofs.Unique.{sum_one}
use Rattle.rg_cert_meaning.specs.Expression.{Expression, plus, minus, coefficient_in, value_in}
use Rattle.rg_cert_meaning.specs.declared.Variable.{Variable}
use Rattle.rg_cert_meaning.specs.declared.RowName.{RowName}
use Rattle.rg_cert_meaning.specs.Refutes.{NamedRow, IsMultiplier, LeafRefutes, coefficient_sum, constant_sum}
use Rattle.rg_folds.specs.Fold.{each, Ratio}
use Rattle.rg_case_folds.specs.Potentials.{chord_sum, potential}
use Rattle.rg_case_folds.specs.Chords.{IsBasis}
use Rattle.rg_folds.specs.Substitution.{dependent_labels}
use Rattle.rg_case_folds.specs.Values.{numbers_along}
use Rattle.rg_case_folds.specs.Spreading.{tree_fold, checked_leaf, Share, ArcTimes, arc_name, named_from, not_zero, multiplier_among, chord_fold, chord_arcs, used_chords, leaf_fold}
use Rattle.rg_case_folds.proofs.Potentials.{arc_sum, tree_sum, arc_label}
use Rattle.rg_case_folds.proofs.Scaling.{Divides, AllDivide}
use Rattle.rg_case_folds.proofs.Signs.{AllPositive}
use Rattle.rg_case_folds.proofs.ExactRows.{common_bottom, part_exact as part_is}
use Rattle.rg_farkas.specs.Refuting.{terms_sum, RefuteOnArcs, SharesRefute}
use Rattle.rg_farkas.specs.View.{AreRowsWithin, arc_times}
use Rattle.rg_cert_data.specs.Certificates.{IsTermWithin}
use Rattle.rg_farkas.proofs.Fractions.{whole_in, scaled_are, scaled_divide, scaled_positive, divide_both}
use Rattle.rg_farkas.proofs.Relations.{used_chord, relation_row}
use Rattle.rg_farkas.proofs.ChordSums.{weighted, are_shares, divides_share, chord_bottom, rows_cancel}
use Rattle.rg_farkas.proofs.Listed.{Differ, rows_sum, ordered_differ, named-scaled, arcs_named, leaf_sum}
use Rattle.rg_farkas.proofs.TreeSums.{SaysArcs, Runs, tree_runs, arc_at, arc_coefficient, state_sum}
use Rattle.rg_farkas.proofs.Variables.{RowsWithin, by_variable, terms_split, outside_sum}
use Rattle.rg_farkas.proofs.Distinct.{given_differ, given_inside}
use Rattle.rg_farkas.proofs.Small.{is_small}
use Rattle.rg_case_folds.proofs.Items.{each_length}
use Rattle.rg_cert_meaning.specs.declared.RowName.TheVariants as row_name
use Rattle.rg_cert_meaning.specs.declared.Variable.TheVariants.{Tokens, Effect}

-- ---- what holds of all rows of a leaf

all_not_zero : (P : NamedRow → Type 0) (rows : List NamedRow) → All P rows → All P (not_zero rows)
all_not_zero P [] all = all
all_not_zero P (r ∷ rows) all = go (int_lt r.multiplier (pos 0) || int_lt (pos 0) r.multiplier) (all_not_zero P rows (All-tail P r rows all))
  where
    go : (b : Bool) → All P (not_zero rows) → All P (if b then (r ∷ not_zero rows) else not_zero rows)
    go true ih = All-cons P r (not_zero rows) (All-head P r rows all) ih
    go false ih = ih

all_named : (Q : RowName → Type 0) (shares : List Share) (zs : List ℤ) → All (λ s. Q s.name) shares → All (λ r. Q r.name) (named_from (map (λ s. s.name) shares) zs)
all_named Q [] zs all = All-nil (λ r. Q r.name)
all_named Q (s ∷ shares) [] all = All-nil (λ r. Q r.name)
all_named Q (s ∷ shares) (z ∷ zs) all = All-cons (λ r. Q r.name) (record { multiplier = z; name = s.name })
    (named_from (map (λ u. u.name) shares) zs) (All-head (λ u. Q u.name) s shares all) (all_named Q shares zs (All-tail (λ u. Q u.name) s shares all))

all_arcs : (P : NamedRow → Type 0) (number : Arc → ℤ) (arcs : List Arc)
    → ((a : Arc) → Contains arcs a → P (record { multiplier = number a; name = arc_name a }))
    → All P (map (λ a. record { multiplier = number a; name = arc_name a }) arcs)
all_arcs P number [] has = All-nil P
all_arcs P number (a ∷ arcs) has = All-cons P (record { multiplier = number a; name = arc_name a })
    (map (λ u. record { multiplier = number u; name = arc_name u }) arcs) (has a (0, omega arith, refl))
    (all_arcs P number arcs (λ u (k, lt, e). has u (suc k, omega arith, e)))

is_multiplier : (k : ℤ) (name : RowName) → pos 1 ≤ℤ k → IsMultiplier k name
is_multiplier k (row_name.Arc a) h = tt
is_multiplier k (row_name.Tokens q) h = h
is_multiplier k (row_name.Cap q) h = h
is_multiplier k (row_name.Up t) h = h
is_multiplier k (row_name.Down t) h = h
is_multiplier k (row_name.Makes t) h = h
is_multiplier k (row_name.Stop q) h = h
is_multiplier k row_name.Block h = h
is_multiplier k row_name.Empty h = h
is_multiplier k (row_name.Full q) h = h
is_multiplier k row_name.Keep h = h
is_multiplier k row_name.Apart h = h
is_multiplier k (row_name.Above d) h = h

at_least_one : (d z y : ℤ) → pos 0 <ℤ d → y ≡ d *ℤ z → pos 0 <ℤ y → pos 1 ≤ℤ z
at_least_one d z y positive e h = one z (factor_positive d z (weaker d positive) (subst (λ x. pos 0 <ℤ x) e h))
  where
    weaker : (d : ℤ) → pos 0 <ℤ d → pos 0 ≤ℤ d
    weaker d h = omega (arith, ints)

    one : (z : ℤ) → pos 0 <ℤ z → pos 1 ≤ℤ z
    one z h = omega (arith, ints)

-- the named rows keep positive multipliers
positive_named : (d m : ℤ) (shares : List Share) (zs more : List ℤ) → pos 0 <ℤ d → ((s : Share) → Contains shares s → pos 0 <ℤ whole_in m s.multiplier)
    → map (whole_in m) (map (λ s. s.multiplier) shares) ++ more ≡ map (λ z. d *ℤ z) zs
    → All (λ r. IsMultiplier r.multiplier r.name) (named_from (map (λ s. s.name) shares) zs)
positive_named d m [] zs more positive each e = All-nil (λ r. IsMultiplier r.multiplier r.name)
positive_named d m (s ∷ shares) [] more positive each e = All-nil (λ r. IsMultiplier r.multiplier r.name)
positive_named d m (s ∷ shares) (z ∷ zs) more positive each e =
    All-cons (λ r. IsMultiplier r.multiplier r.name) (record { multiplier = z; name = s.name }) (named_from (map (λ u. u.name) shares) zs)
    (is_multiplier z s.name (at_least_one d z (whole_in m s.multiplier) positive (head_is e) (each s (0, omega arith, refl))))
    (positive_named d m shares zs more positive (λ u (k, lt, at). each u (suc k, omega arith, at)) (tail_is e))
  where
    head_is : {x y : ℤ} {xs ys : List ℤ} → x ∷ xs ≡ y ∷ ys → x ≡ y
    head_is p = cc

    tail_is : {x y : ℤ} {xs ys : List ℤ} → x ∷ xs ≡ y ∷ ys → xs ≡ ys
    tail_is p = cc

-- ---- lists of one length

named_both : (xs ys : List RowName) (us vs : List ℤ) → length xs ≡ length us → named_from (xs ++ ys) (us ++ vs) ≡ named_from xs us ++ named_from ys vs
named_both [] ys [] vs e = refl
named_both [] ys (u ∷ us) vs e = absurd (omega arith)
named_both (x ∷ xs) ys [] vs e = absurd (omega arith)
named_both (x ∷ xs) ys (u ∷ us) vs e = ap (λ l. record { multiplier = u; name = x } ∷ l) (named_both xs ys us vs (omega arith))

-- the named rows with their numbers
named_shares : (m : ℤ) (shares : List Share) (ys : List RowName) (xs : List Ratio)
    → named_from (map (λ s. s.name) shares ++ ys) (map (whole_in m) (map (λ s. s.multiplier) shares ++ xs)) ≡ weighted m shares ++ named_from ys (map (whole_in m) xs)
named_shares m [] ys xs = refl
named_shares m (s ∷ shares) ys xs = ap (λ l. record { multiplier = whole_in m s.multiplier; name = s.name } ∷ l) (named_shares m shares ys xs)

-- the arcs of the tree as rows
abbrev tree_rows : List ArcTimes → List NamedRow
tree_rows arcs = map (λ x. record { multiplier = x.multiplier; name = arc_name x.arc }) arcs

named_tree : (arcs : List ArcTimes) → named_from (map arc_name (map (λ x. x.arc) arcs)) (map (λ x. x.multiplier) arcs) ≡ tree_rows arcs
named_tree [] = refl
named_tree (x ∷ arcs) = ap (λ l. record { multiplier = x.multiplier; name = arc_name x.arc } ∷ l) (named_tree arcs)

chord_bottoms : (lts : System) (tree : List Arc) (basis : CycleBasis) (expression : RowName → Expression) (shares : List Share) (cs : List ℕ)
    (xs : List Ratio) → each (chord_fold lts tree basis expression shares) cs (Ok xs) → AllPositive (map (λ r. r.bottom) xs)
chord_bottoms lts tree basis expression shares [] xs e = subst (λ (l : List Ratio). AllPositive (map (λ r. r.bottom) l)) (sym e) tt
chord_bottoms lts tree basis expression shares (c ∷ cs) xs (x, fold, (rest, more, e)) =
    subst (λ (l : List Ratio). AllPositive (map (λ r. r.bottom) l)) (sym e)
    (chord_bottom lts tree basis expression shares c x fold, chord_bottoms lts tree basis expression shares cs rest more)

both_positive : (rs xs : List Ratio) → AllPositive (map (λ r. r.bottom) rs) → AllPositive (map (λ r. r.bottom) xs) → AllPositive (map (λ r. r.bottom) (rs ++ xs))
both_positive [] xs p q = q
both_positive (r ∷ rs) xs (h, p) q = (h, both_positive rs xs p q)

share_bottoms : (shares : List Share) → All (λ s. pos 0 <ℤ s.multiplier.bottom) shares → AllPositive (map (λ r. r.bottom) (map (λ s. s.multiplier) shares))
share_bottoms [] all = tt
share_bottoms (s ∷ shares) all = (All-head (λ u. pos 0 <ℤ u.multiplier.bottom) s shares all, share_bottoms shares (All-tail (λ u. pos 0 <ℤ u.multiplier.bottom) s shares all))

whole_positive : (m : ℤ) (r : Ratio) → pos 0 <ℤ m → pos 0 <ℤ r.bottom → pos 0 <ℤ r.top → Divides r.bottom m → pos 0 <ℤ whole_in m r
whole_positive m r positive bottom top d = mul_positive r.top (int_div m r.bottom) top
    (factor_positive r.bottom (int_div m r.bottom) (weaker r.bottom bottom) (subst (λ x. pos 0 <ℤ x) (part_is r.bottom m d) positive))
  where
    weaker : (d : ℤ) → pos 0 <ℤ d → pos 0 ≤ℤ d
    weaker d h = omega (arith, ints)

-- ---- arcs

arc_value : (lts : System) (tree : List Arc) (expression : RowName → Expression) → SaysArcs expression → (start : ℤ) (effect : ℕ → ℤ) (a : Arc)
    → a.label < labels lts → value_in (numbers_along lts tree start effect) (expression (arc_name a)).terms ≡ chord_sum lts tree effect a
arc_value lts tree expression says start effect a lt =
    ap (λ (e : Expression). value_in (numbers_along lts tree start effect) e.terms) (says a)
    ∙ close (potential lts tree start effect a.from) (effect a.label) (potential lts tree start effect a.to) ∙ arc_sum lts tree start effect a lt
  where
    close : (x e y : ℤ) → (pos 1 *ℤ x) +ℤ ((pos 1 *ℤ e) +ℤ ((negsuc 0 *ℤ y) +ℤ pos 0)) ≡ (x +ℤ e) -ℤ y
    close x e y = omega (arith, ints)

in_times : (arcs : List Arc) (zs : List ℤ) (x : ArcTimes) → Contains (arc_times arcs zs) x → Contains arcs x.arc
in_times [] zs x (k, lt, e) = absurd (omega arith)
in_times (a ∷ arcs) [] x (k, lt, e) = absurd (omega arith)
in_times (a ∷ arcs) (z ∷ zs) x has = ⊎_elim (λ e. (0, omega arith, ap (λ (u : ArcTimes). u.arc) e))
    (λ there. (let (k, lt, at) = in_times arcs zs x there in (suc k, omega arith, at)))
    (Contains-cons_cases (record { arc = a; multiplier = z }) x (arc_times arcs zs) has)

in_arcs : (arcs : List ArcTimes) (x : ArcTimes) → Contains arcs x → Contains (map (λ y. y.arc) arcs) x.arc
in_arcs arcs x has = map_there (λ y. y.arc) arcs x has

-- the row of an arc names states and a label of the system
arc_within : (lts : System) (expression : RowName → Expression) → IsInRange lts → SaysArcs expression → (a : Arc) → Contains lts.arcs a
    → All (IsTermWithin (states lts) (labels lts)) (expression (arc_name a)).terms
arc_within lts expression fine says a has =
    let ranges = arc_in_range lts fine a.from a.label a.to has in
    subst (λ (e : Expression). All (IsTermWithin (states lts) (labels lts)) e.terms) (sym (says a))
    (All-cons (IsTermWithin (states lts) (labels lts)) (plus (Tokens a.from)) (plus (Effect a.label) ∷ minus (Tokens a.to) ∷ []) ranges.0
    (All-cons (IsTermWithin (states lts) (labels lts)) (plus (Effect a.label)) (minus (Tokens a.to) ∷ []) ranges.1
    (All-cons (IsTermWithin (states lts) (labels lts)) (minus (Tokens a.to)) [] ranges.2 (All-nil (IsTermWithin (states lts) (labels lts))))))

all_of : (arcs : List ArcTimes) (P : Arc → Type 0) → ((x : ArcTimes) → Contains arcs x → P x.arc) → All (λ x. P x.arc) arcs
all_of [] P has = All-nil (λ x. P x.arc)
all_of (x ∷ arcs) P has = All-cons (λ y. P y.arc) x arcs (has x (0, omega arith, refl)) (all_of arcs P (λ y (k, lt, e). has y (suc k, omega arith, e)))

-- ---- all rows together

module _ (lts : System) (tree : List Arc) (basis : CycleBasis) (expression : RowName → Expression) (shares : List Share) (m : ℤ) (xs : List Ratio) (arcs : List ArcTimes)
    (fine : IsInRange lts) (reached : IsAllReachable lts) (g : IsTree lts tree) (is : IsBasis lts tree basis) (says : SaysArcs expression)
    (inside : (a : Arc) → Contains (chord_arcs lts tree basis ++ tree) a → Contains lts.arcs a) (within : AreRowsWithin lts expression shares)
    (folds : each (chord_fold lts tree basis expression shares) (used_chords lts basis) (Ok xs))
    (divide : AllDivide (map (λ r. r.bottom) (map (λ s. s.multiplier) shares)) m) (divide_chords : AllDivide (map (λ r. r.bottom) xs) m)
    (runs : Runs expression (weighted m shares ++ named_from (map arc_name (chord_arcs lts tree basis)) (map (whole_in m) xs)) tree arcs)
    (refute : RefuteOnArcs lts expression (weighted m shares)) where
  abbrev pub rows_before : List NamedRow
  rows_before = weighted m shares ++ named_from (map arc_name (chord_arcs lts tree basis)) (map (whole_in m) xs)

  abbrev pub all_rows : List NamedRow
  all_rows = (weighted m shares ++ named_from (map arc_name (chord_arcs lts tree basis)) (map (whole_in m) xs)) ++ tree_rows arcs

  -- what g of all rows' names adds up to
  parts_sum : (h : RowName → ℤ) → rows_sum h all_rows
      ≡ (rows_sum h (weighted m shares) +ℤ sum_over (λ r. r.multiplier *ℤ h (arc_name r.arc))
      (arc_times (chord_arcs lts tree basis) (map (whole_in m) xs))) +ℤ sum_over (λ x. x.multiplier *ℤ h (arc_name x.arc)) arcs
  parts_sum h =
      sum_over-append (λ r. r.multiplier *ℤ h r.name) rows_before (tree_rows arcs)
      ∙ ap₂ ◌+ℤ◌ (sum_over-append (λ r. r.multiplier *ℤ h r.name) (weighted m shares) (named_from (map arc_name (chord_arcs lts tree basis)) (map (whole_in m) xs))
      ∙ ap (λ z. rows_sum h (weighted m shares) +ℤ z) (arcs_named h (chord_arcs lts tree basis) (map (whole_in m) xs)))
      (sum_over-map (λ r. r.multiplier *ℤ h r.name) (λ x. record { multiplier = x.multiplier; name = arc_name x.arc }) arcs)

  label_of : (a : Arc) → Contains (chord_arcs lts tree basis ++ tree) a → a.label < labels lts
  label_of a has = arc_label lts a fine (inside a has)

  tree_has : (x : ArcTimes) → Contains arcs x → Contains tree x.arc
  tree_has x has = subst (λ l. Contains l x.arc) runs.arcs_are (in_arcs arcs x has)

  -- the terms cancel at all numbers along the tree
  cancel_along : (start : ℤ) (effect : ℕ → ℤ) → terms_sum expression all_rows (numbers_along lts tree start effect) ≡ pos 0
  cancel_along start effect =
      parts_sum (λ name. value_in (numbers_along lts tree start effect) (expression name).terms)
      ∙ close (terms_sum expression (weighted m shares) (numbers_along lts tree start effect))
      (sum_over (λ x. x.multiplier *ℤ value_in (numbers_along lts tree start effect) (expression (arc_name x.arc)).terms)
      (arc_times (chord_arcs lts tree basis) (map (whole_in m) xs)))
      (sum_over (λ x. x.multiplier *ℤ value_in (numbers_along lts tree start effect) (expression (arc_name x.arc)).terms) arcs)
      (ap (λ z. terms_sum expression (weighted m shares) (numbers_along lts tree start effect) +ℤ z)
      (sum_over-same _ (λ r. r.multiplier *ℤ chord_sum lts tree effect r.arc) (arc_times (chord_arcs lts tree basis) (map (whole_in m) xs))
      (λ r has. ap (λ z. r.multiplier *ℤ z) (arc_value lts tree expression says start effect r.arc
      (label_of r.arc (Contains-append_left (chord_arcs lts tree basis) tree r.arc (in_times (chord_arcs lts tree basis) (map (whole_in m) xs) r has)))))) ∙ named)
      (sum_over-zero (λ x. x.multiplier *ℤ value_in (numbers_along lts tree start effect) (expression (arc_name x.arc)).terms) arcs
      (λ x has. ap (λ z. x.multiplier *ℤ z) (arc_value lts tree expression says start effect x.arc
      (label_of x.arc (Contains-append_right (chord_arcs lts tree basis) tree x.arc (tree_has x has))) ∙ tree_sum lts tree effect x.arc g (tree_has x has))
      ∙ *ℤ-zero x.multiplier))
    where
      close : (a b c : ℤ) → a +ℤ b ≡ pos 0 → c ≡ pos 0 → (a +ℤ b) +ℤ c ≡ pos 0
      close a b c p q = omega (arith, ints)

      named : terms_sum expression (weighted m shares) (numbers_along lts tree start effect)
          +ℤ sum_over (λ r. r.multiplier *ℤ chord_sum lts tree effect r.arc) (arc_times (chord_arcs lts tree basis) (map (whole_in m) xs)) ≡ pos 0
      named =
          let (b, positive, divides) = common_bottom (λ t. (basis.relation t).d) (dependent_labels (labels lts) basis) (λ t has. (relation_row lts tree basis is t has).positive) in
          rows_cancel lts tree basis expression shares m b (λ t. int_div b (basis.relation t).d) divide
          (λ t has. part_is (basis.relation t).d b (divides t has)) fine g is positive within refute xs folds divide_chords start effect

  -- the rows name states and labels of the system
  rows_within : RowsWithin (states lts) (labels lts) expression all_rows
  rows_within = All-append (λ r. All (IsTermWithin (states lts) (labels lts)) (expression r.name).terms) rows_before (tree_rows arcs)
      (All-append (λ r. All (IsTermWithin (states lts) (labels lts)) (expression r.name).terms) (weighted m shares)
      (named_from (map arc_name (chord_arcs lts tree basis)) (map (whole_in m) xs))
      (All-map (λ r. All (IsTermWithin (states lts) (labels lts)) (expression r.name).terms) (λ s. record { multiplier = whole_in m s.multiplier; name = s.name }) shares
      within) (chords (chord_arcs lts tree basis) (map (whole_in m) xs) (λ a has. Contains-append_left (chord_arcs lts tree basis) tree a has)))
      (All-map (λ r. All (IsTermWithin (states lts) (labels lts)) (expression r.name).terms) (λ x. record { multiplier = x.multiplier; name = arc_name x.arc }) arcs
      (all_of arcs (λ a. All (IsTermWithin (states lts) (labels lts)) (expression (arc_name a)).terms)
      (λ x has. arc_within lts expression fine says x.arc (inside x.arc (Contains-append_right (chord_arcs lts tree basis) tree x.arc (tree_has x has))))))
    where
      chords : (cs : List Arc) (zs : List ℤ) → ((a : Arc) → Contains cs a → Contains (chord_arcs lts tree basis ++ tree) a)
          → All (λ r. All (IsTermWithin (states lts) (labels lts)) (expression r.name).terms) (named_from (map arc_name cs) zs)
      chords [] zs has = All-nil (λ r. All (IsTermWithin (states lts) (labels lts)) (expression r.name).terms)
      chords (a ∷ cs) [] has = All-nil (λ r. All (IsTermWithin (states lts) (labels lts)) (expression r.name).terms)
      chords (a ∷ cs) (z ∷ zs) has = All-cons (λ r. All (IsTermWithin (states lts) (labels lts)) (expression r.name).terms)
          (record { multiplier = z; name = arc_name a }) (named_from (map arc_name cs) zs)
          (arc_within lts expression fine says a (inside a (has a (0, omega arith, refl)))) (chords cs zs (λ u (k, lt, e). has u (suc k, omega arith, e)))

  -- ---- variable by variable

  abbrev pub left_over : Variable → ℤ
  left_over v = coefficient_sum expression ((weighted m shares ++ named_from (map arc_name (chord_arcs lts tree basis)) (map (whole_in m) xs)) ++ tree_rows arcs) v

  along_split : (start : ℤ) (effect : ℕ → ℤ) → by_variable (states lts) (labels lts) left_over (numbers_along lts tree start effect) ≡ pos 0
  along_split start effect = sym (terms_split (states lts) (labels lts) expression (numbers_along lts tree start effect) all_rows rows_within) ∙ cancel_along start effect

  other_state : (q : ℕ) → q < states lts → q ≢ lts.initial → left_over (Tokens q) ≡ pos 0
  other_state q lt ne =
      sum_over-append (λ r. r.multiplier *ℤ coefficient_in (expression r.name).terms (Tokens q)) rows_before (tree_rows arcs)
      ∙ ap (λ z. coefficient_sum expression rows_before (Tokens q) +ℤ z)
      (sum_over-map (λ r. r.multiplier *ℤ coefficient_in (expression r.name).terms (Tokens q))
      (λ x. record { multiplier = x.multiplier; name = arc_name x.arc }) arcs ∙ sum_over-same _ (λ x. x.multiplier *ℤ arc_at q x.arc) arcs
      (λ x has. ap (λ z. x.multiplier *ℤ z) (arc_coefficient expression says x.arc q)))
      ∙ state_sum lts expression rows_before (lts.initial ∷ []) q arcs
      (subst (Grows lts (lts.initial ∷ [])) (sym runs.arcs_are) g) runs.balanced lacks (subst (λ l. Contains (map (λ a. a.to) l) q) (sym runs.arcs_are) entered)
    where
      lacks : ¬ Contains (lts.initial ∷ []) q
      lacks has = ⊎_elim (λ e. ne (sym e)) (λ (k, lt', e). omega arith) (Contains-cons_cases lts.initial q [] has)

      entered : Contains (map (λ a. a.to) tree) q
      entered = ⊎_elim (λ e. absurd (ne (sym e))) (λ h. h) (Contains-cons_cases lts.initial q (map (λ a. a.to) tree) (reachable_is_met lts tree q g (reached.each q lt)))

  initial_state : left_over (Tokens lts.initial) ≡ pos 0
  initial_state = close (left_over (Tokens lts.initial)) _ _ one
      (sym (sum_below-only (states lts) lts.initial (λ q. left_over (Tokens q) *ℤ potential lts tree (pos 1) (λ t. pos 0) q) fine.initial
      (λ q lt ne. ap (λ z. z *ℤ potential lts tree (pos 1) (λ t. pos 0) q) (other_state q lt ne) ∙ zero-*ℤ (potential lts tree (pos 1) (λ t. pos 0) q)))
      ∙ last _ ∙ ap (λ z. sum_below (states lts) (λ q. left_over (Tokens q) *ℤ potential lts tree (pos 1) (λ t. pos 0) q) +ℤ z)
      (sym (sum_below-zero (labels lts) (λ u. left_over (Effect u) *ℤ pos 0) (λ u lt. *ℤ-zero (left_over (Effect u)))))
      ∙ along_split (pos 1) (λ t. pos 0))
    where
      one : potential lts tree (pos 1) (λ t. pos 0) lts.initial ≡ pos 1
      one = ap (λ z. pos 1 +ℤ z) (sum_below-zero (labels lts) (λ t. pos (parikh tree lts.initial t) *ℤ pos 0) (λ t lt. *ℤ-zero (pos (parikh tree lts.initial t))))

      last : (z : ℤ) → z ≡ z +ℤ pos 0
      last z = omega (arith, ints)

      close : (c p z : ℤ) → p ≡ pos 1 → c *ℤ p ≡ z → c ≡ z
      close c p z e h = times_one c ∙ ap (λ y. c *ℤ y) (sym e) ∙ h
        where
          times_one : (c : ℤ) → c ≡ c *ℤ pos 1
          times_one c = omega (arith, ints)

  state_cancels : (q : ℕ) → q < states lts → left_over (Tokens q) ≡ pos 0
  state_cancels q lt = ⊎_elim (λ e. subst (λ u. left_over (Tokens u) ≡ pos 0) (sym e) initial_state) (λ ne. other_state q lt ne) (cases_eq q lts.initial)

  label_cancels : (u : ℕ) → u < labels lts → left_over (Effect u) ≡ pos 0
  label_cancels u lt =
      sym (sum_one (labels lts) u (λ t. left_over (Effect t)) lt)
      ∙ first _
      ∙ ap (λ z. z +ℤ sum_below (labels lts) (λ t. left_over (Effect t) *ℤ only u (pos 1) t))
      (sym (sum_below-zero (states lts) (λ q. left_over (Tokens q) *ℤ potential lts tree (pos 0) (only u (pos 1)) q)
      (λ q lt'. ap (λ z. z *ℤ potential lts tree (pos 0) (only u (pos 1)) q) (state_cancels q lt') ∙ zero-*ℤ (potential lts tree (pos 0) (only u (pos 1)) q))))
      ∙ along_split (pos 0) (only u (pos 1))
    where
      first : (z : ℤ) → z ≡ pos 0 +ℤ z
      first z = omega (arith, ints)

  pub all_cancel : (v : Variable) → left_over v ≡ pos 0
  all_cancel (Tokens q) = ⊎_elim (λ lt. state_cancels q lt) (λ le. outside_sum (states lts) (labels lts) expression all_rows (Tokens q) rows_within (λ lt. omega arith)) (cases_lt q (states lts))
  all_cancel (Effect u) = ⊎_elim (λ lt. label_cancels u lt) (λ le. outside_sum (states lts) (labels lts) expression all_rows (Effect u) rows_within (λ lt. omega arith)) (cases_lt u (labels lts))

  -- the constants are those of the named rows
  pub constants_are : constant_sum expression all_rows ≡ constant_sum expression (weighted m shares)
  constants_are = parts_sum (λ name. (expression name).constant) ∙ close (constant_sum expression (weighted m shares))
      (sum_over (λ r. r.multiplier *ℤ (expression (arc_name r.arc)).constant) (arc_times (chord_arcs lts tree basis) (map (whole_in m) xs)))
      (sum_over (λ x. x.multiplier *ℤ (expression (arc_name x.arc)).constant) arcs)
      (sum_over-zero (λ r. r.multiplier *ℤ (expression (arc_name r.arc)).constant) (arc_times (chord_arcs lts tree basis) (map (whole_in m) xs))
      (λ r has. none r.multiplier r.arc)) (sum_over-zero (λ x. x.multiplier *ℤ (expression (arc_name x.arc)).constant) arcs (λ x has. none x.multiplier x.arc))
    where
      none : (k : ℤ) (a : Arc) → k *ℤ (expression (arc_name a)).constant ≡ pos 0
      none k a = ap (λ (e : Expression). k *ℤ e.constant) (says a) ∙ *ℤ-zero k

      close : (a b c : ℤ) → b ≡ pos 0 → c ≡ pos 0 → (a +ℤ b) +ℤ c ≡ a
      close a b c p q = omega (arith, ints)

-- ---- the leaf

-- positive multiples of rows that cancel
scaled_zero : (d z y : ℤ) → pos 0 <ℤ d → d *ℤ z ≡ y → y ≡ pos 0 → z ≡ pos 0
scaled_zero d z y positive e n = mul_is_zero z d (positive_differs d positive) (turn z d ∙ e ∙ n)
  where
    turn : (z d : ℤ) → z *ℤ d ≡ d *ℤ z
    turn z d = simp ring

scaled_negative : (d z y : ℤ) → pos 0 <ℤ d → d *ℤ z ≡ y → y <ℤ pos 0 → z <ℤ pos 0
scaled_negative d z y positive e n = ⊎_elim (λ lt. lt) (λ le. absurd (both (d *ℤ z) y e n (mul_not_negative d z (weaker d positive) le))) (negative_or_not z)
  where
    weaker : (d : ℤ) → pos 0 <ℤ d → pos 0 ≤ℤ d
    weaker d h = omega (arith, ints)

    both : (x y : ℤ) → x ≡ y → y <ℤ pos 0 → pos 0 ≤ℤ x → ⊥
    both x y e n h = omega (arith, ints)

    negative_or_not : (z : ℤ) → (z <ℤ pos 0) ⊎ (pos 0 ≤ℤ z)
    negative_or_not (pos n) = inr (omega (arith, ints))
    negative_or_not (negsuc n) = inl (omega (arith, ints))

module _ (lts : System) (tree : List Arc) (basis : CycleBasis) (stands : RowName → Type 0) (expression : RowName → Expression) (shares : List Share)
    (well : IsWellFormed lts) (reached : IsAllReachable lts) (g : IsTree lts tree) (is : IsBasis lts tree basis) (says : SaysArcs expression)
    (arcs_stand : (a : Arc) → Contains lts.arcs a → stands (arc_name a)) (stand : All (λ s. stands s.name) shares) (within : AreRowsWithin lts expression shares)
    (bottoms : All (λ s. pos 0 <ℤ s.multiplier.bottom) shares) (refute : SharesRefute lts expression shares)
    (xs : List Ratio) (folds : each (chord_fold lts tree basis expression shares) (used_chords lts basis) (Ok xs)) (m : ℤ) (positive : pos 0 <ℤ m)
    (divide : AllDivide (map (λ r. r.bottom) (map (λ s. s.multiplier) shares)) m) (divide_chords : AllDivide (map (λ r. r.bottom) xs) m)
    (arcs : List ArcTimes) (runs : Runs expression (weighted m shares ++ named_from (map arc_name (chord_arcs lts tree basis)) (map (whole_in m) xs)) tree arcs) (d : ℤ)
    (d_positive : pos 0 <ℤ d) (parts : List ℤ)
    (numbers_are : map (whole_in m) (map (λ s. s.multiplier) shares ++ xs) ++ map (λ x. x.multiplier) arcs ≡ map (λ z. d *ℤ z) parts) where
  abbrev leaf_rows : List NamedRow
  leaf_rows = not_zero (named_from (map (λ s. s.name) shares) parts
      ++ map (λ a. record {
        multiplier = multiplier_among (chord_arcs lts tree basis ++ map (λ x. x.arc) arcs) (drop (length shares) parts) a;
        name = arc_name a;
      }) lts.arcs)

  refuted : RefuteOnArcs lts expression (weighted m shares)
  refuted = refute.refute m (weighted m shares) positive (are_shares m shares divide)

  inside : (a : Arc) → Contains (chord_arcs lts tree basis ++ tree) a → Contains lts.arcs a
  inside = given_inside lts tree basis is (ordered_differ lts.arcs well.arc_order) g

  names_length : length (map (λ s. s.name) shares ++ map arc_name (chord_arcs lts tree basis)) ≡ length (map (whole_in m) (map (λ s. s.multiplier) shares ++ xs))
  names_length =
      let a = length-append (map (λ s. s.name) shares) (map arc_name (chord_arcs lts tree basis)) in
      let b = length-map shares (λ s. s.name) in
      let c = length-map (chord_arcs lts tree basis) arc_name in
      let c' = length-map (used_chords lts basis) (used_chord lts tree basis) in
      let e = length-map (map (λ s. s.multiplier) shares ++ xs) (whole_in m) in
      let f = length-append (map (λ s. s.multiplier) shares) xs in
      let h = length-map shares (λ s. s.multiplier) in
      let k = each_length (chord_fold lts tree basis expression shares) (used_chords lts basis) xs folds in
      omega arith

  parts_length : length (map (λ s. s.name) shares) + length (chord_arcs lts tree basis ++ map (λ x. x.arc) arcs) ≤ length parts
  parts_length =
      let a = ap length numbers_are in
      let b = length-map parts (λ z. d *ℤ z) in
      let c = length-append (map (whole_in m) (map (λ s. s.multiplier) shares ++ xs)) (map (λ x. x.multiplier) arcs) in
      let e = length-map arcs (λ x. x.multiplier) in
      let f = length-map arcs (λ x. x.arc) in
      let h = length-append (map (λ s. s.name) shares) (map arc_name (chord_arcs lts tree basis)) in
      let k = length-map (chord_arcs lts tree basis) arc_name in
      let l = length-append (chord_arcs lts tree basis) (map (λ x. x.arc) arcs) in
      let n = names_length in
      omega arith

  leaf_scaled : (h : RowName → ℤ) → d *ℤ rows_sum h leaf_rows ≡ rows_sum h ((weighted m shares ++ named_from (map arc_name (chord_arcs lts tree basis)) (map (whole_in m) xs)) ++ tree_rows arcs)
  leaf_scaled h =
      ap (λ n. d *ℤ rows_sum h (not_zero (named_from (map (λ s. s.name) shares) parts
      ++ map (λ a. record { multiplier = multiplier_among (chord_arcs lts tree basis ++ map (λ x. x.arc) arcs) (drop n parts) a; name = arc_name a }) lts.arcs)))
      (sym (length-map shares (λ s. s.name)))
      ∙ ap (λ z. d *ℤ z) (leaf_sum h (map (λ s. s.name) shares) lts.arcs (chord_arcs lts tree basis ++ map (λ x. x.arc) arcs) parts
      (ordered_differ lts.arcs well.arc_order) differ (λ a has. inside a (subst (λ l. Contains (chord_arcs lts tree basis ++ l) a) runs.arcs_are has)) parts_length)
      ∙ sym (named-scaled h d (map (λ s. s.name) shares ++ map arc_name (chord_arcs lts tree basis ++ map (λ x. x.arc) arcs)) parts)
      ∙ ap (λ zs. rows_sum h (named_from (map (λ s. s.name) shares ++ map arc_name (chord_arcs lts tree basis ++ map (λ x. x.arc) arcs)) zs)) (sym numbers_are)
      ∙ ap (λ ns. rows_sum h (named_from ns (map (whole_in m) (map (λ s. s.multiplier) shares ++ xs) ++ map (λ x. x.multiplier) arcs)))
      (ap (λ l. map (λ s. s.name) shares ++ l) (map-append arc_name (chord_arcs lts tree basis) (map (λ x. x.arc) arcs))
      ∙ sym (append_assoc (map (λ s. s.name) shares) (map arc_name (chord_arcs lts tree basis)) (map arc_name (map (λ x. x.arc) arcs))))
      ∙ ap (rows_sum h) (named_both (map (λ s. s.name) shares ++ map arc_name (chord_arcs lts tree basis)) (map arc_name (map (λ x. x.arc) arcs))
      (map (whole_in m) (map (λ s. s.multiplier) shares ++ xs)) (map (λ x. x.multiplier) arcs) names_length
      ∙ ap₂ (λ l k. l ++ k) (named_shares m shares (map arc_name (chord_arcs lts tree basis)) xs) (named_tree arcs))
    where
      differ : Differ (chord_arcs lts tree basis ++ map (λ x. x.arc) arcs)
      differ = subst (λ l. Differ (chord_arcs lts tree basis ++ l)) (sym runs.arcs_are) (given_differ lts tree basis is (ordered_differ lts.arcs well.arc_order) g)

  -- what holds of named rows and of arcs holds of the leaf
  all_of_leaf : (P : NamedRow → Type 0) → All P (named_from (map (λ s. s.name) shares) parts)
      → ((a : Arc) → Contains lts.arcs a → P (record {
        multiplier =
            multiplier_among (chord_arcs lts tree basis ++ map (λ x. x.arc) arcs) (drop (length shares) parts) a;
        name = arc_name a;
      })) → All P leaf_rows
  all_of_leaf P named has = all_not_zero P
      (named_from (map (λ s. s.name) shares) parts ++ map
      (λ a. record { multiplier = multiplier_among (chord_arcs lts tree basis ++ map (λ x. x.arc) arcs) (drop (length shares) parts) a; name = arc_name a }) lts.arcs)
      (All-append P (named_from (map (λ s. s.name) shares) parts)
      (map (λ a. record { multiplier = multiplier_among (chord_arcs lts tree basis ++ map (λ x. x.arc) arcs) (drop (length shares) parts) a; name = arc_name a })
      lts.arcs) named (all_arcs P (multiplier_among (chord_arcs lts tree basis ++ map (λ x. x.arc) arcs) (drop (length shares) parts)) lts.arcs has))

  arc_is_within : (a : Arc) → Contains lts.arcs a → All (IsTermWithin (states lts) (labels lts)) (expression (arc_name a)).terms
  arc_is_within a has = arc_within lts expression well.in_range says a has

  pub refutes_with : (rows : List NamedRow) → checked_leaf lts expression leaf_rows (Ok rows) → rows ≡ leaf_rows → All (λ r. InRange r.multiplier) leaf_rows → LeafRefutes stands expression leaf_rows
  refutes_with rows checked e range = record {
    stand = all_of_leaf (λ r. stands r.name) (all_named stands shares parts stand) (λ a has. arcs_stand a has);
    positive = all_of_leaf (λ r. IsMultiplier r.multiplier r.name)
        (positive_named d m shares parts (map (whole_in m) xs ++ map (λ x. x.multiplier) arcs) d_positive
        (λ s has. whole_positive m s.multiplier positive (All-contains (λ u. pos 0 <ℤ u.multiplier.bottom) shares s bottoms has)
        (All-contains (λ u. pos 0 <ℤ u.multiplier.top) shares s refute.positive has) (divides_share m shares s divide has)) first_numbers) (λ a has. tt);
    small = is_small lts expression leaf_rows rows
        (all_of_leaf (λ r. All (IsTermWithin (states lts) (labels lts)) (expression r.name).terms)
        (all_named (λ name. All (IsTermWithin (states lts) (labels lts)) (expression name).terms) shares parts within) arc_is_within) range checked;
    cancels = λ v. scaled_zero d (coefficient_sum expression leaf_rows v) _ d_positive
        (leaf_scaled (λ name. coefficient_in (expression name).terms v))
        (all_cancel lts tree basis expression shares m xs arcs well.in_range reached g is says inside within folds divide divide_chords runs refuted v);
    contradicts = scaled_negative d (constant_sum expression leaf_rows) _ d_positive (leaf_scaled (λ name. (expression name).constant))
        (subst (λ z. z <ℤ pos 0) (sym (constants_are lts tree basis expression shares m xs arcs well.in_range reached g is says inside within folds divide divide_chords
        runs refuted)) refuted.contradict);
  }
    where
      first_numbers : map (whole_in m) (map (λ s. s.multiplier) shares) ++ (map (whole_in m) xs ++ map (λ x. x.multiplier) arcs) ≡ map (λ z. d *ℤ z) parts
      first_numbers = sym (append_assoc (map (whole_in m) (map (λ s. s.multiplier) shares)) (map (whole_in m) xs) (map (λ x. x.multiplier) arcs))
          ∙ ap (λ l. l ++ map (λ x. x.multiplier) arcs) (sym (map-append (whole_in m) (map (λ s. s.multiplier) shares) xs)) ∙ numbers_are

-- the leaf of shares that stand and refute refutes
pub leaf_refutes : (lts : System) (tree : List Arc) (basis : CycleBasis) (stands : RowName → Type 0) (expression : RowName → Expression) (shares : List Share) (rows : List NamedRow)
    → IsWellFormed lts → IsAllReachable lts → IsTree lts tree → IsBasis lts tree basis → SaysArcs expression → ((a : Arc) → Contains lts.arcs a → stands (arc_name a))
    → All (λ s. stands s.name) shares → AreRowsWithin lts expression shares → All (λ s. pos 0 <ℤ s.multiplier.bottom) shares → SharesRefute lts expression shares
    → leaf_fold lts tree basis expression shares (Ok rows) → All (λ r. InRange r.multiplier) rows → LeafRefutes stands expression rows
leaf_refutes lts tree basis stands expression shares rows well reached g is says arcs_stand stand within bottoms refute
    (xs, folds, (scaled, scales, (arcs, runs_fold, (parts, parts_are, checked)))) range =
    let divides = divide_both (map (λ s. s.multiplier) shares) xs scaled.multiple (scaled_divide (map (λ s. s.multiplier) shares ++ xs) scaled scales) in
    let numbers = scaled_are (map (λ s. s.multiplier) shares ++ xs) scaled scales in
    let positive = scaled_positive (map (λ s. s.multiplier) shares ++ xs) scaled
    (both_positive (map (λ s. s.multiplier) shares) xs (share_bottoms shares bottoms)
    (chord_bottoms lts tree basis expression shares (used_chords lts basis) xs folds)) scales in
    let runs : Runs expression (weighted scaled.multiple shares ++ named_from (map arc_name (chord_arcs lts tree basis)) (map (whole_in scaled.multiple) xs)) tree arcs =
    tree_runs expression _ tree arcs (subst (λ l. tree_fold expression l [] (reverse tree) (Ok arcs))
    (ap (named_from (map (λ s. s.name) shares ++ map arc_name (chord_arcs lts tree basis))) numbers
    ∙ named_shares scaled.multiple shares (map arc_name (chord_arcs lts tree basis)) xs) runs_fold) in
    let e = checked.2.2 in
    subst (λ (l : List NamedRow). LeafRefutes stands expression l) (sym e)
    (refutes_with lts tree basis stands expression shares well reached g is says arcs_stand stand within bottoms refute xs folds scaled.multiple positive divides.0
    divides.1 arcs runs (pos (max parts_are.divisor 1)) (at_least (max parts_are.divisor 1) (omega arith)) parts
    (ap (λ l. l ++ map (λ x. x.multiplier) arcs) (sym numbers) ∙ parts_are.parts_are) rows checked e (subst (All (λ r. InRange r.multiplier)) e range))
  where
    at_least : (n : ℕ) → 0 < n → pos 0 <ℤ pos n
    at_least n lt = omega (arith, ints)
