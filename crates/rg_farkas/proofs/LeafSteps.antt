-- The steps of the leaf's fold.
use Rattle.std.proofs.Common.{◌≡◌, inl, inr, ℕ, suc, max, ◌+◌, ◌-◌, ◌<◌, ◌≤◌, ◌^◌, ◌||◌, not, Bool, true, false, if◌then◌else◌, List, [], ◌∷◌, ◌++◌, map, take, drop, reverse, length, Result, Ok, Err, Contains, All, ap, ap₂, refl, subst, sym, ◌∙◌, arith}
use Rattle.std.specs.Prelude.{ℤ, pos, ◌*ℤ◌, int_lt, slice_index_or}
use Rattle.std.proofs.lemmas.Bool.{true≢false}
use Rattle.std.proofs.lemmas.List.{length-map, length-append, length-drop, length-take, map-append, take_all}
use Rattle.std.proofs.lemmas.List.Elements.{All-nil, All-cons, All-head, All-tail, All-append, All-drop}
use Rattle.rg_theory.specs.declared.Arc.{Arc}
use Rattle.rg_theory.specs.System.{System, labels}
use Rattle.rg_theory.specs.Tree.{chords, same_arc}
use Rattle.rg_lts.specs.WellFormed.{IsWellFormed}
use Rattle.rg_integers.specs.Range.{InRange}
use Rattle.rg_case_folds.proofs.Lists.{where_is}
use Rattle.rg_linear.specs.Cycle.{CycleBasis}
use Rattle.rg_integers.specs.declared.term.Wide.{Wide}
use Rattle.rg_fraction.specs.declared.fraction.Fraction.{Fraction}
use Rattle.rg_cert_meaning.specs.Expression.{Expression}
use Rattle.rg_cert_meaning.specs.declared.RowName.{RowName}
use Rattle.rg_cert_meaning.specs.Refutes.{NamedRow}
use Rattle.rg_cert_data.specs.Trees.{named_row}
use Rattle.rg_folds.specs.Fold.{each, joined, add, whole, Ratio, ratio_of}
use Rattle.rg_case_folds.specs.Chords.{IsBasis, chord_vectors, chord_at}
use Rattle.rg_folds.specs.Substitution.{is_in, dependent_labels}
use Rattle.rg_case_folds.specs.Rewriting.{scaled_fold, Scaled as ScaledNumbers}
use Rattle.rg_case_folds.specs.Spreading.{Share, Pair, pairs_of, used_chords, chord_fold, chord_arcs, named_from, arc_name, ArcTimes, tree_fold, IsParts, multiplier_among, not_zero, checked_leaf, leaf_fold}
use Rattle.rg_cycles.proofs.Equations.{kept_few}
use Rattle.rg_cycles.proofs.Labels.{in_set}
use Rattle.rg_farkas.specs.Leaves.{share_of}
use Rattle.rg_farkas.specs.declared.multiplied.Row.{Row}
use Rattle.rg_farkas.specs.View.{LabelCount, pair_count, count_fold, counts_fold, named_of, Tells, arc_times}
use Rattle.rg_farkas.proofs.ChordSums.{in_pairs}
use Rattle.rg_farkas.proofs.ChordNumbers.{IsDependent}
use Rattle.rg_farkas.proofs.Listed.{zeros-append}
use Rattle.rg_case_folds.proofs.Items.{each_length}
use Rattle.rg_farkas.proofs.Steps.{joined-map}
use Rattle.rg_farkas.proofs.Told.{each_told}
use Rattle.rg_case_parts.proofs.TreeRows.{fewer as without_few}

-- ---- the chords

pub few_kept : (lts : System) (tree : List Arc) (basis : CycleBasis) → IsWellFormed lts → IsBasis lts tree basis → length basis.kept < 2 ^ 31
few_kept lts tree basis well is =
    let a = kept_few (chord_vectors lts tree) basis.kept is.kept in
    let b = without_few tree lts.arcs in
    let c = well.few_arcs in
    let d : length (chord_vectors lts tree) ≡ length (chords lts tree) = simp length-map refl in
    omega arith

module _ (lts : System) (tree : List Arc) (basis : CycleBasis) (expression : RowName → Expression) (shares : List Share) (counts : List LabelCount)
    (counted : counts ≡ map (pair_count tree expression) (pairs_of shares (dependent_labels (labels lts) basis))) where
  pair_dependent : (p : Pair) → Contains (pairs_of shares (dependent_labels (labels lts) basis)) p → IsDependent (labels lts) basis (pair_count tree expression p)
  pair_dependent p has =
      let (test, _, below) = where_is (λ t. not (is_in basis.members t)) 0 (labels lts) p.label (in_pairs shares (dependent_labels (labels lts) basis) p has).1 in
      (omega arith, λ member. true≢false (sym test ∙ ap not (in_set basis.members p.label member)))

  all_mapped : (ps : List Pair) → ((p : Pair) → Contains ps p → IsDependent (labels lts) basis (pair_count tree expression p))
      → All (IsDependent (labels lts) basis) (map (pair_count tree expression) ps)
  all_mapped [] all = All-nil (IsDependent (labels lts) basis)
  all_mapped (p ∷ ps) all = All-cons (IsDependent (labels lts) basis) (pair_count tree expression p) (map (pair_count tree expression) ps)
      (all p (0, omega arith, refl)) (all_mapped ps (λ q (i, lt, e). all q (suc i, omega arith, e)))

  pub all_dependent : All (IsDependent (labels lts) basis) counts
  all_dependent = subst (All (IsDependent (labels lts) basis)) (sym counted) (all_mapped (pairs_of shares (dependent_labels (labels lts) basis)) pair_dependent)

  chord_told : (c : ℕ) (r : Result Ratio Wide) → counts_fold basis counts (labels lts + c) r → chord_fold lts tree basis expression shares c r
  chord_told c (Ok y) (x, sum, e) = (x, summed c (Ok x) sum, e)
    where
      summed : (c : ℕ) (r : Result Ratio Wide) → joined add (count_fold basis (labels lts + c)) (whole (pos 0)) counts r
          → joined add (λ p. count_fold basis (labels lts + c) (pair_count tree expression p)) (whole (pos 0)) (pairs_of shares (dependent_labels (labels lts) basis)) r
      summed c r h = joined-map add (count_fold basis (labels lts + c)) (pair_count tree expression) (whole (pos 0))
          (pairs_of shares (dependent_labels (labels lts) basis)) r (subst (λ l. joined add (count_fold basis (labels lts + c)) (whole (pos 0)) l r) counted h)
  chord_told c (Err w) (inl sum) = inl (joined-map add (count_fold basis (labels lts + c)) (pair_count tree expression) (whole (pos 0))
      (pairs_of shares (dependent_labels (labels lts) basis)) (Err w) (subst (λ l. joined add (count_fold basis (labels lts + c)) (whole (pos 0)) l (Err w)) counted sum))
  chord_told c (Err w) (inr (x, sum, e)) = absurd e

  pub chords_told : (seen used : List ℕ) → seen ≡ used → used ≡ used_chords lts basis → (r : Result (List Ratio) Wide)
      → each (λ c. counts_fold basis counts (labels lts + c)) seen r → each (chord_fold lts tree basis expression shares) (used_chords lts basis) r
  chords_told seen used e e' r h = subst (λ l. each (chord_fold lts tree basis expression shares) l r) (e ∙ e')
      (each_told (λ c. counts_fold basis counts (labels lts + c)) (chord_fold lts tree basis expression shares) seen chord_told r h)

-- ---- step by step

module _ (lts : System) (tree : List Arc) (basis : CycleBasis) (expression : RowName → Expression) (shares : List Share) where
  pub leaf_unshared : (w : Wide) → each (chord_fold lts tree basis expression shares) (used_chords lts basis) (Err w) → leaf_fold lts tree basis expression shares (Err w)
  leaf_unshared w h = inl h

  module _ (xs : List Ratio) (shared : each (chord_fold lts tree basis expression shares) (used_chords lts basis) (Ok xs)) where
    pub leaf_unscaled : (w : Wide) → scaled_fold (map (λ r. r.multiplier) shares ++ xs) (Err w) → leaf_fold lts tree basis expression shares (Err w)
    leaf_unscaled w h = inr (xs, shared, inl h)

    module _ (scaled : ScaledNumbers) (scales : scaled_fold (map (λ r. r.multiplier) shares ++ xs) (Ok scaled)) where
      pub leaf_untreed : (w : Wide) → tree_fold expression
          (named_from (map (λ r. r.name) shares ++ map arc_name (chord_arcs lts tree basis)) scaled.numbers) [] (reverse tree) (Err w)
          → leaf_fold lts tree basis expression shares (Err w)
      leaf_untreed w h = inr (xs, shared, inr (scaled, scales, inl h))

      module _ (arcs : List ArcTimes) (treed : tree_fold expression
          (named_from (map (λ r. r.name) shares ++ map arc_name (chord_arcs lts tree basis)) scaled.numbers) [] (reverse tree) (Ok arcs))
          (parts : List ℤ) (parted : IsParts (scaled.numbers ++ map (λ x. x.multiplier) arcs) parts) where
        abbrev pub leaf_rows_of : List NamedRow
        leaf_rows_of = not_zero (named_from (map (λ r. r.name) shares) parts
            ++ map (λ a. record {
              multiplier = multiplier_among (chord_arcs lts tree basis ++ map (λ x. x.arc) arcs) (drop (length shares) parts) a;
              name = arc_name a;
            }) lts.arcs)

        pub leaf_unchecked : (w : Wide) → checked_leaf lts expression leaf_rows_of (Err w) → leaf_fold lts tree basis expression shares (Err w)
        leaf_unchecked w h = inr (xs, shared, inr (scaled, scales, inr (arcs, treed, inr (parts, parted, h))))

        pub leaf_made : (rows : List NamedRow) → checked_leaf lts expression leaf_rows_of (Ok rows) → leaf_fold lts tree basis expression shares (Ok rows)
        leaf_made rows h = (xs, shared, (scaled, scales, (arcs, treed, (parts, parted, h))))

-- ---- how long lists are

pub times_arcs : (arcs : List Arc) (zs : List ℤ) → length zs ≡ length arcs → map (λ x. x.arc) (arc_times arcs zs) ≡ arcs
times_arcs [] zs e = refl
times_arcs (a ∷ arcs) [] e = absurd (omega arith)
times_arcs (a ∷ arcs) (z ∷ zs) e = ap (λ l. a ∷ l) (times_arcs arcs zs (omega arith))

pub times_numbers : (arcs : List Arc) (zs : List ℤ) → length zs ≡ length arcs → map (λ x. x.multiplier) (arc_times arcs zs) ≡ zs
times_numbers [] [] e = refl
times_numbers [] (z ∷ zs) e = absurd (omega arith)
times_numbers (a ∷ arcs) [] e = absurd (omega arith)
times_numbers (a ∷ arcs) (z ∷ zs) e = ap (λ l. z ∷ l) (times_numbers arcs zs (omega arith))

pub parts_length : (numbers parts : List ℤ) → IsParts numbers parts → length parts ≡ length numbers
parts_length numbers parts is = sym (ap length is.parts_are ∙ length-map parts (λ z. pos (max is.divisor 1) *ℤ z))

-- ---- multipliers in range

pub named_range : (names : List RowName) (zs : List ℤ) → All InRange zs → All (λ r. InRange r.multiplier) (named_from names zs)
named_range [] zs all = All-nil (λ r. InRange r.multiplier)
named_range (n ∷ names) [] all = All-nil (λ r. InRange r.multiplier)
named_range (n ∷ names) (z ∷ zs) all = All-cons (λ r. InRange r.multiplier) (record { multiplier = z; name = n }) (named_from names zs)
    (All-head InRange z zs all) (named_range names zs (All-tail InRange z zs all))

pub not_zero_all : (P : NamedRow → Type 0) (rows : List NamedRow) → All P rows → All P (not_zero rows)
not_zero_all P [] all = All-nil P
not_zero_all P (r ∷ rows) all = go (int_lt r.multiplier (pos 0) || int_lt (pos 0) r.multiplier) (not_zero_all P rows (All-tail P r rows all))
  where
    go : (b : Bool) → All P (not_zero rows) → All P (if b then (r ∷ not_zero rows) else not_zero rows)
    go true h = All-cons P r (not_zero rows) (All-head P r rows all) h
    go false h = h

among_range : (arcs : List Arc) (zs : List ℤ) (a : Arc) → All InRange zs → InRange (multiplier_among arcs zs a)
among_range [] zs a all = omega arith
among_range (b ∷ arcs) [] a all = omega arith
among_range (b ∷ arcs) (z ∷ zs) a all = go (same_arc b a) (among_range arcs zs a (All-tail InRange z zs all))
  where
    go : (t : Bool) → InRange (multiplier_among arcs zs a) → InRange (if t then z else multiplier_among arcs zs a)
    go true h = All-head InRange z zs all
    go false h = h

pub arcs_range : (system arcs : List Arc) (zs : List ℤ) → All InRange zs
    → All (λ (r : NamedRow). InRange r.multiplier) (map (λ a. record { multiplier = multiplier_among arcs zs a; name = arc_name a }) system)
arcs_range [] arcs zs all = All-nil (λ r. InRange r.multiplier)
arcs_range (a ∷ system) arcs zs all = All-cons (λ r. InRange r.multiplier) (record { multiplier = multiplier_among arcs zs a; name = arc_name a })
    (map (λ a. record { multiplier = multiplier_among arcs zs a; name = arc_name a }) system) (among_range arcs zs a all) (arcs_range system arcs zs all)

pub rows_range : (rows : List (RowName × ℤ)) (l : List NamedRow) → map named_row rows ≡ l → All (λ r. InRange r.multiplier) l → All (λ r. InRange r.1) rows
rows_range rows l e all = go rows (subst (All (λ r. InRange r.multiplier)) (sym e) all)
  where
    go : (rows : List (RowName × ℤ)) → All (λ r. InRange r.multiplier) (map named_row rows) → All (λ r. InRange r.1) rows
    go [] all = All-nil (λ r. InRange r.1)
    go (r ∷ rows) all = All-cons (λ r. InRange r.1) r rows (All-head (λ r. InRange r.multiplier) (named_row r) (map named_row rows) all)
        (go rows (All-tail (λ r. InRange r.multiplier) (named_row r) (map named_row rows) all))

-- ---- the named rows of the shares

pub shared_names : (named : List (RowName × Fraction)) → map ratio_of (map (λ r. r.1) named) ≡ map (λ s. s.multiplier) (map share_of named)
shared_names [] = refl
shared_names (r ∷ named) = ap (λ l. ratio_of r.1 ∷ l) (shared_names named)

-- ---- what the code has at each step

pub fractions_are : (named : List (RowName × Fraction)) (seen shares fs seen' : List Fraction) → seen ≡ shares → fs ≡ map (λ r. r.1) named ++ seen
    → seen' ≡ fs → map ratio_of seen' ≡ map (λ s. s.multiplier) (map share_of named) ++ map ratio_of shares
fractions_are named seen shares fs seen' e made e' =
    ap (map ratio_of) (e' ∙ made ∙ ap (λ l. map (λ r. r.1) named ++ l) e) ∙ map-append ratio_of (map (λ r. r.1) named) shares
    ∙ ap (λ l. l ++ map ratio_of shares) (shared_names named)

pub numbered_length : (named : List (RowName × Fraction)) (lts : System) (tree : List Arc) (basis : CycleBasis) (seen used : List ℕ)
    (shares seen' fs seen'' : List Fraction) (numbers numbers' : List ℤ) (chords chords' : List Arc) → length shares ≡ length seen → seen ≡ used
    → used ≡ used_chords lts basis → seen' ≡ shares → fs ≡ map (λ r. r.1) named ++ seen' → seen'' ≡ fs → length numbers ≡ length seen'' → numbers' ≡ numbers
    → chords ≡ chord_arcs lts tree basis → chords' ≡ chords → length numbers' ≡ length named + length chords'
numbered_length named lts tree basis seen used shares seen' fs seen'' numbers numbers' chords chords' a b c d e f g h i j =
    ap length h ∙ g ∙ ap length (f ∙ e ∙ ap (λ l. map (λ r. r.1) named ++ l) d)
    ∙ simp (length-append, length-map) (ap (λ n. length named + n)
    (a ∙ ap length (b ∙ c) ∙ sym (ap length (j ∙ i) ∙ length-map (used_chords lts basis) (λ c. chord_at lts tree (slice_index_or basis.kept c 0)))))

pub shares_length : (lts : System) (basis : CycleBasis) (counts : List LabelCount) (used : List ℕ) (shares : List Fraction)
    → each (λ c. counts_fold basis counts (labels lts + c)) used (Ok (map ratio_of shares)) → length shares ≡ length used
shares_length lts basis counts used shares h = sym (length-map shares ratio_of) ∙ each_length (λ c. counts_fold basis counts (labels lts + c)) used (map ratio_of shares) h

module _ (lts : System) (tree : List Arc) (basis : CycleBasis) (named : List (RowName × Fraction)) where
  abbrev names : List RowName
  names = map (λ s. s.name) (map share_of named)

  pub listed_are : (chords chords' : List Arc) (numbers numbers' : List ℤ) (listed : List (RowName × ℤ)) → chords' ≡ chords → chords ≡ chord_arcs lts tree basis
      → numbers' ≡ numbers → map named_row listed ≡ named_from (map (λ s. s.name) (map share_of named) ++ map arc_name chords') numbers'
      → map named_row listed ≡ named_from (map (λ s. s.name) (map share_of named) ++ map arc_name (chord_arcs lts tree basis)) numbers
  listed_are chords chords' numbers numbers' listed a b c d = d ∙ ap₂ (λ l n. named_from (names ++ map arc_name l) n) (a ∙ b) c

  pub listed_range : (numbers : List ℤ) (listed listed' : List (RowName × ℤ)) → listed' ≡ listed
      → map named_row listed ≡ named_from (map (λ s. s.name) (map share_of named) ++ map arc_name (chord_arcs lts tree basis)) numbers
      → All InRange numbers → All (λ r. InRange r.1) listed'
  listed_range numbers listed listed' e is all =
      rows_range listed' (named_from (names ++ map arc_name (chord_arcs lts tree basis)) numbers) (ap (map named_row) e ∙ is)
      (named_range (names ++ map arc_name (chord_arcs lts tree basis)) numbers all)

  pub tree_made : (expression : RowName → Expression) (listed listed' : List (RowName × ℤ)) (rows rows' : List Row) (tree' : List Arc) (numbers : List ℤ)
      → listed' ≡ listed → map named_row listed ≡ named_from (map (λ s. s.name) (map share_of named) ++ map arc_name (chord_arcs lts tree basis)) numbers
      → map named_of rows ≡ map named_row listed' → All (Tells expression) rows → rows' ≡ rows → tree' ≡ tree → (r : Result (List ArcTimes) Wide)
      → ((e : RowName → Expression) → All (Tells e) rows' → tree_fold e (map named_of rows') [] (reverse tree') r)
      → tree_fold expression (named_from (map (λ s. s.name) (map share_of named) ++ map arc_name (chord_arcs lts tree basis)) numbers) [] (reverse tree) r
  tree_made expression listed listed' rows rows' tree' numbers a b c told d e r h =
      subst (λ l. tree_fold expression (named_from (names ++ map arc_name (chord_arcs lts tree basis)) numbers) [] (reverse l) r) e
      (subst (λ l. tree_fold expression l [] (reverse tree') r) (ap (map named_of) d ∙ c ∙ ap (map named_row) a ∙ b) (h expression (subst (All (Tells expression)) (sym d) told)))

  pub parted : (tree' : List Arc) (numbers numbers' ms ms' parts : List ℤ) → tree' ≡ tree → numbers' ≡ numbers → ms' ≡ ms → length ms ≡ length tree'
      → IsParts (numbers' ++ ms') parts → IsParts (numbers ++ map (λ x. x.multiplier) (arc_times tree ms)) parts
  parted tree' numbers numbers' ms ms' parts e a b same h = subst (λ l. IsParts (numbers ++ l) parts) (b ∙ sym (times_numbers tree ms (same ∙ ap length e))) (subst (λ l. IsParts (l ++ ms') parts) a h)

  pub leaf_is : (tree' tree'' arcs arcs' cs cs' system : List Arc) (ms parts parts' parts'' : List ℤ) (leaf done : List (RowName × ℤ)) → tree' ≡ tree → tree'' ≡ tree
      → length ms ≡ length tree' → cs' ≡ cs → cs ≡ chord_arcs lts tree basis → arcs ≡ cs' ++ tree'' → arcs' ≡ arcs → system ≡ lts.arcs → parts' ≡ parts → parts'' ≡ parts
      → map named_row leaf ≡ not_zero (named_from (map (λ s. s.name) (map share_of named)) parts')
      → map named_row done ≡ map named_row leaf ++ not_zero
      (map (λ a. record { multiplier = multiplier_among arcs' (take (length parts'' - length named) (drop (length named) parts'')) a; name = arc_name a }) system)
      → map named_row done ≡ not_zero (named_from (map (λ s. s.name) (map share_of named)) parts
      ++ map (λ a. record {
        multiplier = multiplier_among (chord_arcs lts tree basis ++ map (λ x. x.arc) (arc_times tree ms))
            (drop (length (map share_of named)) parts) a;
        name = arc_name a;
      }) lts.arcs)
  leaf_is tree' tree'' arcs arcs' cs cs' system ms parts parts' parts'' leaf done t t' same c c' a a' s p p' first second =
      second
      ∙ ap₂ (λ l m. l ++ not_zero m) (first ∙ ap (λ z. not_zero (named_from names z)) p) last
      ∙ sym (zeros-append (named_from names parts)
      (map (λ a. record { multiplier = multiplier_among (chord_arcs lts tree basis ++ map (λ x. x.arc) (arc_times tree ms)) (drop (length (map share_of named)) parts) a; name = arc_name a })
      lts.arcs))
    where
      all_arcs : arcs' ≡ chord_arcs lts tree basis ++ map (λ x. x.arc) (arc_times tree ms)
      all_arcs = a' ∙ a ∙ ap₂ (λ x y. x ++ y) (c ∙ c') (t' ∙ sym (times_arcs tree ms (same ∙ ap length t)))

      all_parts : take (length parts'' - length named) (drop (length named) parts'') ≡ drop (length (map share_of named)) parts
      all_parts = take_all (length parts'' - length named) (drop (length named) parts'') (simp length-drop (omega arith))
          ∙ ap (drop (length named)) p' ∙ ap (λ n. drop n parts) (sym (length-map named share_of))

      last : map {B = NamedRow} (λ a. record {
        multiplier = multiplier_among arcs' (take (length parts'' - length named) (drop (length named) parts'')) a;
        name = arc_name a;
      }) system ≡ map {B = NamedRow}
          (λ a. record {
            multiplier = multiplier_among (chord_arcs lts tree basis ++ map (λ x. x.arc) (arc_times tree ms)) (drop (length (map share_of named)) parts) a;
            name = arc_name a;
          }) lts.arcs
      last = ap₂ (λ x y. map {B = NamedRow} (λ a. record { multiplier = multiplier_among x y a; name = arc_name a }) system) all_arcs all_parts
          ∙ ap (map {B = NamedRow} (λ a. record {
            multiplier = multiplier_among (chord_arcs lts tree basis ++ map (λ x. x.arc) (arc_times tree ms))
                (drop (length (map share_of named)) parts) a;
            name = arc_name a;
          })) s

  pub leaf_range : (arcs : List Arc) (parts zs : List ℤ) (leaf : List (RowName × ℤ))
      → map named_row leaf ≡ not_zero (named_from (map (λ s. s.name) (map share_of named)) parts ++ map
      (λ a. record { multiplier = multiplier_among arcs (drop (length (map share_of named)) parts) a; name = arc_name a }) lts.arcs) → All InRange parts
      → All (λ r. InRange r.1) leaf
  leaf_range arcs parts zs leaf is all = rows_range leaf
      (not_zero (named_from names parts ++ map (λ a.
      record { multiplier = multiplier_among arcs (drop (length (map share_of named)) parts) a; name = arc_name a }) lts.arcs)) is
      (not_zero_all (λ r. InRange r.multiplier) (named_from names parts
      ++ map (λ a. record { multiplier = multiplier_among arcs (drop (length (map share_of named)) parts) a; name = arc_name a }) lts.arcs)
      (All-append (λ r. InRange r.multiplier) (named_from names parts)
      (map (λ a. record { multiplier = multiplier_among arcs (drop (length (map share_of named)) parts) a; name = arc_name a }) lts.arcs)
      (named_range names parts all) (arcs_range lts.arcs arcs (drop (length (map share_of named)) parts) (All-drop InRange (length (map share_of named)) parts all))))

  pub checked_as : (expression : RowName → Expression) (done done' : List (RowName × ℤ)) (rows rows' : List Row) (l : List NamedRow) → map named_row done ≡ l
      → done' ≡ done → map named_of rows ≡ map named_row done' → rows' ≡ rows → All (Tells expression) rows → (r : Result (List NamedRow) Wide)
      → ((e : RowName → Expression) → All (Tells e) rows' → checked_leaf lts e (map named_of rows') r) → checked_leaf lts expression l r
  checked_as expression done done' rows rows' l is a b c told r h =
      subst (λ x. checked_leaf lts expression x r) (ap (map named_of) c ∙ b ∙ ap (map named_row) a ∙ is) (h expression (subst (All (Tells expression)) (sym c) told))

-- the arcs' parts are enough
pub enough_parts : (named : List (RowName × Fraction)) (tree' tree'' arcs arcs' chords chords' chords'' : List Arc)
    (numbers numbers' numbers'' ms ms' parts parts' : List ℤ) → length numbers'' ≡ length named + length chords'' → numbers'' ≡ numbers → chords'' ≡ chords
    → numbers' ≡ numbers → ms' ≡ ms → length ms ≡ length tree' → tree' ≡ tree'' → IsParts (numbers' ++ ms') parts → chords' ≡ chords → arcs ≡ chords' ++ tree''
    → arcs' ≡ arcs → parts' ≡ parts → length arcs' ≤ length (take (length parts' - length named) (drop (length named) parts'))
enough_parts named tree' tree'' arcs arcs' chords chords' chords'' numbers numbers' numbers'' ms ms' parts parts' a b c d e f g h i j k l =
    let p = parts_length (numbers' ++ ms') parts h in
    let q : length (numbers' ++ ms') ≡ length numbers' + length ms' = simp length-append refl in
    let s : length arcs ≡ length chords' + length tree'' = ap length j ∙ simp length-append refl in
    let b' = ap length b in
    let c' = ap length c in
    let d' = ap length d in
    let e' = ap length e in
    let g' = ap length g in
    let i' = ap length i in
    let k' = ap length k in
    let l' = ap length l in
    simp (length-take, length-drop) (omega arith)
