-- Among all nets a reason that is the answer holds: the leaf of a refuted problem's first case refutes.
use Rattle.std.proofs.Common.{◌≡◌, ◌≢◌, ⊎_elim, ℕ, suc, ◌<◌, ◌==◌, Bool, true, false, if◌then◌else◌, List, [], ◌∷◌, ◌++◌, length, map, drop, get_or, Result, Ok, All, Contains, refl, sym, ap, subst, arith, ℤ, pos, negsuc, ◌+ℤ◌, ◌*ℤ◌, ◌<ℤ◌, eq-eqb, ne_eqb}
use Rattle.std.proofs.lemmas.Int.{ints}
use Rattle.std.proofs.lemmas.List.Elements.{All-nil, All-cons, All-head, All-tail, All-append, All-map, All-weaker, Contains-get_or}
use Rattle.std.proofs.lemmas.List.{get_or_default}
use Rattle.rg_theory.specs.declared.Arc.{Arc}
use Rattle.rg_theory.specs.System.{System, states, labels, HasArc, IsInRange, IsAllReachable}
use Rattle.rg_theory.specs.declared.Problem.{Problem}
use Rattle.rg_theory.specs.declared.Problem.TheVariants.{Event, States}
use Rattle.rg_theory.specs.ClassWords.{no_condition}
use Rattle.rg_theory.specs.Tree.{IsTree}
use Rattle.rg_theory.proofs.Arcs.{arc_in_range}
use Rattle.rg_theory.proofs.Lists.{Contains-cons_cases}
use Rattle.rg_lts.specs.WellFormed.{IsWellFormed}
use Rattle.rg_integers.specs.Range.{InRange}
use Rattle.rg_integers.specs.Sign.{size}
use Rattle.rg_integers.specs.declared.term.Wide.{Wide}
use Rattle.rg_cert_meaning.specs.Expression.{Expression, coefficient_in}
use Rattle.rg_cert_meaning.specs.declared.Variable.{Variable}
use Rattle.rg_cert_meaning.specs.Row.{Side, SharedStands, shared_expression, EventStands, event_expression, consumer_of, RowStands, row_expression}
use Rattle.rg_cert_meaning.specs.declared.RowName.{RowName}
use Rattle.rg_cert_meaning.specs.Refutes.{NamedRow, IsSeparationProblem}
use Rattle.rg_linear.specs.System.{AreFarkasMultipliers}
use Rattle.rg_linear.specs.Cycle.{CycleBasis}
use Rattle.rg_linear.specs.Branching.{SplitSide, weights_from, node_system}
use Rattle.rg_cert_data.specs.Certificates.{IsFormOf, IsRowNameOf, IsVariableWithin}
use Rattle.rg_case_folds.specs.Setting.{Setting, setting_at, case_at}
use Rattle.rg_case_folds.specs.Chords.{IsBasis}
use Rattle.rg_folds.specs.Fold.{and_then, gives, each, joined, further, whole, whole_sum, whole_product}
use Rattle.rg_case_folds.specs.Rewriting.{CaseSystem, rows_of, system_fold}
use Rattle.rg_case_folds.specs.Shown.{IsLive}
use Rattle.rg_case_folds.specs.Meaning.{IsCaseOver}
use Rattle.rg_case_folds.specs.Spreading.{Share, share_fold, arc_name, named_from, multiplier_among, sizes_fold, variables_of, checked_leaf, chord_arcs, leaf_fold, spread_fold, factor_of}
use Rattle.rg_farkas.specs.Refuting.{SharesRefute}
use Rattle.rg_farkas.specs.View.{AreRowsWithin}
use Rattle.rg_farkas.proofs.Asked.{rows_within, says_arcs, arcs_stand}
use Rattle.rg_farkas.proofs.LeafSteps.{not_zero_all}
use Rattle.rg_farkas.proofs.Multipliers.{node_names_stand, node_names_in_range, node_shares_refute}
use Rattle.rg_farkas.proofs.Refutes.{leaf_refutes}
use Rattle.rg_farkas.proofs.Small.{each_made, has_variable}
use Rattle.rg_outcome.proofs.Steps.{Each, IsOver, makes_each, product_over}
use Rattle.rg_synth.proofs.Answers.{no_numbers}
use Rattle.rg_split.proofs.Counting.{RefutesFirst}
use Rattle.rg_cert_meaning.specs.declared.RowName.TheVariants as row_name
use Rattle.rg_cert_meaning.specs.declared.Variable.TheVariants.{Tokens, Effect}

-- ---- what is made in a sum

further_made : {A : Type 0} (make : A → Result ℤ Wide → Type 0) (sum h : ℤ) (items : List A) (a : A) → further whole_sum make sum items (Ok h) → Contains items a → (k : ℤ) × make a (Ok k)
further_made make sum h [] a e (k, lt, is) = absurd (omega arith)
further_made make sum h (b ∷ items) a (k, made, (more, joins, rest)) has =
    ⊎_elim (λ same. (k, subst (λ x. make x (Ok k)) same made)) (λ there. further_made make more h items a rest there) (Contains-cons_cases b a items has)

joined_made : {A : Type 0} (make : A → Result ℤ Wide → Type 0) (h : ℤ) (items : List A) (a : A) → joined whole_sum make (pos 0) items (Ok h) → Contains items a → (k : ℤ) × make a (Ok k)
joined_made make h [] a e (k, lt, is) = absurd (omega arith)
joined_made make h (b ∷ items) a (k, made, rest) has =
    ⊎_elim (λ same. (k, subst (λ x. make x (Ok k)) same made)) (λ there. further_made make k h items a rest there) (Contains-cons_cases b a items has)

-- ---- each row has a variable once

record HasUnit (lts : System) (e : Expression) : Type 0 where
  pub variable : Variable
  pub within : IsVariableWithin (states lts) (labels lts) variable
  pub once : coefficient_in e.terms variable ≡ pos 1

one_term : (n : ℕ) → (if n == n then pos 1 else pos 0) +ℤ pos 0 ≡ pos 1
one_term n = ap (λ b. (if b then pos 1 else pos 0) +ℤ pos 0) (eq-eqb n n refl)

first_of_two : (q s : ℕ) → q ≢ s → (if q == q then pos 1 else pos 0) +ℤ ((if s == q then negsuc 0 else pos 0) +ℤ pos 0) ≡ pos 1
first_of_two q s differ = by (q == q) (s == q) (eq-eqb q q refl) (ne_eqb s q (λ e. differ (sym e)))
  where
    by : (b c : Bool) → b ≡ true → c ≡ false → (if b then pos 1 else pos 0) +ℤ ((if c then negsuc 0 else pos 0) +ℤ pos 0) ≡ pos 1
    by true false e f = refl
    by true true e f = absurd cc
    by false c e f = absurd cc

middle_of_three : (t : ℕ) → pos 0 +ℤ ((if t == t then pos 1 else pos 0) +ℤ (pos 0 +ℤ pos 0)) ≡ pos 1
middle_of_three t = ap (λ b. pos 0 +ℤ ((if b then pos 1 else pos 0) +ℤ (pos 0 +ℤ pos 0))) (eq-eqb t t refl)

module _ (lts : System) (fine : IsInRange lts) where
  shared_unit : (consumer : ℕ) (name : RowName) → SharedStands lts no_condition consumer [] name → IsRowNameOf lts name → HasUnit lts (shared_expression lts no_condition [] name)
  shared_unit consumer (row_name.Arc a) has names = record { variable = Effect a.label; within = (arc_in_range lts fine a.from a.label a.to has).1; once = middle_of_three a.label }
  shared_unit consumer (row_name.Tokens q) stands names = record { variable = Tokens q; within = names; once = one_term q }
  shared_unit consumer (row_name.Cap q) (lt, stands) names = absurd cc
  shared_unit consumer (row_name.Up t) (lt, stands) names = absurd cc
  shared_unit consumer (row_name.Down t) (lt, stands) names = absurd cc
  shared_unit consumer (row_name.Makes t) (lt, stands, differ) names = absurd cc
  shared_unit consumer (row_name.Above d) stands names = absurd stands
  shared_unit consumer (row_name.Stop q) stands names = absurd stands
  shared_unit consumer row_name.Block stands names = absurd stands
  shared_unit consumer row_name.Empty stands names = absurd stands
  shared_unit consumer (row_name.Full q) stands names = absurd stands
  shared_unit consumer row_name.Keep stands names = absurd stands
  shared_unit consumer row_name.Apart stands names = absurd stands

  event_unit : (s t : ℕ) (name : RowName) → IsSeparationProblem lts (Event s t) → EventStands lts no_condition s t [] name → IsRowNameOf lts name
      → HasUnit lts (event_expression lts no_condition s t [] name)
  event_unit s t (row_name.Stop q) asked (not_pure, not_plain, (q', has)) names = record {
    variable = Tokens q;
    within = (arc_in_range lts fine q t q' has).0;
    once = first_of_two q s (λ same. asked.2 q' (subst (λ x. HasArc lts x t q') same has));
  }
  event_unit s t row_name.Block asked stands names = absurd cc
  event_unit s t row_name.Empty asked (plain, not_pure) names = absurd cc
  event_unit s t (row_name.Full q) asked (plain, not_pure, has) names = absurd cc
  event_unit s t row_name.Keep asked (plain, not_pure) names = absurd cc
  event_unit s t name asked stands names = shared_unit t name stands names

  states_unit : (s s' : ℕ) (name : RowName) → IsSeparationProblem lts (States s s') → RowStands lts no_condition (States s s') 0 [] name
      → IsRowNameOf lts name → HasUnit lts (row_expression lts no_condition (States s s') 0 [] name)
  states_unit s s' row_name.Apart asked stands names = record { variable = Tokens s'; within = asked.1; once = first_of_two s' s (λ same. asked.2 (sym same)) }
  states_unit s s' name asked stands names = shared_unit (consumer_of lts 0) name stands names

  row_unit : (problem : Problem) (name : RowName) → IsSeparationProblem lts problem → RowStands lts no_condition problem 0 [] name
      → IsRowNameOf lts name → HasUnit lts (row_expression lts no_condition problem 0 [] name)
  row_unit (Event s t) name asked stands names = event_unit s t name asked stands names
  row_unit (States s s') name asked stands names = states_unit s s' name asked stands names

-- ---- the names of a leaf

named_have : (P : RowName → Type 0) (names : List RowName) (zs : List ℤ) → All P names → All (λ (r : NamedRow). P r.name) (named_from names zs)
named_have P [] zs all = All-nil (λ (r : NamedRow). P r.name)
named_have P (n ∷ names) [] all = All-nil (λ (r : NamedRow). P r.name)
named_have P (n ∷ names) (z ∷ zs) all = All-cons (λ (r : NamedRow). P r.name) (record { multiplier = z; name = n }) (named_from names zs)
    (All-head P n names all) (named_have P names zs (All-tail P n names all))

arcs_have : (P : RowName → Type 0) (f : Arc → ℤ) (arcs : List Arc) → ((a : Arc) → Contains arcs a → P (arc_name a))
    → All (λ (r : NamedRow). P r.name) (map (λ a. record { multiplier = f a; name = arc_name a }) arcs)
arcs_have P f [] each = All-nil (λ (r : NamedRow). P r.name)
arcs_have P f (a ∷ arcs) each =
    All-cons (λ (r : NamedRow). P r.name) (record { multiplier = f a; name = arc_name a }) (map (λ a. record { multiplier = f a; name = arc_name a }) arcs) (each a (0, omega arith, refl))
    (arcs_have P f arcs (λ b (k, lt, e). each b (suc k, omega arith, e)))

leaf_have : (lts : System) (tree : List Arc) (basis : CycleBasis) (expression : RowName → Expression) (shares : List Share) (rows : List NamedRow)
    (P : RowName → Type 0) → All (λ s. P s.name) shares → ((a : Arc) → Contains lts.arcs a → P (arc_name a))
    → leaf_fold lts tree basis expression shares (Ok rows) → All (λ (r : NamedRow). P r.name) rows
leaf_have lts tree basis expression shares rows P names arcs_are (xs, folds, (scaled, scales, (arcs, treed, (parts, parted, checked)))) =
    subst (All (λ (r : NamedRow). P r.name)) (sym checked.2.2)
    (not_zero_all (λ r. P r.name) (named_from (map (λ r. r.name) shares) parts
    ++ map (λ a. record {
      multiplier = multiplier_among (chord_arcs lts tree basis ++ map (λ x. x.arc) arcs) (drop (length shares) parts) a;
      name = arc_name a;
    }) lts.arcs)
    (All-append (λ r. P r.name) (named_from (map (λ r. r.name) shares) parts)
    (map (λ a. record {
      multiplier = multiplier_among (chord_arcs lts tree basis ++ map (λ x. x.arc) arcs) (drop (length shares) parts) a;
      name = arc_name a;
    }) lts.arcs)
    (named_have P (map (λ r. r.name) shares) parts (All-map P (λ r. r.name) shares names))
    (arcs_have P (multiplier_among (chord_arcs lts tree basis ++ map (λ x. x.arc) arcs) (drop (length shares) parts)) lts.arcs arcs_are)))

-- the multiplier of a row of a leaf that was checked is in range, where the row has a variable once
range_of : (lts : System) (expression : RowName → Expression) (rows all : List NamedRow) → checked_leaf lts expression rows (Ok all) → (r : NamedRow)
    → Contains rows r → HasUnit lts (expression r.name) → InRange r.multiplier
range_of lts expression rows all (sums, each_is, (sum, constants, e)) r has unit =
    let (y, sizes) = each_made (λ v. sizes_fold (λ name. coefficient_in (expression name).terms v) rows) (variables_of lts) sums unit.variable each_is (has_variable lts unit.variable unit.within) in
    let (z, made) = joined_made (λ (x : NamedRow). and_then (whole_product x.multiplier (coefficient_in (expression x.name).terms unit.variable)) (λ w. gives (size w))) y rows r sizes has in
    subst InRange (times_one r.multiplier (coefficient_in (expression r.name).terms unit.variable) unit.once) made.1.0.left
  where
    times_one : (m c : ℤ) → c ≡ pos 1 → m *ℤ c ≡ m
    times_one m c e = rw e (omega (arith, ints))

-- the multipliers of a leaf that was checked are in range, where each row has a variable once
leaf_in_range : (lts : System) (tree : List Arc) (basis : CycleBasis) (expression : RowName → Expression) (shares : List Share)
    (rows : List NamedRow) → All (λ (r : NamedRow). HasUnit lts (expression r.name)) rows
    → leaf_fold lts tree basis expression shares (Ok rows) → All (λ r. InRange r.multiplier) rows
leaf_in_range lts tree basis expression shares rows units (xs, folds, (scaled, scales, (arcs, treed, (parts, parted, checked)))) k d lt =
    range_of lts expression rows rows (subst (λ l. checked_leaf lts expression l (Ok rows)) (sym checked.2.2) checked) (get_or rows k d)
    (k, lt, get_or_default rows k (get_or rows k d) d lt) (units k d lt)

-- ---- the leaf

-- the setting in which all nets are asked for
abbrev pub of_all : System → List Arc → CycleBasis → Setting
of_all lts arcs basis = setting_at lts arcs basis no_condition

module _ (lts : System) (well : IsWellFormed lts) (reachable : IsAllReachable lts) (arcs : List Arc) (basis : CycleBasis) (is_tree : IsTree lts arcs)
    (is_basis : IsBasis lts arcs basis) (problem : Problem) (asked : IsSeparationProblem lts problem) (live : IsLive lts problem) where
  no_sides : (case : CaseSystem) → All (λ (side : SplitSide). side.form < length case.forms) []
  no_sides case = All-nil (λ (side : SplitSide). side.form < length case.forms)

  bottoms : (case : CaseSystem) → system_fold (case_at (of_all lts arcs basis) problem 0) (Ok case) → (multiplier : ℕ → ℤ) (n : ℕ) (shares : List Share)
      → each (share_fold case [] []) (weights_from multiplier 0 n) (Ok shares) → Each (λ (s : Share). IsOver s.multiplier) shares
  bottoms case made multiplier n shares = makes_each (λ (s : Share). IsOver s.multiplier) (share_fold case [] []) (weights_from multiplier 0 n)
      (λ w has s (m, product, e). subst (λ (x : Share). IsOver x.multiplier) (sym e) (product_over (whole w.multiplier) (factor_of case [] [] w.row) m product)) shares

  pub leaf_holds : (case : CaseSystem) → system_fold (case_at (of_all lts arcs basis) problem 0) (Ok case) → (multiplier : ℕ → ℤ)
      → AreFarkasMultipliers (node_system (rows_of case) case.forms []) multiplier → (rows : List NamedRow)
      → spread_fold (case_at (of_all lts arcs basis) problem 0) case [] []
      (weights_from multiplier 0 (length (node_system (rows_of case) case.forms []).rows)) (Ok rows) → RefutesFirst lts problem rows
  leaf_holds case made multiplier farkas rows (shares, shares_are, leaf) =
      leaf_refutes lts arcs basis (RowStands lts no_condition problem 0 []) (row_expression lts no_condition problem 0 []) shares rows well reachable is_tree is_basis
      (says_arcs lts no_condition problem 0 []) (arcs_stand lts no_condition problem 0 []) stand within over_zero refute leaf in_range
    where
      over : IsCaseOver (case_at (of_all lts arcs basis) problem 0) case
      over = record { numbers = no_numbers; in_range = well.in_range; reachable = reachable; is_tree = is_tree; is_basis = is_basis; asked = asked; is_case = made }

      stand : All (λ s. RowStands lts no_condition problem 0 [] s.name) shares
      stand = node_names_stand (case_at (of_all lts arcs basis) problem 0) case over [] (no_sides case) multiplier shares shares_are

      names : All (λ s. IsRowNameOf lts s.name) shares
      names = node_names_in_range (case_at (of_all lts arcs basis) problem 0) case over [] (no_sides case) (omega arith) multiplier shares shares_are

      within : AreRowsWithin lts (row_expression lts no_condition problem 0 []) shares
      within = rows_within lts well.in_range.initial no_condition [] (All-nil (λ (s : Side). IsFormOf lts s.form)) problem 0 asked shares names

      over_zero : All (λ (s : Share). pos 0 <ℤ s.multiplier.bottom) shares
      over_zero k d lt = bottoms case made multiplier _ shares shares_are (get_or shares k d) (Contains-get_or shares k d lt)

      refute : SharesRefute lts (row_expression lts no_condition problem 0 []) shares
      refute = node_shares_refute (case_at (of_all lts arcs basis) problem 0) case over [] (no_sides case) live multiplier farkas shares shares_are

      units : All (λ (r : NamedRow). HasUnit lts (row_expression lts no_condition problem 0 [] r.name)) rows
      units = All-weaker (λ (r : NamedRow). RowStands lts no_condition problem 0 [] r.name × IsRowNameOf lts r.name)
          (λ (r : NamedRow). HasUnit lts (row_expression lts no_condition problem 0 [] r.name))
          (λ r p. row_unit lts well.in_range problem r.name asked p.0 p.1) rows
          (leaf_have lts arcs basis (row_expression lts no_condition problem 0 []) shares rows (λ name. RowStands lts no_condition problem 0 [] name × IsRowNameOf lts name)
          (λ k d lt. (stand k d lt, names k d lt)) (λ a has. (arcs_stand lts no_condition problem 0 [] a has, arc_in_range lts well.in_range a.from a.label a.to has)) leaf)

      in_range : All (λ r. InRange r.multiplier) rows
      in_range = leaf_in_range lts arcs basis (row_expression lts no_condition problem 0 []) shares rows units leaf
