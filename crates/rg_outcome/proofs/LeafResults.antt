-- The leaves of the multipliers of a tree have a result, or the first step out of range.
use Rattle.std.proofs.Common.{◌≢◌, inl, inr, ℕ, zero, suc, ◌+◌, ◌-◌, max, nat_lt, Bool, true, false, if◌then◌else◌, List, [], ◌∷◌, ◌++◌, length, map, reverse, drop, slice_index_or, Result, Ok, Err, refl, sym, subst}
use Rattle.std.specs.Prelude.{ℤ, pos, unsigned_abs}
use Rattle.rg_theory.specs.declared.Arc.{Arc}
use Rattle.rg_theory.specs.System.{System, labels}
use Rattle.rg_integers.specs.Sign.{size}
use Rattle.rg_integers.specs.Sum.{number_at}
use Rattle.rg_integers.proofs.Divisors.{gcd_below}
use Rattle.rg_integers.specs.declared.term.Wide.{Wide}
use Rattle.rg_cert_meaning.specs.Expression.{Expression, coefficient_in}
use Rattle.rg_cert_meaning.specs.Row.{row_expression, Side}
use Rattle.rg_cert_meaning.specs.declared.RowName.{RowName}
use Rattle.rg_cert_meaning.specs.declared.Form.{Form as SplitForm}
use Rattle.rg_branch_trees.specs.Trees.{Tree.leaf, Tree.split, low_side, high_side}
use Rattle.rg_cert_meaning.specs.Refutes.{NamedRow, Tree}
use Rattle.rg_linear.specs.Branching.{Form, Weight, form_at, SplitSide, SplitTree}
use Rattle.rg_linear.specs.Cycle.{CycleBasis}
use Rattle.rg_linear.proofs.Firsts.{kept_is}
use Rattle.rg_case_folds.specs.Setting.{CaseSetting}
use Rattle.rg_folds.specs.Fold.{gives, and_then, each, joined, whole, quotient, add, mul, whole_sum, whole_product}
use Rattle.rg_folds.specs.Substitution.{dependent_labels}
use Rattle.rg_case_folds.specs.Rewriting.{count_of, scaled_fold, Scaled, KeptRow, IsIdle, row_fold, names_of, CaseSystem, system_fold}
use Rattle.rg_case_folds.specs.Placing.{negated}
use Rattle.rg_case_folds.specs.Spreading.{Share, name_of, named_at, side_at, split_factor, factor_of, share_fold, Pair, pairs_of, pair_fold, used_chords, chord_fold}
use Rattle.rg_case_folds.specs.Spreading.{ArcTimes, arc_name, Addend, Addend.number, Addend.product, addend_fold, addends_at, tree_fold, named_from, parts_of}
use Rattle.rg_case_folds.specs.Spreading.{multiplier_among, not_zero, sizes_fold, variables_of, checked_leaf, chord_arcs, leaf_fold, spread_fold}
use Rattle.rg_case_folds.specs.Shown.{named_side, named_sides}
use Rattle.rg_case_folds.proofs.Lists.{first, behind}
use Rattle.rg_case_folds.proofs.Signs.{factor_is_positive}
use Rattle.rg_case_folds.proofs.SystemRows.{made_from}
use Rattle.rg_outcome.specs.Casing.{LeafWide, spread_tree}
use Rattle.rg_outcome.proofs.Steps.{HasSome, Makes, Each, each_none, some_given, some_then, some_each, makes_each, Joins, some_joined, makes_joined, IsOver, whole_over, some_quotient, some_product, some_term, sums_join, product_over, IsAny}
use Rattle.rg_outcome.proofs.SystemResults.{HaveRelations, each_append, some_scaled, quotients, divisor_divides}
use Rattle.rg_outcome.proofs.PlaceResults.{each_mapped}
use Rattle.rg_cert_meaning.specs.declared.RowName.TheVariants as row_name
use Rattle.rg_cert_meaning.specs.declared.Form.TheVariants as split_form

-- ---- shares

-- the factors of the rows of a case have a positive denominator
abbrev pub HaveFactors : CaseSystem → Type 0
HaveFactors case = Each (λ (k : KeptRow). IsOver k.factor) case.kept

pub case_factors : (s : CaseSetting) (case : CaseSystem) → system_fold s (Ok case) → HaveFactors case
case_factors s case (all, rows, (forms, made, (columns, keeps, same))) k has =
    let (name, _, row) = made_from (λ name. row_fold s.setting name (row_expression s.lts s.class s.problem s.number [] name))
    (names_of s.lts s.class s.problem s.number) all k rows (kept_is (λ (k : KeptRow). k.row) IsIdle [] all case.kept k keeps has) in
    (factor_is_positive s.setting name (row_expression s.lts s.class s.problem s.number [] name) k row).1

kept_factor : (kept : List KeptRow) (d : KeptRow) → Each (λ (k : KeptRow). IsOver k.factor) kept → IsOver d.factor → (i : ℕ) → IsOver (slice_index_or kept i d).factor
kept_factor [] d all over i = over
kept_factor (k ∷ kept) d all over zero = all k (first k kept)
kept_factor (k ∷ kept) d all over (suc i) = kept_factor kept d (λ x has. all x (behind k x kept has)) over i

split_factor_over : (split : SplitForm) (form : Form) → IsOver (split_factor split form)
split_factor_over (split_form.Tokens q) form = whole_over form.scale
split_factor_over (split_form.Effect t) form = whole_over form.scale
split_factor_over split_form.Start form = whole_over (pos 1)

factor_over : (case : CaseSystem) (sides : List SplitSide) (above : List Side) → HaveFactors case → (i : ℕ) → IsOver (factor_of case sides above i)
factor_over case sides above all i = by (nat_lt i (length case.kept))
  where
    of_row : IsOver (slice_index_or case.kept i (record { name = row_name.Above 0; row = record { coeffs = []; constant = pos 0 }; factor = whole (pos 1) })).factor
    of_row = kept_factor case.kept (record { name = row_name.Above 0; row = record { coeffs = []; constant = pos 0 }; factor = whole (pos 1) }) all (whole_over (pos 1)) i

    by : (b : Bool) → IsOver (if b then (slice_index_or case.kept i
        (record { name = row_name.Above 0; row = record { coeffs = []; constant = pos 0 }; factor = whole (pos 1) })).factor else split_factor
        (named_at above (i - length case.kept)).form (form_at case.forms (side_at sides (i - length case.kept)).form))
    by true = of_row
    by false = split_factor_over (named_at above (i - length case.kept)).form (form_at case.forms (side_at sides (i - length case.kept)).form)

abbrev pub ShareOver : Share → Type 0
ShareOver s = IsOver s.multiplier

some_share : (case : CaseSystem) (sides : List SplitSide) (above : List Side) (weights : List Weight) → HaveFactors case → HasSome (each (share_fold case sides above) weights)
some_share case sides above weights all = some_each (share_fold case sides above) weights
    (λ w has. some_then (mul (whole w.multiplier) (factor_of case sides above w.row)) (λ m. gives (record { name = name_of case w.row; multiplier = m }))
    (some_product (whole w.multiplier) (factor_of case sides above w.row) (whole_over w.multiplier) (factor_over case sides above all w.row))
    (λ m _. some_given (record { name = name_of case w.row; multiplier = m })))

shares_over : (case : CaseSystem) (sides : List SplitSide) (above : List Side) (weights : List Weight) → Makes (Each ShareOver) (each (share_fold case sides above) weights)
shares_over case sides above weights = makes_each ShareOver (share_fold case sides above) weights
    (λ w has s (m, made, e). subst ShareOver (sym e) (product_over (whole w.multiplier) (factor_of case sides above w.row) m made))

-- ---- chords

abbrev IsFine : CycleBasis → Pair → Type 0
IsFine basis p = IsOver p.share.multiplier × ((basis.relation p.label).d ≢ pos 0)

pairs_fine : (basis : CycleBasis) (shares : List Share) (ts : List ℕ) → Each ShareOver shares → Each (λ t. (basis.relation t).d ≢ pos 0) ts → Each (IsFine basis) (pairs_of shares ts)
pairs_fine basis [] ts all related = each_none (IsFine basis)
pairs_fine basis (s ∷ shares) ts all related =
    each_append (IsFine basis) (map (λ t. record { share = s; label = t }) ts) (pairs_of shares ts)
    (each_mapped (IsFine basis) (λ t. record { share = s; label = t }) ts (λ t has. (all s (first s shares), related t has)))
    (pairs_fine basis shares ts (λ x has. all x (behind s x shares has)) related)

module _ (lts : System) (arcs : List Arc) (basis : CycleBasis) (related : HaveRelations lts basis) (expression : RowName → Expression) (shares : List Share) (all : Each ShareOver shares) where
  some_pair : (c : ℕ) → Each (λ p. HasSome (pair_fold arcs basis expression c p)) (pairs_of shares (dependent_labels (labels lts) basis))
  some_pair c p has =
      let (over, differs) = pairs_fine basis shares (dependent_labels (labels lts) basis) all related p has in
      some_then (mul p.share.multiplier (whole (count_of arcs (expression p.share.name).terms p.label)))
      (λ x. and_then (quotient ((basis.relation p.label).coefficient c) (basis.relation p.label).d) (λ k. mul x k))
      (some_product p.share.multiplier (whole (count_of arcs (expression p.share.name).terms p.label)) over
      (whole_over (count_of arcs (expression p.share.name).terms p.label)))
      (λ x h. some_then (quotient ((basis.relation p.label).coefficient c) (basis.relation p.label).d) (λ k. mul x k) (some_quotient _ _ differs)
      (λ k q. some_product x k (product_over p.share.multiplier (whole (count_of arcs (expression p.share.name).terms p.label)) x h) q.positive))

  pair_over : (c : ℕ) → Each (λ p. Makes IsOver (pair_fold arcs basis expression c p)) (pairs_of shares (dependent_labels (labels lts) basis))
  pair_over c p has z (x, h, (k, q, made)) = product_over x k z made

  chord_sum : (c : ℕ) → HasSome (joined add (pair_fold arcs basis expression (labels lts + c)) (whole (pos 0)) (pairs_of shares (dependent_labels (labels lts) basis)))
  chord_sum c = some_joined IsOver add (pair_fold arcs basis expression (labels lts + c)) (whole (pos 0))
      (pairs_of shares (dependent_labels (labels lts) basis)) sums_join (some_pair (labels lts + c)) (pair_over (labels lts + c))

  some_chord : (c : ℕ) → HasSome (chord_fold lts arcs basis expression shares c)
  some_chord c = some_then (joined add (pair_fold arcs basis expression (labels lts + c)) (whole (pos 0))
      (pairs_of shares (dependent_labels (labels lts) basis))) (λ sum. gives (negated sum)) (chord_sum c) (λ sum _. some_given (negated sum))

  chord_over : (c : ℕ) → Makes IsOver (chord_fold lts arcs basis expression shares c)
  chord_over c z (sum, h, e) = subst IsOver (sym e)
      (makes_joined IsOver add (pair_fold arcs basis expression (labels lts + c)) (whole (pos 0))
      (pairs_of shares (dependent_labels (labels lts) basis)) sums_join (whole_over (pos 0)) (pair_over (labels lts + c)) sum h)

-- ---- arcs of the tree

any_sums : Joins IsAny whole_sum
any_sums = record { some = λ x y p q. some_term _; makes = λ x y p q z h. tt }

some_addend : (a : Addend) → HasSome (addend_fold a)
some_addend (number z) = some_given z
some_addend (product x y) = some_term _

some_tree : (expression : RowName → Expression) (rows : List NamedRow) (done : List ArcTimes) (last_first : List Arc) → HasSome (tree_fold expression rows done last_first)
some_tree expression rows done [] = some_given done
some_tree expression rows done (a ∷ last_first) =
    some_then (joined whole_sum addend_fold (pos 0) (addends_at expression rows done a.to)) (λ m. tree_fold expression rows (record { arc = a; multiplier = m } ∷ done) last_first)
    (some_joined IsAny whole_sum addend_fold (pos 0) (addends_at expression rows done a.to) any_sums (λ x has. some_addend x) (λ x has z h. tt))
    (λ m _. some_tree expression rows (record { arc = a; multiplier = m } ∷ done) last_first)

-- ---- the leaf

some_parts : (numbers : List ℤ) → HasSome (parts_of numbers)
some_parts numbers =
    let (g, is) = gcd_below (length numbers) (λ k. unsigned_abs (number_at numbers k)) in
    let (parts, e) = quotients (pos (max g 1)) numbers (divisor_divides numbers g is) in
    (Ok parts, record { divisor = g; greatest = is; parts_are = e })

some_sizes : (coefficient : RowName → ℤ) (rows : List NamedRow) → HasSome (sizes_fold coefficient rows)
some_sizes coefficient rows = some_joined IsAny whole_sum (λ r. and_then (whole_product r.multiplier (coefficient r.name)) (λ z. gives (size z))) (pos 0) rows any_sums
    (λ r has. some_then (whole_product r.multiplier (coefficient r.name)) (λ z. gives (size z)) (some_term _) (λ z _. some_given (size z))) (λ r has z h. tt)

some_checked : (lts : System) (expression : RowName → Expression) (rows : List NamedRow) → HasSome (checked_leaf lts expression rows)
some_checked lts expression rows =
    some_then (each (λ v. sizes_fold (λ name. coefficient_in (expression name).terms v) rows) (variables_of lts))
    (λ sums. and_then (sizes_fold (λ name. (expression name).constant) rows) (λ sum. gives rows))
    (some_each (λ v. sizes_fold (λ name. coefficient_in (expression name).terms v) rows) (variables_of lts)
    (λ v has. some_sizes (λ name. coefficient_in (expression name).terms v) rows))
    (λ sums _. some_then (sizes_fold (λ name. (expression name).constant) rows) (λ sum. gives rows) (some_sizes (λ name. (expression name).constant) rows) (λ sum _. some_given rows))

module _ (lts : System) (arcs : List Arc) (basis : CycleBasis) (related : HaveRelations lts basis) (expression : RowName → Expression) (shares : List Share) (all : Each ShareOver shares) where
  abbrev leaf_of : List ArcTimes → List ℤ → List NamedRow
  leaf_of times parts = not_zero (named_from (map (λ r. r.name) shares) parts
      ++ map (λ a. record {
        multiplier = multiplier_among (chord_arcs lts arcs basis ++ map (λ x. x.arc) times) (drop (length shares) parts) a;
        name = arc_name a;
      }) lts.arcs)

  abbrev from_times : Scaled → List ArcTimes → Result (List NamedRow) Wide → Type 0
  from_times scaled times = and_then (parts_of (scaled.numbers ++ map (λ x. x.multiplier) times)) (λ parts. checked_leaf lts expression (leaf_of times parts))

  abbrev from_scaled : Scaled → Result (List NamedRow) Wide → Type 0
  from_scaled scaled = and_then (tree_fold expression (named_from (map (λ r. r.name) shares ++ map arc_name (chord_arcs lts arcs basis)) scaled.numbers) [] (reverse arcs)) (from_times scaled)

  some_times : (scaled : Scaled) (times : List ArcTimes) → HasSome (from_times scaled times)
  some_times scaled times = some_then (parts_of (scaled.numbers ++ map (λ x. x.multiplier) times))
      (λ parts. checked_leaf lts expression (leaf_of times parts)) (some_parts (scaled.numbers ++ map (λ x. x.multiplier) times))
      (λ parts _. some_checked lts expression (leaf_of times parts))

  some_from_scaled : (scaled : Scaled) → HasSome (from_scaled scaled)
  some_from_scaled scaled = some_then (tree_fold expression (named_from (map (λ r. r.name) shares ++ map arc_name (chord_arcs lts arcs basis)) scaled.numbers) []
      (reverse arcs)) (from_times scaled) (some_tree expression (named_from (map (λ r. r.name) shares ++ map arc_name (chord_arcs lts arcs basis)) scaled.numbers) []
      (reverse arcs)) (λ times _. some_times scaled times)

  some_leaf : HasSome (leaf_fold lts arcs basis expression shares)
  some_leaf =
      some_then (each (chord_fold lts arcs basis expression shares) (used_chords lts basis))
      (λ chord_shares. and_then (scaled_fold (map (λ r. r.multiplier) shares ++ chord_shares)) from_scaled)
      (some_each (chord_fold lts arcs basis expression shares) (used_chords lts basis) (λ c has. some_chord lts arcs basis related expression shares all c))
      (λ chord_shares h. some_then (scaled_fold (map (λ r. r.multiplier) shares ++ chord_shares)) from_scaled
      (some_scaled (map (λ r. r.multiplier) shares ++ chord_shares)
      (each_append IsOver (map (λ r. r.multiplier) shares) chord_shares (each_mapped IsOver (λ (r : Share). r.multiplier) shares all)
      (makes_each IsOver (chord_fold lts arcs basis expression shares) (used_chords lts basis)
      (λ c has. chord_over lts arcs basis related expression shares all c) chord_shares h))) (λ scaled _. some_from_scaled scaled))

-- ---- the leaves of a tree

module _ (s : CaseSetting) (case : CaseSystem) (related : HaveRelations s.lts s.basis) (factors : HaveFactors case) where
  some_spread : (sides : List SplitSide) (above : List Side) (weights : List Weight) → HasSome (spread_fold s case sides above weights)
  some_spread sides above weights =
      some_then (each (share_fold case sides above) weights)
      (λ shares. leaf_fold s.lts s.tree s.basis (row_expression s.lts s.class s.problem s.number above) shares) (some_share case sides above weights factors)
      (λ shares h. some_leaf s.lts s.tree s.basis related (row_expression s.lts s.class s.problem s.number above) shares (shares_over case sides above weights shares h))

  pub some_spread_tree : (above : List SplitSide) (t : SplitTree) → (r : Result Tree LeafWide) × spread_tree s case above t r
  some_spread_tree above (leaf weights) = by (some_spread above (named_sides s.lts s.class s.problem above) weights)
    where
      by : HasSome (spread_fold s case above (named_sides s.lts s.class s.problem above) weights) → (r : Result Tree LeafWide) × spread_tree s case above (leaf weights) r
      by (Ok rows, h) = (Ok (leaf rows), (rows, h, refl))
      by (Err w, h) = (Err (record { above = above; wide = w }), (refl, h))
  some_spread_tree above (split f u low high) = by (some_spread_tree (above ++ low_side f u ∷ []) low) (some_spread_tree (above ++ high_side f u ∷ []) high)
    where
      by : (r : Result Tree LeafWide) × spread_tree s case (above ++ low_side f u ∷ []) low r
          → (r : Result Tree LeafWide) × spread_tree s case (above ++ high_side f u ∷ []) high r
          → (r : Result Tree LeafWide) × spread_tree s case above (split f u low high) r
      by (Err at, h) _ = (Err at, inl h)
      by (Ok l, h) (Err at, g) = (Err at, inr (l, h, g))
      by (Ok l, h) (Ok r, g) = (Ok (split (named_side s.lts s.class s.problem (low_side f u)).form u l r), (l, r, h, g, refl))
