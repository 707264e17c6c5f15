-- In a leaf that refutes, among all nets, some label counts, and each that counts has an arc with a positive multiplier and one with a
-- negative one.
use Rattle.std.proofs.Common.{◌≡◌, ◌≢◌, ◌⊎◌, inl, inr, ⊎_elim, ℕ, ◌<◌, ◌==◌, Bool, true, false, if◌then◌else◌, List, [], Any, All, Contains, get_or, refl, sym, ap, subst, ◌∙◌, arith, ℤ, pos, negsuc, ◌+ℤ◌, ◌*ℤ◌, ◌≤ℤ◌, ◌<ℤ◌, eq-eqb, ne_eqb}
use Rattle.std.proofs.lemmas.Int.{ints}
use Rattle.std.proofs.Math.IntN.{zero-*ℤ}
use Rattle.std.proofs.lemmas.Bool.{cases_eq}
use Rattle.rg_theory.specs.declared.Arc.{Arc}
use Rattle.rg_theory.specs.System.{System, labels, HasArc, IsInRange}
use Rattle.rg_theory.specs.declared.Problem.{Problem}
use Rattle.rg_theory.specs.declared.Problem.TheVariants.{Event, States}
use Rattle.rg_theory.specs.ClassWords.{no_condition}
use Rattle.rg_theory.proofs.Arcs.{arc_in_range}
use Rattle.rg_theory.proofs.Lists.{find_any}
use Rattle.rg_lts.proofs.OrderedArcs.{Ordered, has_from}
use Rattle.rg_integers.specs.Sum.{sum_over}
use Rattle.rg_integers.proofs.ListSums.{sum_over-same, sum_over-zero}
use Rattle.rg_cert_meaning.specs.Expression.{Expression, coefficient_in, value_of, numbers_by}
use Rattle.rg_cert_meaning.specs.declared.Variable.{Variable}
use Rattle.rg_cert_meaning.specs.declared.RowName.{RowName}
use Rattle.rg_cert_meaning.specs.Row.{SharedStands, shared_expression, EventStands, event_expression, consumer_of, RowStands, row_expression, Says}
use Rattle.rg_cert_meaning.specs.Refutes.{NamedRow, IsMultiplier, coefficient_sum, constant_sum, LeafRefutes, IsSeparationProblem}
use Rattle.rg_cert_meaning.proofs.Rows.{Says-times}
use Rattle.rg_cert_meaning.proofs.Sums.{no_contradiction}
use Rattle.rg_case_folds.specs.Spreading.{arc_name}
use Rattle.rg_theory.proofs.Deciding.{Decided, find_number}
use Rattle.rg_split.specs.Parts.{arc_multiplier, Counts}
use Rattle.rg_split.proofs.ArcSums.{is_arc, IsArcOf, parted, others, sum_of_others, others_have}
use Rattle.rg_split.proofs.Signs.{some_positive, some_negative}
use Rattle.rg_integers.proofs.Order.{is_zero_or_not as is_zero}
use Rattle.rg_cert_meaning.specs.declared.RowName.TheVariants as row_name
use Rattle.rg_cert_meaning.specs.declared.Variable.TheVariants.{Effect}

-- ---- rows that stand among all nets

-- one token at each state but one, and no effect of any label
abbrev one_but : ℕ → Variable → ℤ
one_but low = numbers_by (λ q. if q == low then 0 else 1) (λ t. pos 0)

-- no label's effect is in the row, and it holds of these numbers
record IsFine (low : ℕ) (e : Expression) : Type 0 where
  pub no_effect : (t : ℕ) → coefficient_in e.terms (Effect t) ≡ pos 0
  pub holds : pos 0 ≤ℤ value_of (one_but low) e

token_or_none : (b : Bool) → pos 0 ≤ℤ (((pos 1 *ℤ pos (if b then 0 else 1)) +ℤ pos 0) +ℤ pos 0)
token_or_none true = omega (arith, ints)
token_or_none false = omega (arith, ints)

one_more : (b c : Bool) → b ≡ false → c ≡ true → pos 0 ≤ℤ (((pos 1 *ℤ pos (if b then 0 else 1)) +ℤ ((negsuc 0 *ℤ pos (if c then 0 else 1)) +ℤ pos 0)) +ℤ negsuc 0)
one_more true c e f = absurd cc
one_more false true e f = omega (arith, ints)
one_more false false e f = absurd cc

shared_fine : (lts : System) (low consumer : ℕ) (name : RowName) → SharedStands lts no_condition consumer [] name → is_arc name ≡ false → IsFine low (shared_expression lts no_condition [] name)
shared_fine lts low consumer (row_name.Arc a) stands other = absurd cc
shared_fine lts low consumer (row_name.Tokens q) stands other = record { no_effect = λ t. (omega (arith, ints)); holds = token_or_none (q == low) }
shared_fine lts low consumer (row_name.Cap q) (lt, stands) other = absurd cc
shared_fine lts low consumer (row_name.Up t) (lt, stands) other = absurd cc
shared_fine lts low consumer (row_name.Down t) (lt, stands) other = absurd cc
shared_fine lts low consumer (row_name.Makes t) (lt, stands, differ) other = absurd cc
shared_fine lts low consumer (row_name.Above d) stands other = absurd stands
shared_fine lts low consumer (row_name.Stop q) stands other = absurd stands
shared_fine lts low consumer row_name.Block stands other = absurd stands
shared_fine lts low consumer row_name.Empty stands other = absurd stands
shared_fine lts low consumer (row_name.Full q) stands other = absurd stands
shared_fine lts low consumer row_name.Keep stands other = absurd stands
shared_fine lts low consumer row_name.Apart stands other = absurd stands

event_fine : (lts : System) (s t : ℕ) (name : RowName) → IsSeparationProblem lts (Event s t) → EventStands lts no_condition s t [] name
    → is_arc name ≡ false → IsFine s (event_expression lts no_condition s t [] name)
event_fine lts s t (row_name.Stop q) asked (not_pure, not_plain, (q', has)) other = record {
  no_effect = λ u. (omega (arith, ints));
  holds = one_more (q == s) (s == s) (ne_eqb q s (λ same. asked.2 q' (subst (λ x. HasArc lts x t q') same has))) (eq-eqb s s refl);
}
event_fine lts s t row_name.Block asked stands other = absurd cc
event_fine lts s t row_name.Empty asked (plain, not_pure) other = absurd cc
event_fine lts s t (row_name.Full q) asked (plain, not_pure, has) other = absurd cc
event_fine lts s t row_name.Keep asked (plain, not_pure) other = absurd cc
event_fine lts s t name asked stands other = shared_fine lts s t name stands other

states_fine : (lts : System) (s s' : ℕ) (name : RowName) → IsSeparationProblem lts (States s s') → RowStands lts no_condition (States s s') 0 [] name
    → is_arc name ≡ false → IsFine s (row_expression lts no_condition (States s s') 0 [] name)
states_fine lts s s' row_name.Apart asked stands other = record {
  no_effect = λ u. (omega (arith, ints));
  holds = one_more (s' == s) (s == s) (ne_eqb s' s (λ same. asked.2 (sym same))) (eq-eqb s s refl);
}
states_fine lts s s' name asked stands other = shared_fine lts s (consumer_of lts 0) name stands other

-- the state that has no token
abbrev low_state : Problem → ℕ
low_state (Event s t) = s
low_state (States s s') = s

row_fine : (lts : System) (problem : Problem) (name : RowName) → IsSeparationProblem lts problem → RowStands lts no_condition problem 0 [] name
    → is_arc name ≡ false → IsFine (low_state problem) (row_expression lts no_condition problem 0 [] name)
row_fine lts (Event s t) name asked stands other = event_fine lts s t name asked stands other
row_fine lts (States s s') name asked stands other = states_fine lts s s' name asked stands other

arc_there : (lts : System) (problem : Problem) (name : RowName) → RowStands lts no_condition problem 0 [] name → IsArcOf lts.arcs name
arc_there lts (Event s t) (row_name.Arc a) has = has_from lts.arcs a has
arc_there lts (States s s') (row_name.Arc a) has = has_from lts.arcs a has
arc_there lts problem name stands = tt

-- ---- a leaf that refutes

-- the leaf of the first case of a problem, among all nets
abbrev pub RefutesFirst : System → Problem → List NamedRow → Type 0
RefutesFirst lts problem rows = LeafRefutes (RowStands lts no_condition problem 0 []) (row_expression lts no_condition problem 0 []) rows

says_from : (name : RowName) (z : ℤ) → is_arc name ≡ false → pos 0 ≤ℤ z → Says name z
says_from (row_name.Arc a) z other h = absurd cc
says_from name z other h = h

module _ (lts : System) (problem : Problem) (rows : List NamedRow) (ordered : Ordered lts.arcs) (asked : IsSeparationProblem lts problem) (refutes : RefutesFirst lts problem rows) where
  abbrev expression_at : RowName → Expression
  expression_at name = row_expression lts no_condition problem 0 [] name

  arcs_there : All (λ r. IsArcOf lts.arcs r.name) rows
  arcs_there k r lt = arc_there lts problem (get_or rows k r).name (refutes.stand k r lt)

  -- the rows of the sum
  parts : (f : RowName → ℤ) → sum_over (λ r. r.multiplier *ℤ f r.name) rows ≡ sum_over (λ r. r.multiplier *ℤ f r.name) (others rows) +ℤ sum_over (λ a. arc_multiplier rows a *ℤ f (arc_name a)) lts.arcs
  parts f = parted f lts.arcs rows ordered arcs_there ∙ ap (λ z. z +ℤ sum_over (λ a. arc_multiplier rows a *ℤ f (arc_name a)) lts.arcs) (sum_of_others f rows)

  others_fine : All (λ r. (RowStands lts no_condition problem 0 [] r.name) × (is_arc r.name ≡ false)) (others rows)
  others_fine = others_have (λ r. RowStands lts no_condition problem 0 [] r.name) rows refutes.stand

  others_positive : All (λ r. (IsMultiplier r.multiplier r.name) × (is_arc r.name ≡ false)) (others rows)
  others_positive = others_have (λ r. IsMultiplier r.multiplier r.name) rows refutes.positive

  -- ---- some arc counts

  none_left : (f : RowName → ℤ) → ((a : Arc) → Contains lts.arcs a → arc_multiplier rows a ≡ pos 0) → sum_over (λ a. arc_multiplier rows a *ℤ f (arc_name a)) lts.arcs ≡ pos 0
  none_left f none = sum_over-zero (λ a. arc_multiplier rows a *ℤ f (arc_name a)) lts.arcs (λ a has. ap (λ z. z *ℤ f (arc_name a)) (none a has) ∙ zero-*ℤ (f (arc_name a)))

  same_without : (f : RowName → ℤ) → ((a : Arc) → Contains lts.arcs a → arc_multiplier rows a ≡ pos 0)
      → sum_over (λ r. r.multiplier *ℤ f r.name) (others rows) ≡ sum_over (λ r. r.multiplier *ℤ f r.name) rows
  same_without f none = let whole = parts f in let left = none_left f none in omega (arith, ints)

  not_all_zero : ((a : Arc) → Contains lts.arcs a → arc_multiplier rows a ≡ pos 0) → ⊥
  not_all_zero none = no_contradiction (one_but (low_state problem)) expression_at (others rows) each cancels negative
    where
      each : All (λ r. pos 0 ≤ℤ (r.multiplier *ℤ value_of (one_but (low_state problem)) (expression_at r.name))) (others rows)
      each k r lt =
          let row = get_or (others rows) k r in
          let stands = others_fine k r lt in
          Says-times row.name row.multiplier (value_of (one_but (low_state problem)) (expression_at row.name)) (others_positive k r lt).0
          (says_from row.name (value_of (one_but (low_state problem)) (expression_at row.name)) stands.1 (row_fine lts problem row.name asked stands.0 stands.1).holds)

      cancels : (v : Variable) → coefficient_sum expression_at (others rows) v ≡ pos 0
      cancels v = same_without (λ name. coefficient_in (expression_at name).terms v) none ∙ refutes.cancels v

      negative : constant_sum expression_at (others rows) <ℤ pos 0
      negative = subst (λ z. z <ℤ pos 0) (sym (same_without (λ name. (expression_at name).constant) none)) refutes.contradicts

  some_arc : (a : Arc) × Contains lts.arcs a × (arc_multiplier rows a ≢ pos 0)
  some_arc = by (find_any (λ a. arc_multiplier rows a ≢ pos 0) decide lts.arcs)
    where
      decide : (a : Arc) → (arc_multiplier rows a ≢ pos 0) ⊎ ((arc_multiplier rows a ≢ pos 0) → ⊥)
      decide a = ⊎_elim (λ nothing. inr (λ differ. differ nothing)) (λ differ. inl differ) (is_zero (arc_multiplier rows a))

      all_zero : ((a : Arc) → Contains lts.arcs a → (arc_multiplier rows a ≢ pos 0) → ⊥) → (a : Arc) → Contains lts.arcs a → arc_multiplier rows a ≡ pos 0
      all_zero none a has = ⊎_elim (λ nothing. nothing) (λ differ. absurd (none a has differ)) (is_zero (arc_multiplier rows a))

      by : Any (λ a. arc_multiplier rows a ≢ pos 0) lts.arcs ⊎ ((a : Arc) → Contains lts.arcs a → (arc_multiplier rows a ≢ pos 0) → ⊥)
          → (a : Arc) × Contains lts.arcs a × (arc_multiplier rows a ≢ pos 0)
      by (inl (k, a, lt, e, p)) = (a, (k, lt, e), p)
      by (inr none) = absurd (not_all_zero (all_zero none))

  -- ---- the least label that counts

  counts_or_not : (t : ℕ) → Decided (Counts lts rows t)
  counts_or_not t = by (find_any P decide lts.arcs)
    where
      P : Arc → Type 0
      P a = (a.label ≡ t) × (arc_multiplier rows a ≢ pos 0)

      decide : (a : Arc) → P a ⊎ (P a → ⊥)
      decide a = both (cases_eq a.label t) (is_zero (arc_multiplier rows a))
        where
          both : (a.label ≡ t) ⊎ (a.label ≢ t) → (arc_multiplier rows a ≡ pos 0) ⊎ (arc_multiplier rows a ≢ pos 0) → P a ⊎ (P a → ⊥)
          both (inl e) (inl nothing) = inr (λ p. p.1 nothing)
          both (inl e) (inr differ) = inl (e, differ)
          both (inr other) z = inr (λ p. other p.0)

      by : Any P lts.arcs ⊎ ((a : Arc) → Contains lts.arcs a → P a → ⊥) → Decided (Counts lts rows t)
      by (inl (k, a, lt, e, p)) = inl (a, (k, lt, e), p.0, p.1)
      by (inr none) = inr (λ (a, has, e, differ). none a has (e, differ))

  pub least_counts : IsInRange lts → (t : ℕ) × (t < labels lts) × Counts lts rows t × ((earlier : ℕ) → earlier < t → ¬ Counts lts rows earlier)
  least_counts fine = by (find_number (Counts lts rows) counts_or_not (labels lts)) some_arc
    where
      by : ((i : ℕ) × (i < labels lts) × Counts lts rows i × ((j : ℕ) → j < i → ¬ Counts lts rows j)) ⊎ ((i : ℕ) → i < labels lts → ¬ Counts lts rows i)
          → (a : Arc) × Contains lts.arcs a × (arc_multiplier rows a ≢ pos 0) → (t : ℕ) × (t < labels lts) × Counts lts rows t × ((earlier : ℕ) → earlier < t → ¬ Counts lts rows earlier)
      by (inl found) some = found
      by (inr none) (a, has, differ) = absurd (none a.label (arc_in_range lts fine a.from a.label a.to has).1 (a, has, refl, differ))

  -- ---- the multipliers of a label add up to 0

  -- what the arc adds to those of label t
  abbrev at_label : ℕ → Arc → ℤ
  at_label t a = if a.label == t then arc_multiplier rows a else pos 0

  abbrev effect_at : ℕ → RowName → ℤ
  effect_at t name = coefficient_in (expression_at name).terms (Effect t)

  effect_of_arc : (t : ℕ) (a : Arc) → arc_multiplier rows a *ℤ effect_at t (arc_name a) ≡ at_label t a
  effect_of_arc t a = by (a.label == t) (arc_multiplier rows a) (coefficient_is problem)
    where
      coefficient_is : (p : Problem) → coefficient_in (row_expression lts no_condition p 0 [] (arc_name a)).terms (Effect t) ≡ pos 0 +ℤ ((if a.label == t then pos 1 else pos 0) +ℤ (pos 0 +ℤ pos 0))
      coefficient_is (Event s u) = refl
      coefficient_is (States s s') = refl

      by : (b : Bool) (m : ℤ) → effect_at t (arc_name a) ≡ pos 0 +ℤ ((if b then pos 1 else pos 0) +ℤ (pos 0 +ℤ pos 0)) → m *ℤ effect_at t (arc_name a) ≡ (if b then m else pos 0)
      by true m e = rw e (omega (arith, ints))
      by false m e = rw e (omega (arith, ints))

  pub label_sum : (t : ℕ) → sum_over (at_label t) lts.arcs ≡ pos 0
  label_sum t =
      let whole = parts (effect_at t) in
      let none : sum_over (λ r. r.multiplier *ℤ effect_at t r.name) (others rows) ≡ pos 0 = sum_over-zero (λ r. r.multiplier *ℤ effect_at t r.name) (others rows) no_effect in
      let sum : sum_over (λ r. r.multiplier *ℤ effect_at t r.name) rows ≡ pos 0 = refutes.cancels (Effect t) in
      let same : sum_over (λ a. arc_multiplier rows a *ℤ effect_at t (arc_name a)) lts.arcs ≡ sum_over (at_label t) lts.arcs =
      sum_over-same (λ a. arc_multiplier rows a *ℤ effect_at t (arc_name a)) (at_label t) lts.arcs (λ a has. effect_of_arc t a) in
      omega (arith, ints)
    where
      no_effect : (r : NamedRow) → Contains (others rows) r → r.multiplier *ℤ effect_at t r.name ≡ pos 0
      no_effect r (k, lt, e) =
          let stands = subst (λ (x : NamedRow). (RowStands lts no_condition problem 0 [] x.name) × (is_arc x.name ≡ false)) e (others_fine k r lt) in
          rw ((row_fine lts problem r.name asked stands.0 stands.1).no_effect t) (omega (arith, ints))

  -- a label that counts has an arc with a positive multiplier, and one with a negative one
  counting : (t : ℕ) → Counts lts rows t → (a : Arc) × Contains lts.arcs a × (at_label t a ≢ pos 0)
  counting t (a, has, e, differ) = (a, has, subst (λ b. (if b then arc_multiplier rows a else pos 0) ≢ pos 0) (sym (eq-eqb a.label t e)) differ)

  of_label : (t : ℕ) (a : Arc) (P : ℤ → Type 0) → (P (pos 0) → ⊥) → P (at_label t a) → (a.label ≡ t) × P (arc_multiplier rows a)
  of_label t a P not_zero holds = by (cases_eq a.label t)
    where
      by : (a.label ≡ t) ⊎ (a.label ≢ t) → (a.label ≡ t) × P (arc_multiplier rows a)
      by (inl e) = (e, subst (λ b. P (if b then arc_multiplier rows a else pos 0)) (eq-eqb a.label t e) holds)
      by (inr other) = absurd (not_zero (subst (λ b. P (if b then arc_multiplier rows a else pos 0)) (ne_eqb a.label t other) holds))

  pub positive_arc : (t : ℕ) → Counts lts rows t → (a : Arc) × Contains lts.arcs a × (a.label ≡ t) × (pos 0 <ℤ arc_multiplier rows a)
  positive_arc t counts =
      let (x, has, differ) = counting t counts in
      let (a, there, more) = some_positive (at_label t) lts.arcs (label_sum t) x has differ in
      let is = of_label t a (λ z. pos 0 <ℤ z) (λ h. (omega (arith, ints))) more in
      (a, there, is.0, is.1)

  pub negative_arc : (t : ℕ) → Counts lts rows t → (a : Arc) × Contains lts.arcs a × (a.label ≡ t) × (arc_multiplier rows a <ℤ pos 0)
  negative_arc t counts =
      let (x, has, differ) = counting t counts in
      let (a, there, less) = some_negative (at_label t) lts.arcs (label_sum t) x has differ in
      let is = of_label t a (λ z. z <ℤ pos 0) (λ h. (omega (arith, ints))) less in
      (a, there, is.0, is.1)
