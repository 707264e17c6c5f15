-- The place that the fold makes is a region that separates.
use Rattle.std.proofs.Common.{◌≡◌, ◌≢◌, ⊎_elim, ℕ, ◌+◌, ◌-◌, ◌==◌, zero, suc, ◌<◌, ◌≤◌, ◌||◌, not, is_some, Option, Some, None, Bool, true, false, if◌then◌else◌, IsNone, List, [], ◌∷◌, ◌++◌, map, length, Contains, Ok, refl, sym, ap, ap₂, subst, ◌∙◌, arith, eq-eqb, ne_eqb}
use Rattle.std.specs.Prelude.{ℤ, pos, negsuc, neg_ℤ, ◌+ℤ◌, ◌*ℤ◌, ◌≤ℤ◌, unsigned_abs}
use borrow.Author.Differences.{up, down}
use Rattle.std.proofs.lemmas.Int.{ints}
use Rattle.std.proofs.lemmas.Bool.{true≢false, cases_Bool, cases_eq, cases_lt}
use Rattle.std.proofs.lemmas.List.{get_or_past}
use Rattle.rg_theory.specs.declared.Class.{Class}
use Rattle.rg_theory.specs.declared.Problem.{Problem}
use Rattle.rg_theory.specs.declared.Problem.TheVariants.{Event, States}
use Rattle.rg_theory.specs.System.{System, HasArc, IsInRange, IsDead, states, labels}
use Rattle.rg_theory.specs.Net.{Place}
use Rattle.rg_theory.specs.Region.{RegionIn}
use Rattle.rg_theory.specs.Problem.{Separates}
use Rattle.rg_theory.proofs.Arcs.{arc_in_range}
use Rattle.rg_theory.proofs.Lists.{map_there, map_from}
use Rattle.rg_cert_meaning.specs.Expression.{numbers_by}
use Rattle.rg_cert_meaning.specs.declared.Variable.{Variable}
use Rattle.rg_cert_meaning.specs.Row.{KeepsRows, consumer_of}
use Rattle.rg_cert_meaning.specs.Refutes.{IsSeparationProblem}
use Rattle.rg_cert_meaning.proofs.Making.{place_by, weight_by, Suits, suited_region, Facts, below, event_facts, state_facts, effect_suits, at_label, at_label_other, stopping_suits, state_place}
use Rattle.rg_integers.specs.Range.{InRange}
use Rattle.rg_integers.specs.Sum.{number_at}
use Rattle.rg_integers.proofs.Ranges.{zero_in_range}
use Rattle.rg_case_folds.specs.Setting.{CaseSetting}
use Rattle.rg_folds.specs.Fold.{each, Ratio, whole}
use Rattle.rg_case_folds.specs.Rewriting.{has_label_at, all_numbers, states_with, CaseSystem}
use Rattle.rg_case_folds.specs.Shown.{IsLive}
use Rattle.rg_case_folds.specs.Placing.{effect_fold, made_whole, along_tree, shift_fold, ratio_at, least_of, top_at, taken_by_effect, taken, place_of, pre_of, put_fold, place_fold}
use Rattle.rg_case_folds.specs.Meaning.{IsCaseOver, AreEffects, MeetsCase}
use Rattle.rg_case_folds.proofs.Lists.{where_is, where_has}
use Rattle.rg_case_folds.proofs.Names.{found_at}
use Rattle.rg_case_folds.proofs.LeftOut.{finds_at}
use Rattle.rg_case_folds.proofs.Whole.{tokens_in, effects_in, tokens_are, whole_keeps}
use Rattle.rg_case_folds.specs.Places.{AreFormsWhole, AreValuesOf, tokens_of, NumbersFit, PlaceIsMade}
use Rattle.rg_case_folds.proofs.Found.{found_is}
use Rattle.rg_case_folds.proofs.Moved.{AllWhole, least_is}
use Rattle.rg_case_folds.proofs.PlaceKept.{AreKept, lift_kept, kept_is}
use Rattle.rg_case_folds.proofs.WholeKept.{whole_kept}
use Rattle.rg_case_folds.proofs.PlaceWeights.{taken_down, given_up, opposite_down, opposite_up, more_up, taken_in_range, fits_most, all_most, taken_at, taken_length, given_at, given_length, place_is, region_same}
use Rattle.rg_cert_meaning.specs.declared.RowName.TheVariants as row_name
use Rattle.rg_case_folds.proofs.Products.{natural}
use Rattle.rg_cert_meaning.specs.declared.Variable.TheVariants.{Tokens}

-- ---- a place with these weights

separates_same : (lts : System) (p : Place) (m m' : ℕ → ℕ) (problem : Problem) → IsSeparationProblem lts problem → ((s : ℕ) → s < states lts → m s ≡ m' s)
    → Separates p m problem → Separates p m' problem
separates_same lts p m m' (Event s t) asked same h = let e = same s asked.0 in omega arith
separates_same lts p m m' (States s s') asked same h = λ e. h (same s asked.0 ∙ e ∙ sym (same s' asked.1))

pub record IsPlaceFor (lts : System) (class : Class) (problem : Problem) (numbers : List Ratio) (place : Place) : Type 0 where
  pub region : RegionIn lts class place (tokens_of numbers)
  pub separates : Separates place (tokens_of numbers) problem
  pub fit : NumbersFit place (tokens_of numbers)

-- what the labels put into the place is given
abbrev pub AreGiven : System → Class → Problem → List Ratio → List Ratio → List ℤ → Type 0
AreGiven lts class problem found numbers given = each (put_fold lts class problem numbers found) (all_numbers (labels lts)) (Ok given)

abbrev pub MakesPlace : System → Class → Problem → List Ratio → List Ratio → List ℤ → Type 0
MakesPlace lts class problem found numbers given = IsPlaceFor lts class problem numbers (place_of lts numbers (pre_of lts class problem numbers found) given)

module _ (lts : System) (class : Class) (problem : Problem) (number : ℕ) (found numbers : List Ratio) (x : Variable → ℤ) (given : List ℤ) (fine : IsInRange lts)
    (asked : IsSeparationProblem lts problem) (k : AreKept lts class problem number found numbers x) (made : AreGiven lts class problem found numbers given) where
  same : (s : ℕ) → s < states lts → tokens_in x s ≡ tokens_of numbers s
  same s lt = sym (ap (λ (r : Ratio). unsigned_abs r.top) (k.at.1 s lt).0)

  top_fits : (s : ℕ) → InRange (top_at numbers s)
  top_fits s = ⊎_elim
      (λ lt. subst (λ (r : Ratio). InRange r.top) (sym (k.at.1 s lt).0) (k.at.1 s lt).1)
      (λ le. subst (λ (r : Ratio). InRange r.top) (sym (get_or_past numbers s (whole (pos 0)) (subst (λ n. n ≤ s) (sym k.at.0) le))) zero_in_range)
      (cases_lt s (states lts))

  abbrev takes : ℕ → ℤ
  takes = taken lts class problem numbers found

  pre_fits : (i : ℕ) → i < length (map takes (all_numbers (labels lts))) → InRange (number_at (map takes (all_numbers (labels lts))) i)
  pre_fits i lt =
      let low = subst (λ n. i < n) (taken_length takes (labels lts)) lt in
      subst InRange (sym (taken_at takes (labels lts) i low)) (taken_in_range takes (top_at found) (labels lts) i given made low)

  post_fits : (i : ℕ) → i < length given → InRange (number_at given i)
  post_fits i lt = (given_at takes (top_at found) (labels lts) i given made (subst (λ n. i < n) (given_length takes (top_at found) (labels lts) given made) lt)).1

  finish : (pre post : ℕ → ℕ) → ((i : ℕ) → i < labels lts → unsigned_abs (taken lts class problem numbers found i) ≡ pre i)
      → ((i : ℕ) → i < labels lts → unsigned_abs (taken lts class problem numbers found i +ℤ top_at found i) ≡ post i) → Suits lts class (tokens_in x) pre post
      → Separates (place_by (tokens_in x lts.initial) pre post (labels lts)) (tokens_in x) problem → MakesPlace lts class problem found numbers given
  finish pre post take give suits separates =
      let tokens = tokens_in x in
      let place = place_by (tokens lts.initial) pre post (labels lts) in
      let is : place_of lts numbers (pre_of lts class problem numbers found) given ≡ place =
      place_is (tokens lts.initial) takes (top_at found) pre post (labels lts) (tokens_of numbers lts.initial) given made (sym (same lts.initial fine.initial)) take give in
      record {
        region = subst (λ p. RegionIn lts class p (tokens_of numbers)) (sym is)
            (region_same lts class place tokens (tokens_of numbers) fine same (suited_region lts class tokens pre post fine suits));
        separates = subst (λ p. Separates p (tokens_of numbers) problem) (sym is) (separates_same lts place tokens (tokens_of numbers) problem asked same separates);
        fit = record {
          start = fits_most (top_at numbers lts.initial) (top_fits lts.initial);
          pre = all_most (map takes (all_numbers (labels lts))) pre_fits;
          post = all_most given post_fits;
          tokens = λ s. fits_most (top_at numbers s) (top_fits s);
        };
      }

-- ---- state problems

state_made : (lts : System) (class : Class) (s s' number : ℕ) (found numbers : List Ratio) (x : Variable → ℤ) (given : List ℤ) → IsInRange lts
    → IsSeparationProblem lts (States s s') → AreKept lts class (States s s') number found numbers x
    → AreGiven lts class (States s s') found numbers given → MakesPlace lts class (States s s') found numbers given
state_made lts class s s' number found numbers x given fine asked k made =
    let keeps = whole_keeps lts class (States s s') number x k.keeps in
    finish lts class (States s s') number found numbers x given fine asked k made (λ t. down (effects_in x t)) (λ t. up (effects_in x t))
    (λ i lt. taken_down (top_at found i) ∙ ap down (k.effects i lt))
    (λ i lt. given_up (top_at found i) ∙ ap up (k.effects i lt))
    (effect_suits lts class (tokens_in x) (effects_in x) (consumer_of lts number) (state_facts lts class s s' number (tokens_in x) (effects_in x) keeps) k.start)
    (state_place lts class s s' number (tokens_in x) (effects_in x) fine k.start keeps).2

-- ---- event problems

abbrev pub event_taken : Bool → Bool → Bool → ℤ → ℤ → ℤ
event_taken pure plain same e least = if not same then taken_by_effect e else (if pure then neg_ℤ e else (if plain then pos 1 else least))

abbrev pub least_at : System → List Ratio → ℕ → Ratio
least_at lts numbers t = least_of (map (ratio_at numbers) (states_with lts t))

-- the least of the numbers at states with the label: one of them, and more than at s
pub record StopsAt (lts : System) (t : ℕ) (numbers : List Ratio) (x : Variable → ℤ) : Type 0 where
  pub state : ℕ
  pub target : ℕ
  pub has : HasArc lts state t target
  pub below_states : state < states lts
  pub is : (least_at lts numbers t).top ≡ x (Tokens state)
  pub low : (q q' : ℕ) → HasArc lts q t q' → (least_at lts numbers t).top ≤ℤ x (Tokens q)

module _ (lts : System) (class : Class) (problem : Problem) (t number : ℕ) (found numbers : List Ratio) (x : Variable → ℤ) (fine : IsInRange lts) (live : ¬ IsDead lts t)
    (k : AreKept lts class problem number found numbers x) where
  within_states : (q q' : ℕ) → HasArc lts q t q' → Contains (states_with lts t) q
  within_states q q' has = where_has (λ u. has_label_at u t lts.arcs) 0 (states lts) q (finds_at q t lts.arcs q' has) (omega arith)
      (let lt = (arc_in_range lts fine q t q' has).0 in omega arith)

  some : 0 < length (map (ratio_at numbers) (states_with lts t))
  some = ⊎_elim (λ lt. lt) (λ le. absurd (live (λ q q' has. none le (map_there (ratio_at numbers) (states_with lts t) q (within_states q q' has)))))
      (cases_lt 0 (length (map (ratio_at numbers) (states_with lts t))))
    where
      none : length (map (ratio_at numbers) (states_with lts t)) ≤ 0 → {r : Ratio} → Contains (map (ratio_at numbers) (states_with lts t)) r → ⊥
      none le (i, lt, _) = omega arith

  whole_list : AllWhole (map (ratio_at numbers) (states_with lts t))
  whole_list r has =
      let (q, within, is) = map_from (ratio_at numbers) (states_with lts t) r has in
      let (_, _, lt) = where_is (λ u. has_label_at u t lts.arcs) 0 (states lts) q within in
      ap (λ (f : Ratio). f.bottom) (sym is ∙ (k.at.1 q (omega arith)).0)

  stops_at : StopsAt lts t numbers x
  stops_at =
      let (has, low) = least_is (map (ratio_at numbers) (states_with lts t)) some whole_list in
      let (q, within, is) = map_from (ratio_at numbers) (states_with lts t) (least_at lts numbers t) has in
      let (e, _, lt) = where_is (λ u. has_label_at u t lts.arcs) 0 (states lts) q within in
      let (q', arc) = found_at q t lts.arcs e in
      record {
        state = q;
        target = q';
        has = arc;
        below_states = omega arith;
        is = ap (λ (r : Ratio). r.top) (sym is ∙ (k.at.1 q (omega arith)).0);
        low = λ p p' has'. subst (λ (r : Ratio). (least_at lts numbers t).top ≤ℤ r.top) (k.at.1 p (arc_in_range lts fine p t p' has').0).0
            (low (ratio_at numbers p) (map_there (ratio_at numbers) (states_with lts t) p (within_states p p' has')));
      }

module _ (lts : System) (class : Class) (s t number : ℕ) (found numbers : List Ratio) (x : Variable → ℤ) (given : List ℤ) (fine : IsInRange lts)
    (asked : IsSeparationProblem lts (Event s t)) (k : AreKept lts class (Event s t) number found numbers x)
    (made : AreGiven lts class (Event s t) found numbers given) where
  abbrev taken_at_event : ℕ → ℤ
  taken_at_event = taken lts class (Event s t) numbers found

  label_takes : (u : ℕ) (b : Bool) → (u == t) ≡ b → taken_at_event u ≡ event_taken class.pure class.plain b (top_at found u) (least_at lts numbers t).top
  label_takes u b is = ap (λ b. event_taken class.pure class.plain b (top_at found u) (least_at lts numbers t).top) is

  others_take : (i : ℕ) → i < labels lts → i ≢ t → unsigned_abs (taken_at_event i) ≡ down (effects_in x i)
  others_take i lt differ = ap unsigned_abs (label_takes i false (ne_eqb i t differ)) ∙ taken_down (top_at found i) ∙ ap down (k.effects i lt)

  others_give : (i : ℕ) → i < labels lts → i ≢ t → unsigned_abs (taken_at_event i +ℤ top_at found i) ≡ up (effects_in x i)
  others_give i lt differ = ap (λ z. unsigned_abs (z +ℤ top_at found i)) (label_takes i false (ne_eqb i t differ)) ∙ given_up (top_at found i) ∙ ap up (k.effects i lt)

  keeps : KeepsRows lts class (Event s t) number (numbers_by (tokens_in x) (effects_in x))
  keeps = whole_keeps lts class (Event s t) number x k.keeps

  facts : Facts lts class (tokens_in x) (effects_in x) t
  facts = event_facts lts class s t number (tokens_in x) (effects_in x) keeps

  tokens : (q : ℕ) → x (Tokens q) ≡ pos (tokens_in x q)
  tokens q = tokens_are lts class (Event s t) number x k.keeps q

  pure_made : class.pure ≡ true → MakesPlace lts class (Event s t) found numbers given
  pure_made pure =
      finish lts class (Event s t) number found numbers x given fine asked k made (λ u. down (effects_in x u)) (λ u. up (effects_in x u))
      (λ i lt. ⊎_elim
      (λ is. ap unsigned_abs (own i is) ∙ opposite_down (top_at found i) (negative i lt is) ∙ ap down (k.effects i lt))
      (λ differ. others_take i lt differ)
      (cases_eq i t))
      (λ i lt. ⊎_elim
      (λ is. ap (λ z. unsigned_abs (z +ℤ top_at found i)) (own i is) ∙ opposite_up (top_at found i) (negative i lt is) ∙ ap up (k.effects i lt))
      (λ differ. others_give i lt differ)
      (cases_eq i t))
      (effect_suits lts class (tokens_in x) (effects_in x) t facts k.start)
      (subst (λ n. tokens_in x s < n) (sym (weight_by (λ u. down (effects_in x u)) (labels lts) t asked.1)) blocks)
    where
      own : (i : ℕ) → i ≡ t → taken_at_event i ≡ neg_ℤ (top_at found i)
      own i is = label_takes i true (eq-eqb i t is) ∙ ap (λ a. event_taken a class.plain true (top_at found i) (least_at lts numbers t).top) pure

      blocked : (e : ℤ) (a : ℕ) → pos 0 ≤ℤ (((negsuc 0 *ℤ pos a) +ℤ ((negsuc 0 *ℤ e) +ℤ pos 0)) +ℤ negsuc 0) → a < down e
      blocked (pos n) a h = omega (arith, ints)
      blocked (negsuc n) a h = omega (arith, ints)

      blocks : tokens_in x s < down (effects_in x t)
      blocks = blocked (effects_in x t) (tokens_in x s) (keeps row_name.Block pure)

      some_down : (a n : ℕ) → a < n → 0 < n
      some_down a n h = omega arith

      negative : (i : ℕ) → i < labels lts → i ≡ t → 0 < down (top_at found i)
      negative i lt is = subst (λ e. 0 < down e) (sym (k.effects i lt))
          (subst (λ u. 0 < down (effects_in x u)) (sym is) (some_down (tokens_in x s) (down (effects_in x t)) blocks))

  -- the event's label takes z: more than there are tokens at s, and no more than there are where the label is allowed
  module _ (z : ℤ) (not_negative : pos 0 ≤ℤ z) (own : (i : ℕ) → i ≡ t → taken_at_event i ≡ z) (impure : class.pure ≡ false)
      (more : down (effects_in x t) ≤ unsigned_abs z) (enough : (q q' : ℕ) → HasArc lts q t q' → unsigned_abs z ≤ tokens_in x q)
      (small : class.plain ≡ true → (unsigned_abs z ≤ 1) × (unsigned_abs z + up (effects_in x t) - down (effects_in x t) ≤ 1))
      (stops : tokens_in x s < unsigned_abs z) where
    abbrev puts : ℕ
    puts = unsigned_abs z + up (effects_in x t) - down (effects_in x t)

    abbrev pre : ℕ → ℕ
    pre = at_label t (unsigned_abs z) (λ u. down (effects_in x u))

    impure_made : MakesPlace lts class (Event s t) found numbers given
    impure_made =
        finish lts class (Event s t) number found numbers x given fine asked k made pre (at_label t puts (λ u. up (effects_in x u)))
        (λ i lt. ⊎_elim
        (λ is. ap unsigned_abs (own i is) ∙ sym (ap (λ b. if b then unsigned_abs z else down (effects_in x i)) (eq-eqb i t is)))
        (λ differ. others_take i lt differ ∙ sym (at_label_other t (unsigned_abs z) (λ u. down (effects_in x u)) i differ))
        (cases_eq i t))
        (λ i lt. ⊎_elim
        (λ is. ap₂ (λ y e. unsigned_abs (y +ℤ e)) (own i is) (k.effects i lt ∙ ap (effects_in x) is)
        ∙ more_up z (effects_in x t) not_negative more
        ∙ sym (ap (λ b. if b then puts else up (effects_in x i)) (eq-eqb i t is)))
        (λ differ. others_give i lt differ ∙ sym (at_label_other t puts (λ u. up (effects_in x u)) i differ))
        (cases_eq i t))
        (stopping_suits lts class (tokens_in x) (effects_in x) t (unsigned_abs z) facts k.start impure more enough small)
        (subst (λ m. tokens_in x s < m)
        (sym (weight_by pre (labels lts) t asked.1 ∙ ap (λ b. if b then unsigned_abs z else down (effects_in x t)) (eq-eqb t t refl))) stops)

  stopped_made : class.plain ≡ false → class.pure ≡ false → ¬ IsDead lts t → MakesPlace lts class (Event s t) found numbers given
  stopped_made plain impure live = impure_made (least_at lts numbers t).top not_negative own impure more enough (λ c. absurd (true≢false (sym c ∙ plain))) stops
    where
      at : StopsAt lts t numbers x
      at = stops_at lts class (Event s t) t number found numbers x fine live k

      own : (i : ℕ) → i ≡ t → taken_at_event i ≡ (least_at lts numbers t).top
      own i is = label_takes i true (eq-eqb i t is)
          ∙ ap₂ (λ a c. event_taken a c true (top_at found i) (least_at lts numbers t).top) impure plain

      n_is : unsigned_abs (least_at lts numbers t).top ≡ tokens_in x at.state
      n_is = ap unsigned_abs at.is

      not_negative : pos 0 ≤ℤ (least_at lts numbers t).top
      not_negative = subst (λ z. pos 0 ≤ℤ z) (sym (at.is ∙ tokens at.state)) (natural (tokens_in x at.state))

      more : down (effects_in x t) ≤ unsigned_abs (least_at lts numbers t).top
      more = subst (λ m. down (effects_in x t) ≤ m) (sym n_is)
          (below (effects_in x t) (tokens_in x at.state) (tokens_in x at.target) (facts.arcs at.state t at.target at.has))

      enough : (q q' : ℕ) → HasArc lts q t q' → unsigned_abs (least_at lts numbers t).top ≤ tokens_in x q
      enough q q' has = subst (λ m. m ≤ tokens_in x q) (sym n_is)
          (order (tokens_in x at.state) (tokens_in x q)
          (subst (λ z. z ≤ℤ pos (tokens_in x q)) (at.is ∙ tokens at.state) (subst (λ z. (least_at lts numbers t).top ≤ℤ z) (tokens q) (at.low q q' has))))
        where
          order : (a b : ℕ) → pos a ≤ℤ pos b → a ≤ b
          order a b h = omega (arith, ints)

      stops : tokens_in x s < unsigned_abs (least_at lts numbers t).top
      stops = subst (λ m. tokens_in x s < m) (sym n_is)
          (less (tokens_in x at.state) (tokens_in x s) (keeps (row_name.Stop at.state) (impure, plain, (at.target, at.has))))
        where
          less : (a b : ℕ) → pos 0 ≤ℤ (((pos 1 *ℤ pos a) +ℤ ((negsuc 0 *ℤ pos b) +ℤ pos 0)) +ℤ negsuc 0) → b < a
          less a b h = omega (arith, ints)

  -- in a plain class that isn't pure the stopped label takes 1
  plain_made : class.plain ≡ true → class.pure ≡ false → MakesPlace lts class (Event s t) found numbers given
  plain_made plain impure = impure_made (pos 1) (omega (arith, ints)) own impure (facts.down_small plain t asked.1) enough
      (λ c. (omega arith, kept_low (effects_in x t) (keeps row_name.Keep (plain, impure)))) stops
    where
      own : (i : ℕ) → i ≡ t → taken_at_event i ≡ pos 1
      own i is = label_takes i true (eq-eqb i t is)
          ∙ ap₂ (λ a c. event_taken a c true (top_at found i) (least_at lts numbers t).top) impure plain

      enough : (q q' : ℕ) → HasArc lts q t q' → 1 ≤ tokens_in x q
      enough q q' has = some_token (tokens_in x q) (keeps (row_name.Full q) (plain, impure, (q', has)))
        where
          some_token : (a : ℕ) → pos 0 ≤ℤ (((pos 1 *ℤ pos a) +ℤ pos 0) +ℤ negsuc 0) → 1 ≤ a
          some_token a h = omega (arith, ints)

      stops : tokens_in x s < 1
      stops = none (tokens_in x s) (keeps row_name.Empty (plain, impure))
        where
          none : (a : ℕ) → pos 0 ≤ℤ (((negsuc 0 *ℤ pos a) +ℤ pos 0) +ℤ pos 0) → a < 1
          none a h = omega (arith, ints)

      -- it puts back no more than it takes
      kept_low : (e : ℤ) → pos 0 ≤ℤ (((negsuc 0 *ℤ e) +ℤ pos 0) +ℤ pos 0) → 1 + up e - down e ≤ 1
      kept_low (pos zero) h = omega arith
      kept_low (pos (suc n)) h = absurd (omega (arith, ints))
      kept_low (negsuc n) h = omega arith

-- ---- the whole fold

made_for : (lts : System) (class : Class) (problem : Problem) (number : ℕ) (found numbers : List Ratio) (x : Variable → ℤ) (given : List ℤ) → IsInRange lts
    → IsSeparationProblem lts problem → IsLive lts problem → AreKept lts class problem number found numbers x → AreGiven lts class problem found numbers given
    → MakesPlace lts class problem found numbers given
made_for lts class (Event s t) number found numbers x given fine asked live k made = ⊎_elim
    (pure_made lts class s t number found numbers x given fine asked k made)
    (λ impure. ⊎_elim
    (λ plain. plain_made lts class s t number found numbers x given fine asked k made plain impure)
    (λ plain. stopped_made lts class s t number found numbers x given fine asked k made plain impure live)
    (cases_Bool class.plain))
    (cases_Bool class.pure)
made_for lts class (States s s') number found numbers x given fine asked live k made = state_made lts class s s' number found numbers x given fine asked k made

-- numbers that are kept
kept_for : (it : CaseSetting) (case : CaseSystem) (start : Ratio) (value : ℕ → Ratio) (first : ℤ) (effect : ℕ → ℤ) (scale : ℤ) (effects found numbers : List Ratio)
    (out : ℕ → Ratio) → IsCaseOver it case → IsLive it.lts it.problem → AreEffects it.lts it.tree it.basis effect
    → MeetsCase it.setting case first effect scale → AreFormsWhole it.setting case first effect scale → AreValuesOf it.lts it.basis start value first effect scale
    → each (effect_fold it.lts it.basis value) (all_numbers (labels it.lts)) (Ok effects) → made_whole it.class (effects ++ start ∷ []) (Ok found)
    → along_tree (ratio_at found) (λ s. ratio_at found (labels it.lts)) it.tree (Ok out)
    → shift_fold it.lts it.class it.problem (map out (all_numbers (states it.lts))) (Ok numbers)
    → (x : Variable → ℤ) × AreKept it.lts it.class it.problem it.number found numbers x
kept_for it case start value first effect scale effects found numbers out c live e met whole_forms v effects_made whole_made along (moved, shift, lift) = ⊎_elim
    (λ is. (let (x, k, allowed) = whole_kept it case first effect scale start value effects found moved out c live e v whole_forms met
    is effects_made whole_made along shift in lift_kept it.lts it.class it.problem it.number found moved numbers x c.in_range c.numbers k lift allowed))
    (λ other. (let (plain, bound) = neither it.class.plain it.class.bound other in
    let (m, f, steps) = found_is it.setting start value first effect scale effects found c.numbers plain bound c.is_basis e v effects_made whole_made in
    let (x, k, allowed) = kept_is it case first effect scale m found moved out plain bound c e v.positive f steps met along shift in
    lift_kept it.lts it.class it.problem it.number found moved numbers x c.in_range c.numbers k lift (λ none. allowed)))
    (cases_Bool (it.class.plain || is_some it.class.bound))
  where
    neither : (p : Bool) (o : Option ℕ) → (p || is_some o) ≡ false → (p ≡ false) × IsNone o
    neither true o e = absurd (true≢false e)
    neither false None e = (refl, refl)
    neither false (Some k) e = absurd (true≢false e)

pub place_made : (s : CaseSetting) (case : CaseSystem) (start : Ratio) (value : ℕ → Ratio) (first : ℤ) (effect : ℕ → ℤ) (scale : ℤ) (place : Place) → IsCaseOver s case
    → IsLive s.lts s.problem → AreEffects s.lts s.tree s.basis effect → MeetsCase s.setting case first effect scale → AreFormsWhole s.setting case first effect scale
    → AreValuesOf s.lts s.basis start value first effect scale → place_fold s.setting s.problem start value (Ok place)
    → PlaceIsMade s.setting s.problem start value place
place_made s case start value first effect scale place c live e met whole_forms v (effects, effects_made, (found, whole_made, (out, along, (numbers, shift, (given, posts, is))))) =
    let (x, k) = kept_for s case start value first effect scale effects found numbers out c live e met whole_forms v effects_made whole_made along shift in
    let p = made_for s.lts s.class s.problem s.number found numbers x given c.in_range c.asked live k posts in
    record {
      numbers = numbers;
      made = (effects, effects_made, (found, whole_made, (out, along, shift)));
      region = subst (λ q. RegionIn s.lts s.class q (tokens_of numbers)) (sym is) p.region;
      separates = subst (λ q. Separates q (tokens_of numbers) s.problem) (sym is) p.separates;
      fit = subst (λ q. NumbersFit q (tokens_of numbers)) (sym is) p.fit;
    }
