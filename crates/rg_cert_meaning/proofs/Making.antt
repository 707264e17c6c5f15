-- Numbers that keep every row make a place that separates.
use Rattle.std.proofs.Common.{◌≡◌, ◌≢◌, ℕ, zero, suc, ◌+◌, ◌-◌, ◌<◌, ◌≤◌, ◌⊎◌, Bool, true, false, if◌then◌else◌, nat_eq, eq-eqb, ne_eqb, true≢false, unwrap_or, map}
use Rattle.std.proofs.Common.{slice_index, max, Option, Some, None, IfSome, IsTrue, IsFalse, IsSome, inl, inr, ⊎_elim, refl, sym, ap, ◌∙◌, subst, arith, zero-add, ℤ, pos}
use Rattle.std.proofs.Common.{negsuc, ◌+ℤ◌, ◌-ℤ◌, ◌*ℤ◌, ◌≤ℤ◌, ◌↔◌, []}
use borrow.Author.Differences.{up, down}
use Rattle.std.specs.List.{range_with_len}
use Rattle.std.proofs.lemmas.Bool.{cases_eq}
use Rattle.std.proofs.lemmas.Int.{ints}
use Rattle.std.proofs.lemmas.List.FromFn.{get_or-map-range_with_len}
use Rattle.rg_theory.specs.System.{arc, System, states, labels, HasArc, IsInRange}
use Rattle.rg_theory.specs.Net.{Place, pre_weight, post_weight}
use Rattle.rg_theory.specs.declared.Class.{Class}
use Rattle.rg_theory.specs.Class.{AllowsStart}
use Rattle.rg_theory.specs.Region.{RegionIn}
use Rattle.rg_theory.specs.declared.Problem.{Problem}
use Rattle.rg_theory.specs.declared.Problem.TheVariants.{Event, States}
use Rattle.rg_theory.specs.Problem.{Separates}
use Rattle.rg_theory.proofs.Arcs.{arc_in_range}
use Rattle.rg_cert_meaning.specs.Refutes.{IsSeparationProblem, IsSeparable, HasWholeSolution}
use Rattle.rg_cert_meaning.proofs.Rows.{region_starts, event_says, state_says}
use Rattle.rg_cert_meaning.proofs.Accepted.{state_case, no_sides}
use Rattle.rg_cert_meaning.specs.Expression.{numbers_by, value_of}
use Rattle.rg_cert_meaning.specs.Row.{cases_of, KeepsRows, apart_expression, order_of, consumer_of}
use Rattle.rg_cert_meaning.specs.declared.RowName.TheVariants as row_name

-- the place with these weights for each of n labels
abbrev pub place_by : ℕ → (ℕ → ℕ) → (ℕ → ℕ) → ℕ → Place
place_by start pre post n = record { start = start; pre = map pre (range_with_len 0 n); post = map post (range_with_len 0 n) }

pub weight_by : (f : ℕ → ℕ) (n t : ℕ) → t < n → slice_index (map f (range_with_len 0 n)) t ≡ f t
weight_by f n t lt = get_or-map-range_with_len f 0 n t t 0 lt (zero-add t)

-- weights that fit the tokens of the states and the class
pub record Suits (lts : System) (class : Class) (tokens : ℕ → ℕ) (pre post : ℕ → ℕ) : Type 0 where
  pub enabled : (q t q' : ℕ) → HasArc lts q t q' → pre t ≤ tokens q
  pub moved : (q t q' : ℕ) → HasArc lts q t q' → tokens q' ≡ tokens q - pre t + post t
  pub pure : IsTrue class.pure → (t : ℕ) → t < labels lts → 0 < pre t → 0 < post t → ⊥
  pub plain : IsTrue class.plain → (t : ℕ) → t < labels lts → (pre t ≤ 1) × (post t ≤ 1)
  pub nonbranching : IsTrue class.nonbranching → (t t' : ℕ) → t < labels lts → t' < labels lts → 0 < pre t → 0 < pre t' → t ≡ t'
  pub bounded : IfSome class.bound (λ k. (s : ℕ) → s < states lts → tokens s ≤ k)
  pub start : AllowsStart class (tokens lts.initial)

pub suited_region : (lts : System) (class : Class) (tokens pre post : ℕ → ℕ) → IsInRange lts → Suits lts class tokens pre post
    → RegionIn lts class (place_by (tokens lts.initial) pre post (labels lts)) tokens
suited_region lts class tokens pre post fine suits =
    record {
      region = record {
        start = refl;
        enabled = λ q t q' has. (let is = takes t (arc_in_range lts fine q t q' has).1 in let h = suits.enabled q t q' has in omega arith);
        moved = λ q t q' has.
            (let lt = (arc_in_range lts fine q t q' has).1 in
            let is = takes t lt in
            let is' = gives t lt in
            let h = suits.moved q t q' has in
            omega arith);
      };
      allowed = record {
        weights = record {
          pure = λ c t lt h h'. suits.pure c t lt (subst (λ n. 0 < n) (takes t lt) h) (subst (λ n. 0 < n) (gives t lt) h');
          plain = λ c t lt. (let is = takes t lt in let is' = gives t lt in let h = suits.plain c t lt in (omega arith, omega arith));
          marking = suits.start;
          nonbranching = λ c t t' lt lt' h h'. suits.nonbranching c t t' lt lt' (subst (λ n. 0 < n) (takes t lt) h) (subst (λ n. 0 < n) (takes t' lt') h');
        };
        bounded = suits.bounded;
      };
    }
  where
    takes : (t : ℕ) → t < labels lts → pre_weight (place_by (tokens lts.initial) pre post (labels lts)) t ≡ pre t
    takes t lt = weight_by pre (labels lts) t lt

    gives : (t : ℕ) → t < labels lts → post_weight (place_by (tokens lts.initial) pre post (labels lts)) t ≡ post t
    gives t lt = weight_by post (labels lts) t lt

-- an arc whose label takes what its effect takes, or more, up to the tokens that are there
pub along : (e : ℤ) (a b n : ℕ) → (pos 1 *ℤ pos a) +ℤ ((pos 1 *ℤ e) +ℤ ((negsuc 0 *ℤ pos b) +ℤ pos 0)) +ℤ pos 0 ≡ pos 0 → n ≤ a → down e ≤ n → b ≡ a - n + (n + up e - down e)
along (pos m) a b n row enough more = omega (arith, ints)
along (negsuc m) a b n row enough more = omega (arith, ints)

pub below : (e : ℤ) (a b : ℕ) → (pos 1 *ℤ pos a) +ℤ ((pos 1 *ℤ e) +ℤ ((negsuc 0 *ℤ pos b) +ℤ pos 0)) +ℤ pos 0 ≡ pos 0 → down e ≤ a
below (pos m) a b row = omega (arith, ints)
below (negsuc m) a b row = omega (arith, ints)

pub not_both : (e : ℤ) → 0 < down e → 0 < up e → ⊥
not_both (pos m) h h' = omega arith
not_both (negsuc m) h h' = omega arith

-- a class word is asked or isn't
pub asked : (b : Bool) → (b ≡ true) ⊎ (b ≡ false)
asked true = inl refl
asked false = inr refl

-- what the rows of no problem say of the numbers
pub record Facts (lts : System) (class : Class) (tokens : ℕ → ℕ) (effect : ℕ → ℤ) (consumer : ℕ) : Type 0 where
  pub arcs : (q t q' : ℕ) → HasArc lts q t q' → (pos 1 *ℤ pos (tokens q)) +ℤ ((pos 1 *ℤ effect t) +ℤ ((negsuc 0 *ℤ pos (tokens q')) +ℤ pos 0)) +ℤ pos 0 ≡ pos 0
  pub up_small : IsTrue class.plain → (t : ℕ) → t < labels lts → up (effect t) ≤ 1
  pub down_small : IsTrue class.plain → (t : ℕ) → t < labels lts → down (effect t) ≤ 1
  pub only : IsTrue class.nonbranching → (t : ℕ) → t < labels lts → t ≢ consumer → down (effect t) ≡ 0
  pub bounded : IfSome class.bound (λ k. (s : ℕ) → s < states lts → tokens s ≤ k)

pub up_at_most : (e : ℤ) → pos 0 ≤ℤ (((negsuc 0 *ℤ e) +ℤ pos 0) +ℤ pos 1) → up e ≤ 1
up_at_most (pos n) h = omega (arith, ints)
up_at_most (negsuc n) h = omega arith

down_at_most : (e : ℤ) → pos 0 ≤ℤ (((pos 1 *ℤ e) +ℤ pos 0) +ℤ pos 1) → down e ≤ 1
down_at_most (pos n) h = omega arith
down_at_most (negsuc n) h = omega (arith, ints)

makes_none : (e : ℤ) → pos 0 ≤ℤ (((pos 1 *ℤ e) +ℤ pos 0) +ℤ pos 0) → down e ≡ 0
makes_none (pos n) h = refl
makes_none (negsuc n) h = omega (arith, ints)

pub within_bound : (o : Option ℕ) (tokens : ℕ → ℕ) (n : ℕ)
    → ((s : ℕ) → s < n → IsSome o → pos 0 ≤ℤ (((negsuc 0 *ℤ pos (tokens s)) +ℤ pos 0) +ℤ pos (unwrap_or o 0))) → IfSome o (λ k. (s : ℕ) → s < n → tokens s ≤ k)
within_bound None tokens n row = tt
within_bound (Some k) tokens n row = λ s lt. (let h = row s lt refl in omega (arith, ints))

pub event_facts : (lts : System) (class : Class) (s t number : ℕ) (tokens : ℕ → ℕ) (effect : ℕ → ℤ)
    → KeepsRows lts class (Event s t) number (numbers_by tokens effect) → Facts lts class tokens effect t
event_facts lts class s t number tokens effect keeps =
    record {
      arcs = λ q u q' has. keeps (row_name.Arc (arc q u q')) has;
      up_small = λ c u lt. up_at_most (effect u) (keeps (row_name.Up u) (lt, c));
      down_small = λ c u lt. down_at_most (effect u) (keeps (row_name.Down u) (lt, c));
      only = λ c u lt differ. makes_none (effect u) (keeps (row_name.Makes u) (lt, c, differ));
      bounded = within_bound class.bound tokens (states lts) (λ q lt some. keeps (row_name.Cap q) (lt, some));
    }

pub state_facts : (lts : System) (class : Class) (s s' number : ℕ) (tokens : ℕ → ℕ) (effect : ℕ → ℤ)
    → KeepsRows lts class (States s s') number (numbers_by tokens effect) → Facts lts class tokens effect (consumer_of lts number)
state_facts lts class s s' number tokens effect keeps =
    record {
      arcs = λ q u q' has. keeps (row_name.Arc (arc q u q')) has;
      up_small = λ c u lt. up_at_most (effect u) (keeps (row_name.Up u) (lt, c));
      down_small = λ c u lt. down_at_most (effect u) (keeps (row_name.Down u) (lt, c));
      only = λ c u lt differ. makes_none (effect u) (keeps (row_name.Makes u) (lt, c, differ));
      bounded = within_bound class.bound tokens (states lts) (λ q lt some. keeps (row_name.Cap q) (lt, some));
    }

-- one label alone takes
pub only_one : (consumer : ℕ) (pre : ℕ → ℕ) (n : ℕ) → ((t : ℕ) → t < n → t ≢ consumer → pre t ≡ 0) → (t : ℕ) → t < n → 0 < pre t → t ≡ consumer
only_one consumer pre n none t lt takes = ⊎_elim (λ is. is) (λ differ. absurd (let zero_here = none t lt differ in omega arith)) (cases_eq t consumer)

-- each label takes what its effect takes, and puts what its effect puts
pub effect_suits : (lts : System) (class : Class) (tokens : ℕ → ℕ) (effect : ℕ → ℤ) (consumer : ℕ) → Facts lts class tokens effect consumer
    → AllowsStart class (tokens lts.initial) → Suits lts class tokens (λ t. down (effect t)) (λ t. up (effect t))
effect_suits lts class tokens effect consumer facts start =
    record {
      enabled = λ q t q' has. below (effect t) (tokens q) (tokens q') (facts.arcs q t q' has);
      moved = λ q t q' has. (let h = along (effect t) (tokens q) (tokens q') (down (effect t)) (facts.arcs q t q' has)
          (below (effect t) (tokens q) (tokens q') (facts.arcs q t q' has)) (omega arith) in omega arith);
      pure = λ c t lt. not_both (effect t);
      plain = λ c t lt. (facts.down_small c t lt, facts.up_small c t lt);
      nonbranching = λ c t t' lt lt' h h'. only_one consumer (λ t. down (effect t)) (labels lts) (facts.only c) t lt h
          ∙ sym (only_one consumer (λ t. down (effect t)) (labels lts) (facts.only c) t' lt' h');
      bounded = facts.bounded;
      start = start;
    }

-- one value at t, and another elsewhere
abbrev pub at_label : ℕ → ℕ → (ℕ → ℕ) → ℕ → ℕ
at_label t n f u = if nat_eq u t then n else f u

pub at_label_same : (t n : ℕ) (f : ℕ → ℕ) → at_label t n f t ≡ n
at_label_same t n f = ap (λ b. if b then n else f t) (eq-eqb t t refl)

pub at_label_other : (t n : ℕ) (f : ℕ → ℕ) (u : ℕ) → u ≢ t → at_label t n f u ≡ f u
at_label_other t n f u differ = ap (λ b. if b then n else f u) (ne_eqb u t differ)

-- the same with label t, which takes n tokens
pub stopping_suits : (lts : System) (class : Class) (tokens : ℕ → ℕ) (effect : ℕ → ℤ) (t n : ℕ) → Facts lts class tokens effect t
    → AllowsStart class (tokens lts.initial) → IsFalse class.pure → down (effect t) ≤ n → ((q q' : ℕ) → HasArc lts q t q' → n ≤ tokens q)
    → (IsTrue class.plain → (n ≤ 1) × (n + up (effect t) - down (effect t) ≤ 1)) → Suits lts class tokens (at_label t n (λ u. down (effect u)))
    (at_label t (n + up (effect t) - down (effect t)) (λ u. up (effect u)))
stopping_suits lts class tokens effect t n facts start impure more enough plain =
    record {
      enabled = λ q u q' has.
          ⊎_elim
          (λ is. (let k = takes_same u is in let h = enough q q' (subst (λ v. HasArc lts q v q') is has) in omega arith))
          (λ differ. (let k = at_label_other t n (λ u. down (effect u)) u differ in let h = rest.enabled q u q' has in omega arith))
          (cases_eq u t);
      moved = λ q u q' has.
          ⊎_elim
          (λ is.
          (let k = takes_same u is in
          let k' = gives_same u is in
          let has' = subst (λ v. HasArc lts q v q') is has in
          let h = along (effect t) (tokens q) (tokens q') n (facts.arcs q t q' has') (enough q q' has') more in
          omega arith))
          (λ differ.
          (let k = at_label_other t n (λ u. down (effect u)) u differ in
          let k' = at_label_other t (n + up (effect t) - down (effect t)) (λ u. up (effect u)) u differ in
          let h = rest.moved q u q' has in
          omega arith))
          (cases_eq u t);
      pure = λ c u lt. absurd (true≢false (sym c ∙ impure));
      plain = λ c u lt.
          ⊎_elim
          (λ is. (let k = takes_same u is in let k' = gives_same u is in let h = plain c in (omega arith, omega arith)))
          (λ differ.
          (let k = at_label_other t n (λ u. down (effect u)) u differ in
          let k' = at_label_other t (n + up (effect t) - down (effect t)) (λ u. up (effect u)) u differ in
          let h = rest.plain c u lt in
          (omega arith, omega arith)))
          (cases_eq u t);
      nonbranching = λ c u u' lt lt' h h'. takes_alone c u lt h ∙ sym (takes_alone c u' lt' h');
      bounded = facts.bounded;
      start = start;
    }
  where
    rest : Suits lts class tokens (λ u. down (effect u)) (λ u. up (effect u))
    rest = effect_suits lts class tokens effect t facts start

    takes_same : (u : ℕ) → u ≡ t → at_label t n (λ u. down (effect u)) u ≡ n
    takes_same u is = subst (λ v. at_label t n (λ u. down (effect u)) v ≡ n) (sym is) (at_label_same t n (λ u. down (effect u)))

    gives_same : (u : ℕ) → u ≡ t → at_label t (n + up (effect t) - down (effect t)) (λ u. up (effect u)) u ≡ n + up (effect t) - down (effect t)
    gives_same u is = subst (λ v. at_label t (n + up (effect t) - down (effect t)) (λ u. up (effect u)) v ≡ n + up (effect t) - down (effect t))
        (sym is) (at_label_same t (n + up (effect t) - down (effect t)) (λ u. up (effect u)))

    takes_alone : IsTrue class.nonbranching → (u : ℕ) → u < labels lts → 0 < at_label t n (λ u. down (effect u)) u → u ≡ t
    takes_alone c u lt h = only_one t (at_label t n (λ u. down (effect u))) (labels lts) (λ v lt' differ. at_label_other t n (λ u. down (effect u)) v differ ∙ facts.only c v lt' differ) u lt h

pub blocked : (e : ℤ) (a : ℕ) → pos 0 ≤ℤ (((negsuc 0 *ℤ pos a) +ℤ ((negsuc 0 *ℤ e) +ℤ pos 0)) +ℤ negsuc 0) → a < down e
blocked (pos n) a h = omega (arith, ints)
blocked (negsuc n) a h = omega (arith, ints)

pub keeps_none : (e : ℤ) → pos 0 ≤ℤ (((negsuc 0 *ℤ e) +ℤ pos 0) +ℤ pos 0) → up e ≡ 0
keeps_none (pos n) h = omega (arith, ints)
keeps_none (negsuc n) h = refl

pub event_place : (lts : System) (class : Class) (s t number : ℕ) (tokens : ℕ → ℕ) (effect : ℕ → ℤ) → IsInRange lts → t < labels lts
    → AllowsStart class (tokens lts.initial) → KeepsRows lts class (Event s t) number (numbers_by tokens effect) → (p : Place) × RegionIn lts class p tokens
    × Separates p tokens (Event s t)
event_place lts class s t number tokens effect fine lt start keeps = go (asked class.pure)
  where
    n : ℕ
    n = max (tokens s + 1) (down (effect t))

    facts : Facts lts class tokens effect t
    facts = event_facts lts class s t number tokens effect keeps

    empty : IsTrue class.plain → IsFalse class.pure → tokens s ≡ 0
    empty c c' = let h = keeps row_name.Empty (c, c') in omega (arith, ints)

    enough : IsFalse class.pure → (q q' : ℕ) → HasArc lts q t q' → max (tokens s + 1) (down (effect t)) ≤ tokens q
    enough c q q' has =
        let least = below (effect t) (tokens q) (tokens q') (facts.arcs q t q' has) in
        ⊎_elim
        (λ plain. (let h = keeps (row_name.Full q) (plain, c, (q', has)) in let h' = empty plain c in omega (arith, ints)))
        (λ not_plain. (let h = keeps (row_name.Stop q) (c, not_plain, (q', has)) in omega (arith, ints)))
        (asked class.plain)

    small : IsFalse class.pure → IsTrue class.plain → (max (tokens s + 1) (down (effect t)) ≤ 1) × (max (tokens s + 1) (down (effect t)) + up (effect t) - down (effect t) ≤ 1)
    small c plain =
        let h = empty plain c in
        let h' = facts.down_small plain t lt in
        let h'' = keeps_none (effect t) (keeps row_name.Keep (plain, c)) in
        (omega arith, omega arith)

    go : (class.pure ≡ true) ⊎ (class.pure ≡ false) → (p : Place) × RegionIn lts class p tokens × Separates p tokens (Event s t)
    go (inl c) = (
      place_by (tokens lts.initial) (λ u. down (effect u)) (λ u. up (effect u)) (labels lts),
      suited_region lts class tokens (λ u. down (effect u)) (λ u. up (effect u)) fine (effect_suits lts class tokens effect t facts start),
      (let is = weight_by (λ u. down (effect u)) (labels lts) t lt in let h = blocked (effect t) (tokens s) (keeps row_name.Block c) in omega arith),
    )
    go (inr c) =
        let pre = at_label t (max (tokens s + 1) (down (effect t))) (λ u. down (effect u)) in
        let post = at_label t (max (tokens s + 1) (down (effect t)) + up (effect t) - down (effect t)) (λ u. up (effect u)) in (
          place_by (tokens lts.initial) pre post (labels lts),
          suited_region lts class tokens pre post fine (stopping_suits lts class tokens effect t (max (tokens s + 1) (down (effect t))) facts start c (omega arith) (enough c) (small c)),
          (let is = weight_by pre (labels lts) t lt in let is' = at_label_same t (max (tokens s + 1) (down (effect t))) (λ u. down (effect u)) in omega arith),
        )

apart_differs : (order : ℕ) (s s' : ℕ) (tokens : ℕ → ℕ) (effect : ℕ → ℤ) → pos 0 ≤ℤ value_of (numbers_by tokens effect) (apart_expression s s' order) → tokens s ≢ tokens s'
apart_differs zero s s' tokens effect h e = omega (arith, ints)
apart_differs (suc order) s s' tokens effect h e = omega (arith, ints)

pub state_place : (lts : System) (class : Class) (s s' number : ℕ) (tokens : ℕ → ℕ) (effect : ℕ → ℤ) → IsInRange lts → AllowsStart class (tokens lts.initial)
    → KeepsRows lts class (States s s') number (numbers_by tokens effect) → (p : Place) × RegionIn lts class p tokens × Separates p tokens (States s s')
state_place lts class s s' number tokens effect fine start keeps =
    let facts = state_facts lts class s s' number tokens effect keeps in (
      place_by (tokens lts.initial) (λ u. down (effect u)) (λ u. up (effect u)) (labels lts),
      suited_region lts class tokens (λ u. down (effect u)) (λ u. up (effect u)) fine (effect_suits lts class tokens effect (consumer_of lts number) facts start),
      apart_differs (order_of lts class number) s s' tokens effect (keeps row_name.Apart tt),
    )

-- a region of the class that separates keeps the rows of some case, and numbers that keep them make one
pub rows_exact : (lts : System) (class : Class) (problem : Problem) → IsInRange lts → IsSeparationProblem lts problem
    → 0 < cases_of lts class problem → IsSeparable lts class problem ↔ HasWholeSolution lts class problem
rows_exact lts class (Event s t) fine asked some = (
  (λ (p, m, r, less). (
    0,
    omega arith,
    m,
    (λ u. pos (post_weight p u) -ℤ pos (pre_weight p u)),
    region_starts lts class p m r,
    event_says lts class p
        m s t [] r asked.1 less (no_sides class lts.initial p m),
  )),
  (λ (number, lt, tokens, effect, start, keeps). (let (p, r, less) = event_place lts class s t number tokens effect fine asked.1 start keeps in (p, tokens, r, less))),
)
rows_exact lts class (States s s') fine asked some = (
  (λ (p, m, r, differ).
      (let (number, lt, less, only) = state_case lts class s s' p m r differ some in
      (number, lt, m, (λ u. pos (post_weight p u) -ℤ pos (pre_weight p u)), region_starts lts class p m r, state_says lts class p m s s' number [] r less only (no_sides class lts.initial p m)))),
  (λ (number, lt, tokens, effect, start, keeps). (let (p, r, differ) = state_place lts class s s' number tokens effect fine start keeps in (p, tokens, r, differ))),
)
