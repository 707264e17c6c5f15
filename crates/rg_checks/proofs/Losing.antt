-- The first label that is lost.
use Rattle.std.proofs.Common.{◌≡◌, ◌≢◌, ◌⊎◌, ◌↔◌, inl, inr, ℕ, ◌+◌, ◌<◌, ◌≤◌, List, length, Option, Some, None, IfSome, IfNone, get_or, slice_index_or, Contains, sym, refl, ap, subst, ◌∙◌, arith}
use Rattle.std.proofs.lemmas.Bool.{cases_lt, cases_eq}
use Rattle.std.proofs.lemmas.List.{get_or_default}
use Rattle.std.specs.List.Sorted.{IsNonDecreasingBy}
use Rattle.rg_theory.specs.declared.Arc.{Arc}
use Rattle.rg_theory.specs.System.{System, arc, states, labels, HasArc, IsInRange}
use Rattle.rg_theory.proofs.Arcs.{arc_in_range, find_arc}
use Rattle.rg_checks.specs.Persistent.{HasStep, IsLost, IsPersistent, IsLostBefore, IsLeastLost}
use Rattle.rg_checks.specs.Lost.{AreLabelled, IsLeastLostTo, IsLeastLostBy, IsLeastLostAt}

-- an arc of the label at the state
pub step_of : (lts : System) (s t : ℕ) (a : Arc) → Contains lts.arcs a → a.from ≡ s → a.label ≡ t → HasStep lts s t
step_of lts s t a has from label = (a.to, subst (Contains lts.arcs) (λ i. record { from = from i; label = label i; to = a.to }) has)

-- ---- the label that is lost at one state that is entered

-- the labels of the arcs so far are t, or have an arc at the state that is entered
abbrev pub AreKept : System → ℕ → ℕ → List Arc → ℕ → Type 0
AreKept lts t to here n = (k : ℕ) (d : Arc) → k < n → ((slice_index_or here k d).label ≡ t) ⊎ HasStep lts to (slice_index_or here k d).label

-- and so are those of further arcs, which have one label
pub kept_more : (lts : System) (t to i j : ℕ) (d : Arc) (here : List Arc) → i < length here → AreKept lts t to here i
    → ((k : ℕ) (e : Arc) → i ≤ k → k < j → (slice_index_or here k e).label ≡ (slice_index_or here i e).label)
    → ((slice_index_or here i d).label ≡ t) ⊎ HasStep lts to (slice_index_or here i d).label → AreKept lts t to here j
kept_more lts t to i j d here lt kept same next k e less = go (cases_lt k i)
  where
    go : (k < i) ⊎ (i ≤ k) → ((slice_index_or here k e).label ≡ t) ⊎ HasStep lts to (slice_index_or here k e).label
    go (inl early) = kept k e early
    go (inr late) =
        subst (λ n. (n ≡ t) ⊎ HasStep lts to n) (ap (λ (x : Arc). x.label) (get_or_default here i d e lt) ∙ sym (same k e late less)) next

module _ (lts : System) (s t to : ℕ) (here : List Arc) (leaving : (a : Arc) → Contains here a ↔ (Contains lts.arcs a × (a.from ≡ s))) where
  -- a label that is lost has an arc that isn't kept
  pub not_kept : (n w : ℕ) → AreKept lts t to here n → IsLost lts s t w to → (k : ℕ) × (k < length here) × (n ≤ k) × ((d : Arc) → (slice_index_or here k d).label ≡ w)
  not_kept n w kept lost = by ((leaving (arc s w lost.before.0)).1 (lost.before.1, refl))
    where
      by : Contains here (arc s w lost.before.0) → (k : ℕ) × (k < length here) × (n ≤ k) × ((d : Arc) → (slice_index_or here k d).label ≡ w)
      by (k, in_k, at) = go (cases_lt k n)
        where
          is_w : (d : Arc) → (slice_index_or here k d).label ≡ w
          is_w d = ap (λ (x : Arc). x.label) (get_or_default here k d (arc s w lost.before.0) in_k ∙ at)

          go : (k < n) ⊎ (n ≤ k) → (k : ℕ) × (k < length here) × (n ≤ k) × ((d : Arc) → (slice_index_or here k d).label ≡ w)
          go (inl early) = absurd (refuse (kept k (arc 0 0 0) early))
            where
              refuse : ((slice_index_or here k (arc 0 0 0)).label ≡ t) ⊎ HasStep lts to (slice_index_or here k (arc 0 0 0)).label → ⊥
              refuse (inl same) = lost.other (sym same ∙ is_w (arc 0 0 0))
              refuse (inr has) = lost.after (subst (HasStep lts to) (is_w (arc 0 0 0)) has)
          go (inr late) = (k, in_k, late, is_w)

  pub none_kept : (n : ℕ) → length here ≤ n → AreKept lts t to here n → (w : ℕ) → IsLost lts s t w to → ⊥
  none_kept n all kept w lost = let (k, in_k, late, is) = not_kept n w kept lost in omega (arith, all, in_k, late)

  -- the first label that isn't kept is the least that is lost
  pub first_lost : (i : ℕ) (d : Arc) → i < length here → IsNonDecreasingBy (λ (a : Arc). a.label) here → AreKept lts t to here i → HasArc lts s t to
      → ((slice_index_or here i d).label ≡ t → ⊥) → (HasStep lts to (slice_index_or here i d).label → ⊥)
      → IsLeastLostTo lts s t (slice_index_or here i d).label to
  first_lost i d lt rises kept step other after = record {
    lost = record { other = λ e. other (sym e); step = step; before = before; after = after };
    least = least;
  }
    where
      one : Arc
      one = get_or here i d

      own : Contains lts.arcs one × (one.from ≡ s)
      own = (leaving one).0 (i, lt, get_or_default here i one d lt)

      before : HasStep lts s one.label
      before = step_of lts s one.label one own.0 own.1 refl

      least : (w : ℕ) → w < one.label → IsLost lts s t w to → ⊥
      least w less lost =
          let (k, in_k, late, is) = not_kept i w kept lost in
          let rise = rises i k d late in_k in
          omega (arith, less, rise, is d)

-- ---- the label that is lost, then the state that is entered

-- the loss that comes first at the states that are entered so far, and it comes before those at states behind them
abbrev pub IsFirstSoFar : System → ℕ → ℕ → List Arc → ℕ → Option (ℕ × ℕ) → Type 0
IsFirstSoFar lts s t steps n None = (k : ℕ) (d : Arc) → k < n → (w : ℕ) → IsLost lts s t w (slice_index_or steps k d).to → ⊥
IsFirstSoFar lts s t steps n (Some l) =
    IsLost lts s t l.0 l.1
    × ((k : ℕ) (d : Arc) → k < n → (w : ℕ) → (w < l.0) ⊎ ((w ≡ l.0) × ((slice_index_or steps k d).to < l.1)) → IsLost lts s t w (slice_index_or steps k d).to → ⊥)
    × ((k : ℕ) (d : Arc) → n ≤ k → k < length steps → l.1 < (slice_index_or steps k d).to)

module _ (lts : System) (s t : ℕ) (steps : List Arc) (are : AreLabelled lts s t steps) where
  same_target : (k i : ℕ) (d e : Arc) → k ≡ i → i < length steps → (slice_index_or steps k d).to ≡ (slice_index_or steps i e).to
  same_target k i d e same lt = ap (λ n. (get_or steps n d).to) same ∙ ap (λ (x : Arc). x.to) (get_or_default steps i d e lt)

  -- each step leads from the state by the label
  pub steps_lead : (i : ℕ) (d : Arc) → i < length steps → HasArc lts s t (slice_index_or steps i d).to
  steps_lead i d lt =
      let one = get_or steps i d in
      let own = are.members one (i, lt, get_or_default steps i one d lt) in
      subst (Contains lts.arcs) (λ j. record { from = own.1 j; label = own.2 j; to = one.to }) own.0

  pub none_more_to : (i : ℕ) (d : Arc) (o : Option (ℕ × ℕ)) → i < length steps → IsFirstSoFar lts s t steps i o
      → ((w : ℕ) → IsLost lts s t w (slice_index_or steps i d).to → ⊥) → IsFirstSoFar lts s t steps (i + 1) o
  none_more_to i d None lt first none = before
    where
      before : (k : ℕ) (e : Arc) → k < i + 1 → (w : ℕ) → IsLost lts s t w (slice_index_or steps k e).to → ⊥
      before k e less w lost = go (cases_eq k i)
        where
          go : (k ≡ i) ⊎ (k ≡ i → ⊥) → ⊥
          go (inl same) = none w (subst (IsLost lts s t w) (same_target k i e d same lt) lost)
          go (inr ne) = first k e (omega (arith, less, ne)) w lost
  none_more_to i d (Some l) lt first none = (first.0, before, λ k e le short. first.2 k e (omega arith) short)
    where
      before : (k : ℕ) (e : Arc) → k < i + 1 → (w : ℕ) → (w < l.0) ⊎ ((w ≡ l.0) × ((slice_index_or steps k e).to < l.1))
          → IsLost lts s t w (slice_index_or steps k e).to → ⊥
      before k e less w earlier lost = go (cases_eq k i)
        where
          go : (k ≡ i) ⊎ (k ≡ i → ⊥) → ⊥
          go (inl same) = none w (subst (IsLost lts s t w) (same_target k i e d same lt) lost)
          go (inr ne) = first.1 k e (omega (arith, less, ne)) w earlier lost

  -- the loss at the next state that is entered, where no label up to its own is lost before
  pub new_first : (i u : ℕ) (d : Arc) → i < length steps → IsLeastLostTo lts s t u (slice_index_or steps i d).to
      → ((k : ℕ) (e : Arc) → k < i → (w : ℕ) → w ≤ u → IsLost lts s t w (slice_index_or steps k e).to → ⊥)
      → IsFirstSoFar lts s t steps (i + 1) (Some (u, (slice_index_or steps i d).to))
  new_first i u d lt least none = (least.lost, before, behind)
    where
      to : ℕ
      to = (get_or steps i d).to

      before : (k : ℕ) (e : Arc) → k < i + 1 → (w : ℕ) → (w < u) ⊎ ((w ≡ u) × ((slice_index_or steps k e).to < to))
          → IsLost lts s t w (slice_index_or steps k e).to → ⊥
      before k e less w earlier lost = go (cases_eq k i)
        where
          low : (w < u) ⊎ ((w ≡ u) × ((slice_index_or steps k e).to < to)) → w ≤ u
          low (inl l) = omega arith
          low (inr l) = let m = l.0 in omega (arith, m)

          at_one : (k ≡ i) → (w < u) ⊎ ((w ≡ u) × ((slice_index_or steps k e).to < to)) → ⊥
          at_one same (inl l) = least.least w l (subst (IsLost lts s t w) (same_target k i e d same lt) lost)
          at_one same (inr l) = let m = same_target k i e d same lt in let n = l.1 in omega (arith, m, n)

          go : (k ≡ i) ⊎ (k ≡ i → ⊥) → ⊥
          go (inl same) = at_one same earlier
          go (inr ne) = none k e (omega (arith, less, ne)) w (low earlier) lost

      behind : (k : ℕ) (e : Arc) → i + 1 ≤ k → k < length steps → to < (slice_index_or steps k e).to
      behind k e le short =
          let rise = are.order i k e (omega arith) short in
          let m = ap (λ (x : Arc). x.to) (get_or_default steps i e d lt) in
          omega (arith, rise, m)

  -- the loss that was first stays so where its label is no greater
  pub old_first : (i u : ℕ) (d : Arc) (l : ℕ × ℕ) → i < length steps → IsFirstSoFar lts s t steps i (Some l)
      → IsLeastLostTo lts s t u (slice_index_or steps i d).to → l.0 ≤ u → IsFirstSoFar lts s t steps (i + 1) (Some l)
  old_first i u d l lt first least small = (first.0, before, λ k e le short. first.2 k e (omega arith) short)
    where
      before : (k : ℕ) (e : Arc) → k < i + 1 → (w : ℕ) → (w < l.0) ⊎ ((w ≡ l.0) × ((slice_index_or steps k e).to < l.1))
          → IsLost lts s t w (slice_index_or steps k e).to → ⊥
      before k e less w earlier lost = go (cases_eq k i)
        where
          at_one : (k ≡ i) → (w < l.0) ⊎ ((w ≡ l.0) × ((slice_index_or steps k e).to < l.1)) → ⊥
          at_one same (inl m) = least.least w (omega (arith, m, small)) (subst (IsLost lts s t w) (same_target k i e d same lt) lost)
          at_one same (inr m) =
              let late = first.2 i d (omega arith) lt in
              let one = same_target k i e d same lt in
              let n = m.1 in
              omega (arith, late, one, n)

          go : (k ≡ i) ⊎ (k ≡ i → ⊥) → ⊥
          go (inl same) = at_one same earlier
          go (inr ne) = first.1 k e (omega (arith, less, ne)) w earlier lost

  pub next_first : (i u : ℕ) (d : Arc) (o : Option (ℕ × ℕ)) (r : ℕ × ℕ) → i < length steps → IsFirstSoFar lts s t steps i o
      → IsLeastLostTo lts s t u (slice_index_or steps i d).to
      → IfSome o (λ f. f.0 ≤ u → r ≡ f) → IfSome o (λ f. u < f.0 → r ≡ (u, (slice_index_or steps i d).to)) → IfNone o (r ≡ (u, (slice_index_or steps i d).to))
      → IsFirstSoFar lts s t steps (i + 1) (Some r)
  next_first i u d None r lt first least stays changes only =
      subst (λ x. IsFirstSoFar lts s t steps (i + 1) (Some x)) (sym only) (new_first i u d lt least (λ k e less w small lost. first k e less w lost))
  next_first i u d (Some f) r lt first least stays changes only = go (cases_lt u f.0)
    where
      go : (u < f.0) ⊎ (f.0 ≤ u) → IsFirstSoFar lts s t steps (i + 1) (Some r)
      go (inl less) =
          subst (λ x. IsFirstSoFar lts s t steps (i + 1) (Some x)) (sym (changes less))
          (new_first i u d lt least (λ k e early w small lost. first.1 k e early w (inl (omega (arith, small, less))) lost))
      go (inr le) = subst (λ x. IsFirstSoFar lts s t steps (i + 1) (Some x)) (sym (stays le)) (old_first i u d f lt first least le)

  -- the state that a lost label's step enters is among the steps
  among : (n w q : ℕ) → length steps ≤ n → IsLost lts s t w q → (k : ℕ) × (k < n) × ((slice_index_or steps k (arc s t q)).to ≡ q)
  among n w q all lost = let (k, in_k, at) = are.every q lost.step in (k, omega (arith, all, in_k), ap (λ (x : Arc). x.to) at)

  pub first_by : (n : ℕ) (o : Option (ℕ × ℕ)) → length steps ≤ n → IsFirstSoFar lts s t steps n o → IfSome o (λ l. IsLeastLostBy lts s t l.0 l.1)
  first_by n None all first = tt
  first_by n (Some l) all first = record { lost = first.0; first = before }
    where
      before : (w q : ℕ) → (w < l.0) ⊎ ((w ≡ l.0) × (q < l.1)) → IsLost lts s t w q → ⊥
      before w q earlier lost =
          let (k, less, is) = among n w q all lost in
          first.1 k (arc s t q) less w (subst (λ x. (w < l.0) ⊎ ((w ≡ l.0) × (x < l.1))) (sym is) earlier) (subst (IsLost lts s t w) (sym is) lost)

  pub none_by : (n : ℕ) (o : Option (ℕ × ℕ)) → length steps ≤ n → IsFirstSoFar lts s t steps n o → IfNone o ((u to : ℕ) → IsLost lts s t u to → ⊥)
  none_by n None all first = λ u to lost. let (k, less, is) = among n u to all lost in first k (arc s t to) less u (subst (IsLost lts s t u) (sym is) lost)
  none_by n (Some l) all first = tt

-- ---- the label that leads on, the state

abbrev pub NoneLostAt : System → ℕ → ℕ → Type 0
NoneLostAt lts s t = (v w to : ℕ) → v < t → IsLost lts s v w to → ⊥

pub least_at : (lts : System) (s t u to : ℕ) → NoneLostAt lts s t → IsLeastLostBy lts s t u to → IsLeastLostAt lts s t u to
least_at lts s t u to none least = record { lost = least.lost; first = first }
  where
    first : (v w q' : ℕ) → (v < t) ⊎ ((v ≡ t) × ((w < u) ⊎ ((w ≡ u) × (q' < to)))) → IsLost lts s v w q' → ⊥
    first v w q' (inl less) lost = none v w q' less lost
    first v w q' (inr (same, before)) lost = least.first w q' before (subst (λ x. IsLost lts s x w q') same lost)

pub none_at_more : (lts : System) (s t : ℕ) → NoneLostAt lts s t → ((u to : ℕ) → IsLost lts s t u to → ⊥) → NoneLostAt lts s (t + 1)
none_at_more lts s t none here v w to less lost = go (cases_eq v t)
  where
    go : (v ≡ t) ⊎ (v ≡ t → ⊥) → ⊥
    go (inl same) = here w to (subst (λ x. IsLost lts s x w to) same lost)
    go (inr ne) = none v w to (omega (arith, less, ne)) lost

pub none_at : (lts : System) (s n : ℕ) → IsInRange lts → labels lts ≤ n → NoneLostAt lts s n → (t u to : ℕ) → IsLost lts s t u to → ⊥
none_at lts s n fine all none t u to lost =
    let range = arc_in_range lts fine s t to lost.step in
    none t u to (omega (arith, range.1, all)) lost

abbrev pub NoneLost : System → ℕ → Type 0
NoneLost lts s = (q v w to : ℕ) → q < s → IsLost lts q v w to → ⊥

pub least_lost : (lts : System) (s t u to : ℕ) → NoneLost lts s → IsLeastLostAt lts s t u to → IsLeastLost lts s t u to
least_lost lts s t u to none least = record { lost = least.lost; first = first }
  where
    first : (q v w q' : ℕ) → IsLostBefore q v w q' s t u to → IsLost lts q v w q' → ⊥
    first q v w q' (inl less) lost = none q v w q' less lost
    first q v w q' (inr (same, before)) lost = least.first v w q' before (subst (λ x. IsLost lts x v w q') same lost)

pub none_more : (lts : System) (s : ℕ) → NoneLost lts s → ((t u to : ℕ) → IsLost lts s t u to → ⊥) → NoneLost lts (s + 1)
none_more lts s none here q v w to less lost = go (cases_eq q s)
  where
    go : (q ≡ s) ⊎ (q ≡ s → ⊥) → ⊥
    go (inl same) = here v w to (subst (λ x. IsLost lts x v w to) same lost)
    go (inr ne) = none q v w to (omega (arith, less, ne)) lost

-- where none is lost, the system is persistent
pub persistent : (lts : System) (n : ℕ) → IsInRange lts → states lts ≤ n → NoneLost lts n → IsPersistent lts
persistent lts n fine all none = record { kept = kept }
  where
    kept : (s t u s₁ s₂ : ℕ) → HasArc lts s t s₁ → HasArc lts s u s₂ → t ≢ u → HasStep lts s₁ u
    kept s t u s₁ s₂ step before other = by (find_arc lts s₁ u)
      where
        by : HasStep lts s₁ u ⊎ ((to : ℕ) → HasArc lts s₁ u to → ⊥) → HasStep lts s₁ u
        by (inl has) = has
        by (inr lacks) =
            let range = arc_in_range lts fine s t s₁ step in
            absurd (none s t u s₁ (omega (arith, range.0, all)) (record { other = other; step = step; before = (s₂, before); after = λ has. lacks has.0 has.1 }))

-- a label that is lost shows that it isn't
pub lost_not_persistent : (lts : System) (s t u s' : ℕ) → IsLost lts s t u s' → IsPersistent lts → ⊥
lost_not_persistent lts s t u s' lost kept = lost.after (kept.kept s t u s' lost.before.0 lost.step lost.before.1 lost.other)

-- each target is a state of the system
pub target_in_range : (lts : System) (s t i : ℕ) (d : Arc) (steps : List Arc) → IsInRange lts → AreLabelled lts s t steps → i < length steps → (slice_index_or steps i d).to < states lts
target_in_range lts s t i d steps fine are lt =
    let own = are.members (get_or steps i d) (i, lt, get_or_default steps i (get_or steps i d) d lt) in
    (arc_in_range lts fine (get_or steps i d).from (get_or steps i d).label (get_or steps i d).to own.0).2
