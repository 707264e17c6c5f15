-- From one bound to the next.
use Rattle.std.proofs.Common.{◌≡◌, ◌⊎◌, ◌↔◌, inl, inr, ℕ, ◌+◌, ◌<◌, ◌≤◌, List, [], ◌∷◌, ◌++◌, length, get_or, Contains, AllPairs, refl, sym, ap, ◌∙◌, Option, Some, None, false, IfSome, IfNone, subst, arith}
use Rattle.std.specs.Option.{is_some}
use Rattle.std.proofs.lemmas.Bool.{cases_lt}
use Rattle.std.proofs.lemmas.List.{get_or_default}
use Rattle.std.proofs.lemmas.List.Elements.{All-contains, Contains-get_or}
use Rattle.rg_theory.specs.declared.Arc.{Arc}
use Rattle.rg_theory.specs.System.{System, labels, arc, HasArc, IsInRange, IsArcInRange, IsArcBefore}
use Rattle.rg_theory.specs.Net.{Place}
use Rattle.rg_theory.specs.declared.Problem.{Problem}
use Rattle.rg_theory.specs.declared.Problem.TheVariants.{Event, States}
use Rattle.rg_theory.specs.Problem.{ComesBefore}
use Rattle.rg_theory.proofs.Arcs.{label_rises}
use Rattle.rg_marks.specs.Cells.{AreAllApart}
use Rattle.rg_outcome.specs.Coming.{IsLeft, IsNext}
use Rattle.rg_outcome.specs.Blocks.{IsBlock, last_of}
use Rattle.rg_outcome.proofs.Ordering.{not_before_itself}
use Rattle.rg_blocks.specs.Left.{HaveNoArc, IsLeftFrom, IsFirstFrom, NoneBetween, NoneFrom}

pub none_found : (o : Option Problem) (P : Type 0) → is_some o ≡ false → IfNone o P → P
none_found None P e none = none
none_found (Some x) P e none = absurd cc

pub none_further : (o : Option Problem) (P Q : Type 0) → (P → Q) → IfNone o P → IfNone o Q
none_further None P Q f none = f none
none_further (Some problem) P Q f none = tt

pub some_found : (o : Option Problem) (P Q : Problem → Type 0) → ((problem : Problem) → P problem → Q problem) → IfSome o P → IfSome o Q
some_found None P Q f some = tt
some_found (Some problem) P Q f some = f problem some

-- the labels of the first arcs of the state, so many, come before the next label
abbrev pub ArePassed : List Arc → ℕ → ℕ → Type 0
ArePassed leaving i next = (k : ℕ) (d : Arc) → k < i → (get_or leaving k d).label < next

module _ (lts : System) (s : ℕ) (leaving : List Arc) (members : (a : Arc) → Contains leaving a ↔ (Contains lts.arcs a × (a.from ≡ s))) where
  -- no label from the next one on has an arc, after the last one
  pub no_arc_after : (i next to : ℕ) → ArePassed leaving i next → length leaving ≤ i → HaveNoArc lts s next to
  no_arc_after i next to passed all t q le less has =
      let (k, within, e) = (members (arc s t q)).1 (has, refl) in
      let before = passed k (arc s t q) (omega arith) in
      let is : (get_or leaving k (arc s t q)).label ≡ t = ap (λ (a : Arc). a.label) e in
      omega arith

  -- nor one before that of the next arc
  pub no_arc_before : (i next : ℕ) (d : Arc) → AllPairs IsArcBefore leaving → ArePassed leaving i next → i < length leaving
      → HaveNoArc lts s next (get_or leaving i d).label
  no_arc_before i next d order passed here t q le less has =
      let (k, within, e) = (members (arc s t q)).1 (has, refl) in
      let is : (get_or leaving k (arc s t q)).label ≡ t = ap (λ (a : Arc). a.label) e in
      let same : get_or leaving i d ≡ get_or leaving i (arc s t q) = get_or_default leaving i d (arc s t q) here in
      let label : (get_or leaving i d).label ≡ (get_or leaving i (arc s t q)).label = ap (λ (a : Arc). a.label) same in
      let from : (get_or leaving i (arc s t q)).from ≡ s = ((members _).0 (Contains-get_or leaving i (arc s t q) here)).1 in
      go k (arc s t q) is (passed k (arc s t q)) (λ later. label_rises (get_or leaving i (arc s t q)) (get_or leaving k (arc s t q)) (from ∙ sym (ap (λ (a : Arc). a.from) e)) (order i k (arc s t q) later within)) label (cases_lt k i) (cases_lt i k)
    where
      go : (k : ℕ) (a : Arc) → (get_or leaving k a).label ≡ t → (k < i → (get_or leaving k a).label < next) → (i < k → (get_or leaving i a).label ≤ (get_or leaving k a).label)
          → (get_or leaving i d).label ≡ (get_or leaving i a).label → (k < i) ⊎ (i ≤ k) → (i < k) ⊎ (k ≤ i) → ⊥
      go k a is before after label (inl lt) other = let b = before lt in omega arith
      go k a is before after label (inr ge) (inl later) = let b = after later in omega arith
      go k a is before after label (inr ge) (inr le') =
          let at : k ≡ i = omega arith in
          let there : (get_or leaving k a).label ≡ (get_or leaving i a).label = ap (λ j. (get_or leaving j a).label) at in
          omega arith

  -- the label of such an arc is one of the system
  pub label_within : (i : ℕ) (d : Arc) → IsInRange lts → i < length leaving → (get_or leaving i d).label < labels lts
  label_within i d fine here = (All-contains (IsArcInRange lts) lts.arcs _ fine.arcs ((members _).0 (Contains-get_or leaving i d here)).0).1

  -- the arc is one of the state
  pub leaving_arc : (i : ℕ) (d : Arc) → i < length leaving → HasArc lts s (get_or leaving i d).label (get_or leaving i d).to
  leaving_arc i d here =
      let (has, from) = (members _).0 (Contains-get_or leaving i d here) in
      subst (λ f. Contains lts.arcs (arc f (get_or leaving i d).label (get_or leaving i d).to)) from has

  pub passed_more : (i next more : ℕ) (d : Arc) → ArePassed leaving i next → i < length leaving → next ≤ more → (get_or leaving i d).label < more → ArePassed leaving (i + 1) more
  passed_more i next more d passed here le less k e lt = go (cases_lt k i)
    where
      go : (k < i) ⊎ (i ≤ k) → (get_or leaving k e).label < more
      go (inl before) = let b = passed k e before in omega arith
      go (inr ge) =
          let at : i ≡ k = omega arith in
          subst (λ j. (get_or leaving j e).label < more) at (subst (λ (a : Arc). a.label < more) (get_or_default leaving i d e here) less)

module _ (lts : System) (kept : List Place) where
  pub between_both : (a b c : Problem) → NoneBetween lts kept a b → NoneBetween lts kept b c → NoneBetween lts kept a c
  between_both a b c h k = record { none = λ problem left. k.none problem (left.0, h.none problem left) }

  -- the first one from a later bound
  pub first_behind : (a b : Problem) (problem : Problem) → ((q : Problem) → ComesBefore q a → ComesBefore q b) → NoneBetween lts kept a b
      → IsFirstFrom lts kept b problem → IsFirstFrom lts kept a problem
  first_behind a b problem later h f = record { first = ((f.first.0.0, λ less. f.first.0.1 (later problem less)), λ earlier less left. f.first.1 earlier less (left.0, h.none earlier left)) }

  -- one event less
  pub event_less : (s t : ℕ) → ¬ IsLeft lts kept (Event s t) → NoneBetween lts kept (Event s t) (Event s (t + 1))
  event_less s t not_left = record { none = none }
    where
      none : (problem : Problem) → IsLeftFrom lts kept (Event s t) problem → ¬ ComesBefore problem (Event s (t + 1))
      none (States r r') left less = less
      none (Event r u) left (inl less) = left.1 (inl less)
      none (Event r u) left (inr (e, less)) = go (cases_lt u t)
        where
          same : r ≡ s → u ≡ t → Event r u ≡ Event s t
          same e f = cc

          go : (u < t) ⊎ (t ≤ u) → ⊥
          go (inl before) = left.1 (inr (e, before))
          go (inr after) = not_left (subst (IsLeft lts kept) (same e (omega arith)) left.0)

  pub first_event : (s t : ℕ) → IsLeft lts kept (Event s t) → IsFirstFrom lts kept (Event s t) (Event s t)
  first_event s t left = record { first = ((left, not_before_itself (Event s t)), λ earlier less l. l.1 less) }

  -- the next label, when that of an arc is passed
  pub over_arc : (a : Problem) (s next label more q : ℕ) → NoneBetween lts kept a (Event s next) → NoneBetween lts kept (Event s next) (Event s label) → HasArc lts s label q
      → (label < next → more ≡ next) → (next ≤ label → more ≡ label + 1) → NoneBetween lts kept a (Event s more)
  over_arc a s next label more q h k has stays rises = go (cases_lt label next)
    where
      to : (n m : ℕ) → m ≡ n → NoneBetween lts kept a (Event s n) → NoneBetween lts kept a (Event s m)
      to n m e none = subst (λ x. NoneBetween lts kept a (Event s x)) (sym e) none

      go : (label < next) ⊎ (next ≤ label) → NoneBetween lts kept a (Event s more)
      go (inl lt) = to next more (stays lt) h
      go (inr le) =
          to (label + 1) more (rises le) (between_both a (Event s next) (Event s (label + 1)) h
          (between_both (Event s next) (Event s label) (Event s (label + 1)) k (event_less s label (λ left. left.0.2 q has))))

  -- after all labels of a state comes the next state
  pub all_labels : (a : Problem) (s n : ℕ) → n ≡ labels lts → NoneBetween lts kept a (Event s n) → NoneBetween lts kept a (Event (s + 1) 0)
  all_labels a s n all h = record { none = none }
    where
      none : (problem : Problem) → IsLeftFrom lts kept a problem → ¬ ComesBefore problem (Event (s + 1) 0)
      none (States r r') left less = less
      none (Event r u) left (inr (e, less)) = absurd (omega arith)
      none (Event r u) left (inl less) = go (cases_lt r s)
        where
          go : (r < s) ⊎ (s ≤ r) → ⊥
          go (inl before) = h.none (Event r u) left (inl before)
          go (inr ge) = h.none (Event r u) left (inr ((let e : r ≡ s = omega arith in e), (let within = left.0.0.1 in omega arith)))

  pub events_before : (s t u : ℕ) → t ≤ u → (q : Problem) → ComesBefore q (Event s t) → ComesBefore q (Event s u)
  events_before s t u le (States r r') less = less
  events_before s t u le (Event r v) (inl less) = inl less
  events_before s t u le (Event r v) (inr (e, less)) = inr (e, omega arith)

  -- no event problem is left from the bound on, and no state problem at all
  pub none_with_states : (a : Problem) → NoneBetween lts kept a (States 0 0) → AreAllApart lts kept → NoneFrom lts kept a
  none_with_states a h apart = record { none = none }
    where
      none : (problem : Problem) → ¬ IsLeftFrom lts kept a problem
      none (Event r u) left = h.none (Event r u) left tt
      none (States r r') left = left.0.1 (apart r r' left.0.0)

-- ---- a block

pub block_more : (lts : System) (kept : List Place) (last : Option Problem) (block : List Problem) (q : Problem) → IsBlock lts kept last block
    → IsNext lts kept (last_of last block) q → IsBlock lts kept last (block ++ q ∷ [])
block_more lts kept last [] q is next = (next, tt)
block_more lts kept last (p ∷ block) q is next = (is.0, block_more lts kept (Some p) block q is.1 next)

pub last_more : (last : Option Problem) (block : List Problem) (q : Problem) → last_of last (block ++ q ∷ []) ≡ Some q
last_more last [] q = refl
last_more last (p ∷ block) q = last_more (Some p) block q
