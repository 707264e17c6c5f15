-- Along the tree each state gets its marking, or the tree stops at a label that isn't enabled or at a number that passes.
use Rattle.std.proofs.Common.{◌≡◌, ◌⊎◌, inl, inr, ⊎_elim, ℕ, zero, suc, ◌+◌, ◌-◌, ◌<◌, ◌≤◌, List, []}
use Rattle.std.proofs.Common.{◌∷◌, ◌++◌, length, drop, Contains, Option, None, Some, slice_get, refl, sym, ap, subst, ◌∙◌, arith}
use Rattle.std.specs.Prelude.{pos, neg_ℤ}
use Rattle.std.proofs.lemmas.Bool.{cases_lt}
use Rattle.std.proofs.lemmas.List.{drop_all}
use Rattle.std.proofs.lemmas.List.Elements.{Contains-append_left, Contains-push_cases}
use Rattle.std.proofs.lemmas.Option.{same_Some, none-some, slice_get_within, get_or_from_slice_get}
use Rattle.rg_integers.specs.Range.{greatest}
use Rattle.rg_theory.specs.declared.Arc.{Arc}
use Rattle.rg_theory.specs.System.{System, states, labels, IsInRange, IsAllReachable, IsReachable}
use Rattle.rg_theory.specs.Net.{Place, Net, Marking, pre_weight, post_weight, tokens, IsPlaceAt, IsEnabled, Fires, FiresAll, start_marking}
use Rattle.rg_theory.specs.Tree.{Grows, IsTree, way_to}
use Rattle.rg_theory.proofs.Lists.{slice_get_some, each_or_some, only_one}
use Rattle.rg_theory.proofs.Arcs.{arc_in_range}
use Rattle.rg_theory.proofs.Firing.{fires_enabled}
use Rattle.rg_theory.proofs.Trees.{source_met, led_is_met, way_joins, way_of_initial}
use Rattle.rg_theory.proofs.Deciding.{Decided, find_number}
use Rattle.rg_net.specs.Firing.{left_on, StaysInRange, IsFirstPassed}
use Rattle.rg_net_verdict.specs.declared.verdict.CheckWide.{CheckWide}
use Rattle.rg_net_verdict.specs.Markings.{IsMarkingOf, FireBefore}
use Rattle.rg_net_verdict.specs.Verdict.{IsStuckInTree, PassesInTree, HaveMarkings}
use Rattle.rg_net_verdict.proofs.Along.{fires_more}

-- ---- one firing

pub enabled_or_not : (net : Net) (m : Marking) (t : ℕ) → Decided (IsEnabled net m t)
enabled_or_not net m t = by (each_or_some (λ i p. pre_weight p t ≤ tokens m i) (λ i p. tokens m i < pre_weight p t) (λ i p. few i p (cases_lt (tokens m i) (pre_weight p t))) net.places)
  where
    few : (i : ℕ) (p : Place) → (tokens m i < pre_weight p t) ⊎ (pre_weight p t ≤ tokens m i) → (pre_weight p t ≤ tokens m i) ⊎ (tokens m i < pre_weight p t)
    few i p (inl less) = inr less
    few i p (inr most) = inl most

    by : ((i : ℕ) (p : Place) → slice_get net.places i ≡ Some p → pre_weight p t ≤ tokens m i) ⊎ ((i : ℕ) × (p : Place) × (slice_get net.places i ≡ Some p) × (tokens m i < pre_weight p t))
        → Decided (IsEnabled net m t)
    by (inl each) = inl each
    by (inr (i, p, at, less)) = inr (λ on. (let most = on i p at in omega arith))

-- a place gets more than the greatest number
abbrev PassesAt : Net → Marking → ℕ → ℕ → Type 0
PassesAt net m t i = (p : Place) × IsPlaceAt net i p × (greatest < left_on m i p t)

passes_or_not : (net : Net) (m : Marking) (t i : ℕ) → Decided (PassesAt net m t i)
passes_or_not net m t i = by (slice_get net.places i) refl
  where
    placed : (p : Place) → IsPlaceAt net i p → (greatest < left_on m i p t) ⊎ (left_on m i p t ≤ greatest) → Decided (PassesAt net m t i)
    placed p at (inl more) = inl (p, at, more)
    placed p at (inr most) = inr (λ (q, at', more).
        (let less : greatest < left_on m i p t = subst (λ (r : Place). greatest < left_on m i r t) (same_Some q p (sym at' ∙ at)) more in
        omega (arith, less, most)))

    by : (o : Option Place) → slice_get net.places i ≡ o → Decided (PassesAt net m t i)
    by None at = inr (λ (q, at', more). none-some q (sym at ∙ at'))
    by (Some p) at = placed p at (cases_lt greatest (left_on m i p t))

not_passing : (net : Net) (m : Marking) (t i : ℕ) (p : Place) → ¬ PassesAt net m t i → IsPlaceAt net i p → left_on m i p t ≤ greatest
not_passing net m t i p none at = by (cases_lt greatest (left_on m i p t))
  where
    by : (greatest < left_on m i p t) ⊎ (left_on m i p t ≤ greatest) → left_on m i p t ≤ greatest
    by (inl more) = absurd (none (p, at, more))
    by (inr most) = most

stays_or_passes : (net : Net) (m : Marking) (t : ℕ) → StaysInRange net m t ⊎ ((i : ℕ) × IsFirstPassed net m t i)
stays_or_passes net m t = by (find_number (PassesAt net m t) (passes_or_not net m t) (length net.places))
  where
    by : ((i : ℕ) × (i < length net.places) × PassesAt net m t i × ((j : ℕ) → j < i → ¬ PassesAt net m t j)) ⊎ ((i : ℕ) → i < length net.places → ¬ PassesAt net m t i)
        → StaysInRange net m t ⊎ ((i : ℕ) × IsFirstPassed net m t i)
    by (inl (i, lt, (p, at, more), before)) = inr (i, record { place = p; at = at; passes = more; first = λ j q less at'. not_passing net m t j q (before j less) at' })
    by (inr none) = inl (λ i p at. not_passing net m t i p (none i (slice_get_within net.places i p at)) at)

-- ---- the walk along the tree

drop_at : (tree : List Arc) (i : ℕ) (a : Arc) → slice_get tree i ≡ Some a → drop i tree ≡ a ∷ drop (suc i) tree
drop_at [] i a at = absurd (none-some a at)
drop_at (b ∷ tree) zero a at = ap (λ (x : Arc). x ∷ tree) (same_Some b a at)
drop_at (b ∷ tree) (suc i) a at = drop_at tree i a at

module _ (lts : System) (net : Net) (tree : List Arc) (fine : IsInRange lts) (same : net.labels ≡ labels lts) (is : IsTree lts tree) where
  -- so many arcs fire in range, and the states that are met have markings
  record SoFar (i : ℕ) : Type 0 where
    pub met : List ℕ
    pub grows : Grows lts met (drop i tree)
    pub initial : Contains met lts.initial
    pub fire : FireBefore net tree i
    pub each : (s : ℕ) → Contains met s → (m : Marking) × IsMarkingOf net tree s m

  -- where the tree stops
  abbrev pub Halts : Type 0
  Halts = ((s : ℕ) × (t : ℕ) × IsStuckInTree net tree s t) ⊎ ((w : CheckWide) × PassesInTree net tree w)

  begins : SoFar 0
  begins = record {
    met = lts.initial ∷ [];
    grows = is;
    initial = (0, omega arith, refl);
    fire = λ i a lt at. absurd (omega arith);
    each = λ s has. (
      start_marking net,
      subst (λ q. IsMarkingOf net tree q (start_marking net)) (only_one lts.initial s has)
          (record { fires = subst (λ ts. FiresAll net (start_marking net) ts (start_marking net)) (sym (way_of_initial lts tree is)) refl }),
    );
  }

  module _ (i : ℕ) (a : Arc) (at : slice_get tree i ≡ Some a) (f : SoFar i) where
    grown : Grows lts f.met (a ∷ drop (suc i) tree)
    grown = subst (Grows lts f.met) (drop_at tree i a at) f.grows

    in_tree : Contains tree a
    in_tree = (i, slice_get_within tree i a at, get_or_from_slice_get tree i a a at)

    label : a.label < net.labels
    label = subst (λ n. a.label < n) (sym same) (arc_in_range lts fine a.from a.label a.to grown.0.has).1

    fire_along : (m after : Marking) → IsMarkingOf net tree a.from m → Fires net m a.label after → StaysInRange net m a.label → SoFar (suc i)
    fire_along m after source fires stays = record {
      met = f.met ++ a.to ∷ [];
      grows = grown.1;
      initial = Contains-append_left f.met (a.to ∷ []) lts.initial f.initial;
      fire = λ j b less at_j. fire j b at_j (cases_lt j i) less;
      each = λ s has. ⊎_elim (λ before. f.each s before) (λ is_to. (after, subst (λ q. IsMarkingOf net tree q after) is_to reached)) (Contains-push_cases f.met a.to s has);
    }
      where
        reached : IsMarkingOf net tree a.to after
        reached = record {
          fires = subst (λ ts. FiresAll net (start_marking net) ts after) (sym (way_joins lts (λ s. []) (lts.initial ∷ []) tree a is in_tree))
              (fires_more net (start_marking net) (way_to tree a.from) m a.label after source.fires fires);
        }

        fire : (j : ℕ) (b : Arc) → slice_get tree j ≡ Some b → (j < i) ⊎ (i ≤ j) → j < suc i → (k : Marking) × IsMarkingOf net tree b.from k × IsEnabled net k b.label × StaysInRange net k b.label
        fire j b at_j (inl less) lt = f.fire j b less at_j
        fire j b at_j (inr more) lt =
            let here : j ≡ i = omega arith in
            let is_a : a ≡ b = same_Some a b (sym at ∙ ap (slice_get tree) (sym here) ∙ at_j) in
            subst (λ (c : Arc). (k : Marking) × IsMarkingOf net tree c.from k × IsEnabled net k c.label × StaysInRange net k c.label) is_a (m, source, fires.enabled, stays)

    next_arc : SoFar (suc i) ⊎ Halts
    next_arc = let (m, source) = f.each a.from (source_met lts f.met a grown.0) in by m source (enabled_or_not net m a.label) (stays_or_passes net m a.label)
      where
        by : (m : Marking) → IsMarkingOf net tree a.from m → Decided (IsEnabled net m a.label) → StaysInRange net m a.label ⊎ ((p : ℕ) × IsFirstPassed net m a.label p) → SoFar (suc i) ⊎ Halts
        by m source (inr off) _ = inr (inl (a.from, a.label, record { i = i; a = a; m = m; here = record { at = at; source = source }; state = refl; label = refl; stuck = off; before = f.fire }))
        by m source (inl on) (inr (p, passed)) = inr (inr (
          record {
            state = a.to;
            place = p;
            wide = record { a = pos (tokens m p - pre_weight passed.place a.label); b = pos 1; c = neg_ℤ (pos (post_weight passed.place a.label)); d = pos 1 };
          },
          record { i = i; a = a; m = m; here = record { at = at; source = source }; state = refl; enabled = on; before = f.fire; passed = passed; shown = refl },
        ))
        by m source (inl on) (inl stays) = let (after, fires) = fires_enabled net m a.label label on in inl (fire_along m after source fires stays)

  from_arc : (left i : ℕ) → i + left ≡ length tree → SoFar i → SoFar (length tree) ⊎ Halts
  from_arc zero i all f = let end : i ≡ length tree = omega arith in inl (subst SoFar end f)
  from_arc (suc left) i all f =
      let (a, at) = slice_get_some tree i (omega arith) in
      by (next_arc i a at f) (λ f'. from_arc left (suc i) (omega arith) f')
    where
      by : SoFar (suc i) ⊎ Halts → (SoFar (suc i) → SoFar (length tree) ⊎ Halts) → SoFar (length tree) ⊎ Halts
      by (inl f') next = next f'
      by (inr halts) next = inr halts

  -- ---- all states

  module _ (reach : IsAllReachable lts) (f : SoFar (length tree)) where
    met_all : (s : ℕ) → s < states lts → Contains f.met s
    met_all s lt = go (reach.each s lt)
      where
        ended : Grows lts f.met []
        ended = subst (Grows lts f.met) (drop_all (length tree) tree (omega arith)) f.grows

        go : IsReachable lts s → Contains f.met s
        go (ts, leads) = led_is_met lts f.met [] lts.initial ts s ended f.initial leads

    marking_at : (s : ℕ) → (s < states lts) ⊎ (states lts ≤ s) → Marking
    marking_at s (inl lt) = (f.each s (met_all s lt)).0
    marking_at s (inr past) = []

    is_marking : (s : ℕ) → s < states lts → (d : (s < states lts) ⊎ (states lts ≤ s)) → IsMarkingOf net tree s (marking_at s d)
    unfolding marking_at
    is_marking s lt (inl lt') = (f.each s (met_all s lt')).1
    is_marking s lt (inr past) = absurd (omega arith)

    all_marked : (h : ℕ → Marking) × HaveMarkings lts net tree h
    all_marked = (λ s. marking_at s (cases_lt s (states lts)), record { fire = f.fire; each = λ s lt. is_marking s lt (cases_lt s (states lts)) })

  pub marked_or_halts : IsAllReachable lts → ((h : ℕ → Marking) × HaveMarkings lts net tree h) ⊎ Halts
  marked_or_halts reach = by (from_arc (length tree) 0 (omega arith) begins)
    where
      by : SoFar (length tree) ⊎ Halts → ((h : ℕ → Marking) × HaveMarkings lts net tree h) ⊎ Halts
      by (inl f) = inl (all_marked reach f)
      by (inr halts) = inr halts
