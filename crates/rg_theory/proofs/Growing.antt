-- Each system in range has a breadth first tree.
use Rattle.std.proofs.Common.{◌≡◌, ◌≢◌, ◌⊎◌, inl, inr, ℕ, zero, suc, ◌<◌, ◌≤◌, List, [], ◌∷◌, ◌++◌, length, Contains, Option, Some, None, refl, sym, ap, subst, ◌∙◌, arith}
use Rattle.std.specs.Prelude.{slice_get}
use Rattle.std.proofs.lemmas.Bool.{cases_lt, cases_eq}
use Rattle.std.proofs.lemmas.Option.{slice_get-get_or}
use Rattle.std.proofs.lemmas.List.Elements.{Contains-append_left, Contains-push}
use Rattle.rg_theory.specs.declared.Arc.{Arc}
use Rattle.rg_theory.specs.System.{System, states, labels, HasArc, IsInRange, IsArcBefore}
use Rattle.rg_theory.specs.Tree.{Joins, Grows, IsTree}
use Rattle.rg_theory.proofs.Arcs.{arc_in_range}
use Rattle.rg_theory.proofs.Deciding.{Decided, both_decided, not_decided, there_or_not, less_one, PairBefore, cases_pair, find_number, find_pair, all_where}

-- ---- arcs

pub same_arc : (a b : Arc) → Decided (a ≡ b)
same_arc a b = by (cases_eq a.from b.from) (cases_eq a.label b.label) (cases_eq a.to b.to)
  where
    by : Decided (a.from ≡ b.from) → Decided (a.label ≡ b.label) → Decided (a.to ≡ b.to) → Decided (a ≡ b)
    by (inl e) (inl f) (inl g) = inl (λ i. record { from = e i; label = f i; to = g i })
    by (inl e) (inl f) (inr differ) = inr (λ g. differ (ap (λ x. x.to) g))
    by (inl e) (inr differ) _ = inr (λ g. differ (ap (λ x. x.label) g))
    by (inr differ) _ _ = inr (λ g. differ (ap (λ x. x.from) g))

pub has_arc : (lts : System) (s t s' : ℕ) → Decided (HasArc lts s t s')
has_arc lts s t s' = there_or_not same_arc lts.arcs (record { from = s; label = t; to = s' })

-- ---- a tree

module _ (lts : System) (fine : IsInRange lts) where
  -- an arc with label t leads from s to a state that isn't met
  abbrev LeadsOut : List ℕ → ℕ → ℕ → ℕ → Type 0
  LeadsOut met s t s' = HasArc lts s t s' × ¬ Contains met s'

  leads_out : (met : List ℕ) (s t s' : ℕ) → Decided (LeadsOut met s t s')
  leads_out met s t s' = both_decided (HasArc lts s t s') (¬ Contains met s') (has_arc lts s t s') (not_decided (Contains met s') (there_or_not cases_eq met s'))

  out_in_range : (met : List ℕ) (s t s' : ℕ) → LeadsOut met s t s' → (t < labels lts) × (s' < states lts)
  out_in_range met s t s' (has, _) = let r = arc_in_range lts fine s t s' has in (r.1, r.2)

  -- the first pair of a label and a state that s leads out to
  record FirstOut (met : List ℕ) (s : ℕ) : Type 0 where
    pub t : ℕ
    pub to : ℕ
    pub out : LeadsOut met s t to
    pub before : (u u' : ℕ) → PairBefore u u' t to → ¬ LeadsOut met s u u'

  first_out : (met : List ℕ) (s : ℕ) → FirstOut met s ⊎ ((t s' : ℕ) → ¬ LeadsOut met s t s')
  first_out met s = by (find_pair (LeadsOut met s) (leads_out met s) (labels lts) (states lts) (out_in_range met s))
    where
      by : ((t : ℕ) × (s' : ℕ) × LeadsOut met s t s' × ((u u' : ℕ) → PairBefore u u' t s' → ¬ LeadsOut met s u u')) ⊎ ((t s' : ℕ) → ¬ LeadsOut met s t s')
          → FirstOut met s ⊎ ((t s' : ℕ) → ¬ LeadsOut met s t s')
      by (inl (t, to, out, before)) = inl (record { t = t; to = to; out = out; before = before })
      by (inr none) = inr none

  -- the state at this place leads out
  abbrev PlaceOut : List ℕ → ℕ → Type 0
  PlaceOut met i = (s : ℕ) × (slice_get met i ≡ Some s) × FirstOut met s

  state_is : (s s' : ℕ) → Some s ≡ Some s' → s ≡ s'
  state_is s s' e = cc

  no_state : (s : ℕ) → None ≡ Some s → ⊥
  no_state s e = cc

  place_out : (met : List ℕ) (i : ℕ) → Decided (PlaceOut met i)
  place_out met i = by (slice_get met i) refl
    where
      from : (s : ℕ) → slice_get met i ≡ Some s → FirstOut met s ⊎ ((t s' : ℕ) → ¬ LeadsOut met s t s') → Decided (PlaceOut met i)
      from s e (inl out) = inl (s, e, out)
      from s e (inr none) = inr (λ (s', e', out). none out.t out.to (subst (λ x. LeadsOut met x out.t out.to) (state_is s' s (sym e' ∙ e)) out.out))

      by : (o : Option ℕ) → slice_get met i ≡ o → Decided (PlaceOut met i)
      by None e = inr (λ (s, e', _). no_state s (sym e ∙ e'))
      by (Some s) e = from s e (first_out met s)

  joins_first : (met : List ℕ) (place : ℕ) (s : ℕ) → slice_get met place ≡ Some s → (out : FirstOut met s) → ((j : ℕ) → j < place → ¬ PlaceOut met j)
      → Joins lts met (record { from = s; label = out.t; to = out.to })
  joins_first met place s at out before = record { place = place; source = at; has = out.out.0; fresh = out.out.1; first = at_first }
    where
      here : (b : Arc) → s ≡ b.from → Contains lts.arcs b → ¬ Contains met b.to → PairBefore b.label b.to out.t out.to
          ⊎ (((b.label ≡ out.t) × (b.to ≡ out.to)) ⊎ PairBefore out.t out.to b.label b.to) → (b ≡ record { from = s; label = out.t; to = out.to })
          ⊎ IsArcBefore (record { from = s; label = out.t; to = out.to }) b
      here b same has fresh (inl less) = absurd (out.before b.label b.to less (subst (λ x. HasArc lts x b.label b.to) (sym same) has, fresh))
      here b same has fresh (inr (inl (e, f))) = inl (λ i. record { from = sym same i; label = e i; to = f i })
      here b same has fresh (inr (inr after)) = inr (inr (same, after))

      any : (j : ℕ) (b : Arc) → slice_get met j ≡ Some b.from → Contains lts.arcs b → ¬ Contains met b.to → FirstOut met b.from ⊎ ((t s' : ℕ) → ¬ LeadsOut met b.from t s') → FirstOut met b.from
      any j b e has fresh (inl found) = found
      any j b e has fresh (inr none) = absurd (none b.label b.to (has, fresh))

      placed : (b : Arc) → (b ≡ record { from = s; label = out.t; to = out.to }) ⊎ IsArcBefore (record { from = s; label = out.t; to = out.to }) b → (j : ℕ) → place ≡ j
          → (b ≡ record { from = s; label = out.t; to = out.to }) ⊎ ((place < j) ⊎ ((place ≡ j) × IsArcBefore (record { from = s; label = out.t; to = out.to }) b))
      placed b (inl e) j same = inl e
      placed b (inr less) j same = inr (inr (same, less))

      at_first : (j : ℕ) (b : Arc) → slice_get met j ≡ Some b.from → Contains lts.arcs b → ¬ Contains met b.to
          → (b ≡ record { from = s; label = out.t; to = out.to }) ⊎ ((place < j) ⊎ ((place ≡ j) × IsArcBefore (record { from = s; label = out.t; to = out.to }) b))
      at_first j b e has fresh = by (cases_lt j place) (cases_eq place j)
        where
          by : (j < place) ⊎ (place ≤ j) → (place ≡ j) ⊎ (place ≢ j)
              → (b ≡ record { from = s; label = out.t; to = out.to }) ⊎ ((place < j) ⊎ ((place ≡ j) × IsArcBefore (record { from = s; label = out.t; to = out.to }) b))
          by (inl less) _ = absurd (before j less (b.from, e, any j b e has fresh (first_out met b.from)))
          by (inr more) (inl same) = placed b (here b (state_is s b.from (sym at ∙ ap (λ k. slice_get met k) same ∙ e)) has fresh (cases_pair b.label b.to out.t out.to)) j same
          by (inr more) (inr differ) = inr (inl (omega arith))

  next_arc : (met : List ℕ) → ((a : Arc) × Joins lts met a) ⊎ ((a : Arc) → Contains lts.arcs a → Contains met a.from → Contains met a.to)
  next_arc met = by (find_number (PlaceOut met) (place_out met) (length met))
    where
      closed : ((i : ℕ) → i < length met → ¬ PlaceOut met i) → (a : Arc) → Contains lts.arcs a → Contains met a.from → Contains met a.to ⊎ ¬ Contains met a.to → Contains met a.to
      closed none a has from (inl to) = to
      closed none a has (k, lt, e) (inr fresh) = absurd (none k lt (a.from, slice_get-get_or met k a.from lt ∙ ap Some e, found (first_out met a.from)))
        where
          found : FirstOut met a.from ⊎ ((t s' : ℕ) → ¬ LeadsOut met a.from t s') → FirstOut met a.from
          found (inl out) = out
          found (inr lacks) = absurd (lacks a.label a.to (has, fresh))

      by : ((i : ℕ) × (i < length met) × PlaceOut met i × ((j : ℕ) → j < i → ¬ PlaceOut met j)) ⊎ ((i : ℕ) → i < length met → ¬ PlaceOut met i)
          → ((a : Arc) × Joins lts met a) ⊎ ((a : Arc) → Contains lts.arcs a → Contains met a.from → Contains met a.to)
      by (inl (i, lt, (s, e, out), before)) = inl (record { from = s; label = out.t; to = out.to }, joins_first met i s e out before)
      by (inr none) = inr (λ a has from. closed none a has from (there_or_not cases_eq met a.to))

  target : (met todo : List ℕ) (a : Arc) → ((s : ℕ) → s < states lts → ¬ Contains met s → Contains todo s) → Joins lts met a → Contains todo a.to
  target met todo a left j = left a.to (arc_in_range lts fine a.from a.label a.to j.has).2 j.fresh

  -- the states that aren't met are in a list, which gets shorter by each arc
  grown : (n : ℕ) (met todo : List ℕ) → length todo ≤ n → ((s : ℕ) → s < states lts → ¬ Contains met s → Contains todo s) → (tree : List Arc) × Grows lts met tree
  grown zero met todo le left = by (next_arc met)
    where
      none_left : (s : ℕ) → Contains todo s → ⊥
      none_left s (k, lt, e) = omega arith

      by : ((a : Arc) × Joins lts met a) ⊎ ((a : Arc) → Contains lts.arcs a → Contains met a.from → Contains met a.to) → (tree : List Arc) × Grows lts met tree
      by (inl (a, j)) = absurd (none_left a.to (target met todo a left j))
      by (inr closed) = ([], closed)
  grown (suc n) met todo le left = by (next_arc met) (λ met' todo' le' left'. grown n met' todo' le' left')
    where
      left_later : (a : Arc) (rest : List ℕ) → ((s : ℕ) → Contains todo s → ¬ (s ≡ a.to) → Contains rest s) → (s : ℕ) → s < states lts → ¬ Contains (met ++ a.to ∷ []) s → Contains rest s
      left_later a rest others s lt fresh =
          others s (left s lt (λ has. fresh (Contains-append_left met (a.to ∷ []) s has))) (λ e. fresh (subst (λ x. Contains (met ++ a.to ∷ []) x) (sym e) (Contains-push met a.to)))

      by : ((a : Arc) × Joins lts met a) ⊎ ((a : Arc) → Contains lts.arcs a → Contains met a.from → Contains met a.to)
          → ((met' todo' : List ℕ) → length todo' ≤ n → ((s : ℕ) → s < states lts → ¬ Contains met' s → Contains todo' s) → (tree : List Arc) × Grows lts met' tree)
          → (tree : List Arc) × Grows lts met tree
      by (inl (a, j)) next =
          let (rest, long, others) = less_one cases_eq todo a.to (target met todo a left j) in
          let (tree, grows) = next (met ++ a.to ∷ []) rest (omega arith) (left_later a rest others) in
          (a ∷ tree, (j, grows))
      by (inr closed) next = ([], closed)

  pub some_tree : (tree : List Arc) × IsTree lts tree
  some_tree =
      let (all, are) = all_where (λ s. Unit {0}) (λ s. inl tt) 0 (states lts) in
      grown (length all) (lts.initial ∷ []) all (omega arith) (λ s lt fresh. (are.members s).1 (omega arith, omega arith, tt))
