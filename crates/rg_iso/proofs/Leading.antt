-- What comes of a label at a pair, as the code has it.
use Rattle.std.proofs.Common.{◌≡◌, ◌⊎◌, inl, inr, ℕ, ◌+◌, ◌<◌, ◌==◌, Bool, true, false, List, length, Option, None, Some, IfSome, IfNone, ◌↔◌, slice_index_or, refl, sym, ap, subst, ◌∙◌, arith}
use Rattle.std.proofs.lemmas.Bool.{cases_eq, eq-eqb, ne_eqb}
use Rattle.std.proofs.lemmas.List.{length_push}
use Rattle.std.proofs.lemmas.Option.{none-some, same_Some}
use Rattle.rg_theory.specs.System.{System, states, labels, HasArc}
use Rattle.rg_theory.proofs.Arcs.{arc_in_range}
use Rattle.rg_iso.specs.Isomorphic.{HaveOneName, HaveSameLabels, AreIsomorphic}
use Rattle.rg_iso.specs.Words.{Meets, at_first, then, Difference.step as by_step, Difference.target as by_target}
use Rattle.rg_iso.specs.Compared.{AreComparable, IsFirstAlone, Told, told_of, IsTold, IsMap, Compares, Compares.same as by_map, Compares.first_label as by_first, Compares.second_label as by_second, Compares.difference as by_difference}
use Rattle.rg_iso.specs.Pairing.{Pair, pair_at, Pairs, IsFollowedTo, BecomePair, already, elsewhere, is_taken, joined}
use Rattle.rg_iso.specs.declared.same.Same.{Same}
use Rattle.rg_iso.specs.declared.same.Same.TheVariants.{Step, Target}
use Rattle.rg_iso.proofs.Refuting.{label_refutes, label_refutes_back, difference_refutes}
use Rattle.rg_iso.proofs.Walking.{found_first, found_second, found_targets}
use Rattle.rg_iso.proofs.Following.{label_done, label_lacks}

pub at_none : (P : Type 0) (o : Option ℕ) → o ≡ None → IfNone o P → P
at_none P None e h = h
at_none P (Some x) e h = absurd cc

pub at_some : (P : ℕ → Type 0) (o : Option ℕ) (x : ℕ) → o ≡ Some x → IfSome o P → P x
at_some P None x e h = absurd cc
at_some P (Some y) x e h = let same : y ≡ x = cc in subst P same h

-- a word leads to states of the two systems
pub met_in_range : (a b : System) → AreComparable a b → (w : List ℕ) (s q : ℕ) → Meets a b w s q → (s < states a) × (q < states b)
met_in_range a b c _ _ _ at_first = (c.first.in_range.initial, c.second.in_range.initial)
met_in_range a b c _ _ _ (then ts s q t u s' q' met name x y) = ((arc_in_range a c.first.in_range s t s' x).2, (arc_in_range b c.second.in_range q u q' y).2)

module _ (a b : System) (c : AreComparable a b) (p : Pairs) (k t : ℕ) (f : IsFollowedTo a b p k t) (in_k : k < length p.order) (u : ℕ) (name : HaveOneName a b t u)
    (r : Pair) (at : r ≡ pair_at p.order k) where
  pub pair_in_range : (r.0 < states a) × (r.1 < states b)
  pair_in_range =
      subst (λ (x : Pair). (x.0 < states a) × (x.1 < states b)) (sym at) (met_in_range a b c _ (pair_at p.order k).0 (pair_at p.order k).1 (f.pairs.meets k in_k))

  from_first : (to : ℕ) → HasArc a r.0 t to → HasArc a (pair_at p.order k).0 t to
  from_first to x = subst (λ (y : Pair). HasArc a y.0 t to) at x

  from_second : (to : ℕ) → HasArc b r.1 u to → HasArc b (pair_at p.order k).1 u to
  from_second to y = subst (λ (x : Pair). HasArc b x.1 u to) at y

  none_first : ((to : ℕ) → HasArc a r.0 t to → ⊥) → (to : ℕ) → HasArc a (pair_at p.order k).0 t to → ⊥
  none_first none to x = none to (subst (λ (y : Pair). HasArc a y.0 t to) (sym at) x)

  none_second : ((to : ℕ) → HasArc b r.1 u to → ⊥) → (to : ℕ) → HasArc b (pair_at p.order k).1 u to → ⊥
  none_second none to y = none to (subst (λ (x : Pair). HasArc b x.1 u to) (sym at) y)

  pub lacks_both : ((to : ℕ) → HasArc a r.0 t to → ⊥) → ((to : ℕ) → HasArc b r.1 u to → ⊥) → IsFollowedTo a b p k (t + 1)
  lacks_both none none' = label_lacks a b p k t f u name (none_first none) (none_second none')

  pub tells_first : (to : ℕ) → HasArc a r.0 t to → ((to : ℕ) → HasArc b r.1 u to → ⊥) → IsTold a b (Step 1 r.0 t)
  tells_first to x none =
      subst (λ (y : Pair). IsTold a b (Step 1 y.0 t)) (sym at)
      (by_step 1 (pair_at p.order k).0 t, refl, found_first a b c p k t f in_k u name to (from_first to x) (none_second none))

  pub tells_second : (to : ℕ) → ((to : ℕ) → HasArc a r.0 t to → ⊥) → HasArc b r.1 u to → IsTold a b (Step 2 r.1 u)
  tells_second to none y =
      subst (λ (x : Pair). IsTold a b (Step 2 x.1 u)) (sym at)
      (by_step 2 (pair_at p.order k).1 u, refl, found_second a b c p k t f in_k u name to (none_first none) (from_second to y))

  pub tells_targets : (s' q' : ℕ) (p' : Pairs) (is : Bool) → HasArc a r.0 t s' → HasArc b r.1 u q' → BecomePair p s' q' is p' → is ≡ false → IsTold a b (Target r.0 t)
  tells_targets s' q' p' is x y become apart =
      subst (λ (z : Pair). IsTold a b (Target z.0 t)) (sym at)
      (by_target (pair_at p.order k).0 t, refl, found_targets a b c p k t f in_k u name s' q' p' (from_first s' x) (from_second q' y) (subst (λ z. BecomePair p s' q' z p') apart become))

  pub leads_to_pair : (s' q' : ℕ) (p' : Pairs) (is : Bool) → HasArc a r.0 t s' → HasArc b r.1 u q' → BecomePair p s' q' is p' → is ≡ true → IsFollowedTo a b p' k (t + 1)
  leads_to_pair s' q' p' is x y become paired =
      label_done a b p k t f u s' q' p' c in_k name (from_first s' x) (from_second q' y) (subst (λ z. BecomePair p s' q' z p') paired become)

-- no pair is taken away
pub still_within : (p p' : Pairs) (s q k : ℕ) (is : Bool) → BecomePair p s q is p' → k < length p.order → k < length p'.order
still_within p _ s q k _ (already h) lt = lt
still_within p _ s q k _ (elsewhere r h ne) lt = lt
still_within p _ s q k _ (is_taken h g) lt = lt
still_within p _ s q k _ (joined h g) lt = let n = length_push p.order (s, q) in omega (arith, lt, n)

-- a target that has a partner
pub has_partner : (p : Pairs) (s q r : ℕ) → slice_index_or p.partners s None ≡ Some r → BecomePair p s q (r == q) p
has_partner p s q r is = go (cases_eq r q)
  where
    go : (r ≡ q) ⊎ (r ≡ q → ⊥) → BecomePair p s q (r == q) p
    go (inl e) = subst (λ z. BecomePair p s q z p) (sym (eq-eqb r q e)) (already (is ∙ ap Some e))
    go (inr ne) = subst (λ z. BecomePair p s q z p) (sym (ne_eqb r q ne)) (elsewhere r is ne)

-- ---- what is told

pub at_told : (P : Same → Type 0) (o : Option Same) (x : Same) → o ≡ Some x → IfSome o P → P x
at_told P None x e h = absurd (none-some x e)
at_told P (Some y) x e h = subst P (same_Some y x e) h

pub told_compares : (a b : System) → HaveSameLabels a b → (told : Same) → IsTold a b told → Compares a b (told_of told)
told_compares a b labels told (d, is, first) = subst (Compares a b) (sym is) (by_difference d labels first)

pub label_tells : (a b : System) (t : ℕ) → IsFirstAlone a b t → (⊥ → AreIsomorphic a b) × (AreIsomorphic a b → ⊥)
label_tells a b t alone = ((λ none. absurd none), label_refutes a b t alone)

pub label_tells_back : (a b : System) (t : ℕ) → IsFirstAlone b a t → (⊥ → AreIsomorphic a b) × (AreIsomorphic a b → ⊥)
label_tells_back a b t alone = ((λ none. absurd none), label_refutes_back a b t alone)

-- a map exactly where the systems are isomorphic
pub map_exactly : (a b : System) → AreComparable a b → (told : Told) → Compares a b told → IsMap told ↔ AreIsomorphic a b
map_exactly a b c _ (by_map m labels iso) = ((λ is. record { labels = labels; map = m; isomorphism = iso }), (λ is. tt))
map_exactly a b c _ (by_first t alone) = label_tells a b t alone
map_exactly a b c _ (by_second t has alone) = label_tells_back a b t alone
map_exactly a b c _ (by_difference d labels first) = ((λ none. absurd none), difference_refutes a b c first.word d first.differs)
