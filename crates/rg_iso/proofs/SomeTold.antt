-- Two systems without flaws have a comparison.
use Rattle.std.proofs.Common.{◌≡◌, ◌⊎◌, inl, inr, ℕ, zero, suc, ◌+◌, ◌<◌, ◌≤◌, Bool, true, false, List}
use Rattle.std.proofs.Common.{[], ◌∷◌, length, map, Option, None, Some, slice_get, slice_index_or, Contains, refl, sym, ap, subst, ◌∙◌, arith}
use Rattle.std.proofs.lemmas.Bool.{cases_lt, cases_eq}
use Rattle.std.proofs.lemmas.Option.{same_Some, none-some, slice_get-get_or, get_or_from_slice_get}
use Rattle.rg_theory.specs.System.{System, states, labels, HasArc}
use Rattle.rg_theory.proofs.Arcs.{find_arc}
use Rattle.rg_theory.proofs.Lists.{slice_get_some}
use Rattle.rg_theory.proofs.Deciding.{Decided, holds, there_or_not, same_list, find_number}
use Rattle.rg_iso.specs.Isomorphic.{HaveSameLabels, HaveOneName}
use Rattle.rg_iso.specs.Words.{Difference, Difference.step as by_step, Difference.target as by_target, IsFirstDifference}
use Rattle.rg_iso.specs.Compared.{AreComparable, IsFirstAlone, HasLabelsOf, Told, Told.map as as_map, Told.label as as_label, Told.differs as as_difference}
use Rattle.rg_iso.specs.Compared.{Compares, Compares.same as by_map, Compares.first_label as by_first, Compares.second_label as by_second, Compares.difference as by_difference}
use Rattle.rg_iso.specs.Pairing.{pair_at, Pairs, IsFollowedTo, BecomePair, already, elsewhere, is_taken, joined}
use Rattle.rg_iso.proofs.Walking.{found_first, found_second, found_targets}
use Rattle.rg_iso.proofs.Following.{label_done, label_lacks, pair_done}
use Rattle.rg_iso.proofs.Leading.{still_within}
use Rattle.rg_iso.proofs.Mapping.{first_pairs, first_followed, IsWhole, each_has, isomorphism}

-- ---- labels

-- the label's name is none of the other system's
abbrev IsAlone : System → System → ℕ → Type 0
IsAlone a b t = (name : List ℕ) × (slice_get a.label_names t ≡ Some name) × ¬ Contains b.label_names name

alone_or_not : (a b : System) (t : ℕ) → Decided (IsAlone a b t)
alone_or_not a b t = by (slice_get a.label_names t) refl
  where
    named : (name : List ℕ) → slice_get a.label_names t ≡ Some name → Decided (Contains b.label_names name) → Decided (IsAlone a b t)
    named name at (inl has) = inr (λ (other, at', lacks). lacks (subst (Contains b.label_names) (same_Some name other (sym at ∙ at')) has))
    named name at (inr lacks) = inl (name, at, lacks)

    by : (o : Option (List ℕ)) → slice_get a.label_names t ≡ o → Decided (IsAlone a b t)
    by None at = inr (λ (name, at', lacks). none-some name (sym at ∙ at'))
    by (Some name) at = named name at (there_or_not same_list b.label_names name)

-- what isn't alone is there
there : (a b : System) (t : ℕ) (name : List ℕ) → ¬ IsAlone a b t → slice_get a.label_names t ≡ Some name → Contains b.label_names name
there a b t name not_alone at = holds (Contains b.label_names name) (there_or_not same_list b.label_names name) (λ lacks. not_alone (name, at, lacks))

first_alone_or_none : (a b : System) → ((t : ℕ) × IsFirstAlone a b t) ⊎ HasLabelsOf a b
first_alone_or_none a b = by (find_number (IsAlone a b) (alone_or_not a b) (labels a))
  where
    by : ((t : ℕ) × (t < labels a) × IsAlone a b t × ((u : ℕ) → u < t → ¬ IsAlone a b u)) ⊎ ((t : ℕ) → t < labels a → ¬ IsAlone a b t) → ((t : ℕ) × IsFirstAlone a b t) ⊎ HasLabelsOf a b
    by (inl (t, lt, (name, at, lacks), before)) = inl (t, record { name = name; at = at; alone = lacks; first = λ u other less at'. there a b u other (before u less) at' })
    by (inr none) = inr (λ name (k, lt, e). there a b k name (none k lt) (slice_get-get_or a.label_names k name lt ∙ ap Some e))

-- ---- the walk

-- the two states are a pair, or become one, or stand apart
become_or_not : (p : Pairs) (s q : ℕ) → ((p' : Pairs) × BecomePair p s q true p') ⊎ ((p' : Pairs) × BecomePair p s q false p')
become_or_not p s q = by (slice_index_or p.partners s None) refl (slice_index_or p.taken q false) refl
  where
    partner : (r : ℕ) → slice_index_or p.partners s None ≡ Some r → Decided (r ≡ q) → ((p' : Pairs) × BecomePair p s q true p') ⊎ ((p' : Pairs) × BecomePair p s q false p')
    partner r is (inl e) = inl (p, already (is ∙ ap Some e))
    partner r is (inr differ) = inr (p, elsewhere r is differ)

    by : (o : Option ℕ) → slice_index_or p.partners s None ≡ o → (taken : Bool) → slice_index_or p.taken q false ≡ taken
        → ((p' : Pairs) × BecomePair p s q true p') ⊎ ((p' : Pairs) × BecomePair p s q false p')
    by (Some r) is _ _ = partner r is (cases_eq r q)
    by None is true taken = inr (p, is_taken is taken)
    by None is false free = inl (_, joined is free)

module _ (a b : System) (c : AreComparable a b) (same : HaveSameLabels a b) where
  -- the label's number in the second system
  namesake : (t : ℕ) → t < labels a → (u : ℕ) × HaveOneName a b t u
  namesake t lt =
      let (name, at) = slice_get_some a.label_names t lt in
      let (u, lt', e) = (same.same name).0 (t, lt, get_or_from_slice_get a.label_names t name name at) in
      (u, (name, at, slice_get-get_or b.label_names u name lt' ∙ ap Some e))

  abbrev Differ : Type 0
  Differ = (d : Difference) × IsFirstDifference a b d

  -- the pairs after a label, or after all labels, of pair number k
  abbrev Goes : ℕ → ℕ → Type 0
  Goes k t = (p : Pairs) × (k < length p.order) × IsFollowedTo a b p k t

  lead_on : (p : Pairs) (k t : ℕ) → k < length p.order → t < labels a → IsFollowedTo a b p k t → Goes k (t + 1) ⊎ Differ
  lead_on p k t in_k lt f = let (u, name) = namesake t lt in by u name (find_arc a (pair_at p.order k).0 t) (find_arc b (pair_at p.order k).1 u)
    where
      met : (u s q : ℕ) → HaveOneName a b t u → HasArc a (pair_at p.order k).0 t s → HasArc b (pair_at p.order k).1 u q
          → ((p' : Pairs) × BecomePair p s q true p') ⊎ ((p' : Pairs) × BecomePair p s q false p') → Goes k (t + 1) ⊎ Differ
      met u s q name x y (inl (p', become)) = inl (p', still_within p p' s q k true become in_k, label_done a b p k t f u s q p' c in_k name x y become)
      met u s q name x y (inr (p', apart)) = inr (by_target (pair_at p.order k).0 t, found_targets a b c p k t f in_k u name s q p' x y apart)

      by : (u : ℕ) → HaveOneName a b t u → ((to : ℕ) × HasArc a (pair_at p.order k).0 t to) ⊎ ((to : ℕ) → HasArc a (pair_at p.order k).0 t to → ⊥)
          → ((to : ℕ) × HasArc b (pair_at p.order k).1 u to) ⊎ ((to : ℕ) → HasArc b (pair_at p.order k).1 u to → ⊥) → Goes k (t + 1) ⊎ Differ
      by u name (inr none) (inr none') = inl (p, in_k, label_lacks a b p k t f u name none none')
      by u name (inl (s, x)) (inr none') = inr (by_step 1 (pair_at p.order k).0 t, found_first a b c p k t f in_k u name s x none')
      by u name (inr none) (inl (q, y)) = inr (by_step 2 (pair_at p.order k).1 u, found_second a b c p k t f in_k u name q none y)
      by u name (inl (s, x)) (inl (q, y)) = met u s q name x y (become_or_not p s q)

  -- all labels of a pair, of which so many are left
  abbrev Followed : ℕ → Type 0
  Followed k = (p : Pairs) × IsFollowedTo a b p k 0

  follow : (left : ℕ) (p : Pairs) (k t : ℕ) → labels a ≤ t + left → k < length p.order → IsFollowedTo a b p k t → Followed (k + 1) ⊎ Differ
  follow zero p k t few in_k f = inl (p, pair_done a b p k t (omega arith) f)
  follow (suc left) p k t few in_k f = by (cases_lt t (labels a)) (λ p' in_k' f'. follow left p' k (t + 1) (omega arith) in_k' f')
    where
      go : ((p' : Pairs) → k < length p'.order → IsFollowedTo a b p' k (t + 1) → Followed (k + 1) ⊎ Differ) → Goes k (t + 1) ⊎ Differ → Followed (k + 1) ⊎ Differ
      go next (inl (p', in_k', f')) = next p' in_k' f'
      go next (inr differ) = inr differ

      by : (t < labels a) ⊎ (labels a ≤ t) → ((p' : Pairs) → k < length p'.order → IsFollowedTo a b p' k (t + 1) → Followed (k + 1) ⊎ Differ) → Followed (k + 1) ⊎ Differ
      by (inr past) _ = inl (p, pair_done a b p k t past f)
      by (inl lt) next = go next (lead_on p k t in_k lt f)

  -- all pairs, of which there are at most as many as states
  abbrev Whole : Type 0
  Whole = (p : Pairs) × (n : ℕ) × IsWhole a b p n

  walk : (left : ℕ) (p : Pairs) (k : ℕ) → states a ≤ k + left → IsFollowedTo a b p k 0 → Whole ⊎ Differ
  walk zero p k few f = inl (p, k, record { followed = f; all = let e = f.pairs.count in omega (arith, e, few) })
  walk (suc left) p k few f = by (cases_lt k (length p.order)) (λ p' f'. walk left p' (k + 1) (omega arith) f')
    where
      go : ((p' : Pairs) → IsFollowedTo a b p' (k + 1) 0 → Whole ⊎ Differ) → Followed (k + 1) ⊎ Differ → Whole ⊎ Differ
      go next (inl (p', f')) = next p' f'
      go next (inr differ) = inr differ

      by : (k < length p.order) ⊎ (length p.order ≤ k) → ((p' : Pairs) → IsFollowedTo a b p' (k + 1) 0 → Whole ⊎ Differ) → Whole ⊎ Differ
      by (inr past) _ = inl (p, k, record { followed = f; all = past })
      by (inl in_k) next = go next (follow (labels a) p k 0 (omega arith) in_k f)

  -- the states of the second system
  given : (xs : List (Option ℕ)) → ((s : ℕ) → s < length xs → (q : ℕ) × (slice_index_or xs s None ≡ Some q)) → (m : List ℕ) × (map Some m ≡ xs)
  given [] each = ([], refl)
  given (o ∷ xs) each =
      let (q, is) = each 0 (omega arith) in
      let (m, e) = given xs (λ s lt. each (suc s) (omega arith)) in
      (q ∷ m, λ i. sym is i ∷ e i)

  some_walk : (told : Told) × Compares a b told
  some_walk = by (walk (states a) (first_pairs a b c) 0 (omega arith) (first_followed a b c))
    where
      by : Whole ⊎ Differ → (told : Told) × Compares a b told
      by (inr (d, first)) = (as_difference d, by_difference d same first)
      by (inl (p, n, w)) =
          let (m, is) = given p.partners (each_has a b c same p n w) in
          (as_map m, by_map m same (isomorphism a b c same p n w m is))

pub some_told : (a b : System) → AreComparable a b → (told : Told) × Compares a b told
some_told a b c = by (first_alone_or_none a b) (first_alone_or_none b a)
  where
    by : ((t : ℕ) × IsFirstAlone a b t) ⊎ HasLabelsOf a b → ((t : ℕ) × IsFirstAlone b a t) ⊎ HasLabelsOf b a → (told : Told) × Compares a b told
    by (inl (t, alone)) _ = (as_label 1 t, by_first t alone)
    by (inr has) (inl (t, alone)) = (as_label 2 t, by_second t has alone)
    by (inr has) (inr has') = some_walk a b c (record { same = λ name. (has name, has' name) })
