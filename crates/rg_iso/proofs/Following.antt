-- The walk over pairs goes on by a label, and by a pair.
use Rattle.std.proofs.Common.{◌≡◌, ◌≢◌, ◌⊎◌, inl, inr, ℕ, ◌+◌, ◌<◌, ◌≤◌, true, false, true≢false, cond, List, [], ◌∷◌, ◌++◌, length, Option, None, Some, is_none, count_by, get_or, set, slice_index_or, refl, sym, ap, subst, ◌∙◌, arith}
use Rattle.std.proofs.lemmas.Bool.{cases_eq, cases_lt}
use Rattle.std.proofs.lemmas.List.{get_or-set_same, get_or-set_other, get_or_append_left, get_or_push, length-set, length_push}
use Rattle.std.proofs.lemmas.List.Sums.{sum_by-set}
use Rattle.std.proofs.lemmas.Option.{none-some, same_Some}
use Rattle.rg_theory.specs.System.{System, states, labels, HasArc}
use Rattle.rg_theory.proofs.Arcs.{arc_in_range}
use Rattle.rg_iso.specs.Isomorphic.{HaveOneName}
use Rattle.rg_iso.specs.Words.{IsMetBefore, Meets, then}
use Rattle.rg_iso.specs.Compared.{AreComparable}
use Rattle.rg_iso.specs.Pairing.{Pair, pair_at, way_at, Pairs, pairs_of, ArePairs, IsIndexBefore, IsMatched, neither, both, IsFollowedTo, BecomePair, already, joined}
use Rattle.rg_iso.proofs.Walking.{word_at, behind}

-- ---- one label further

-- what was matched with fewer pairs is matched with more
pub matched_more : (a b : System) (p p' : Pairs) (ways ways' : List (List ℕ)) (i t : ℕ) → i < length p.order
    → ((j : ℕ) → j < length p.order → pair_at p'.order j ≡ pair_at p.order j) → ((j : ℕ) → j < length p.order → way_at ways' j ≡ way_at ways j)
    → length p.order ≤ length p'.order → IsMatched a b p ways i t → IsMatched a b p' ways' i t
matched_more a b p p' ways ways' i t in_i pairs words long (neither u name none none') =
    neither u name (λ to x. none to (subst (λ (n : Pair). HasArc a n.0 t to) (pairs i in_i) x)) (λ to y. none' to (subst (λ (n : Pair). HasArc b n.1 u to) (pairs i in_i) y))
matched_more a b p p' ways ways' i t in_i pairs words long (both u j s q name x y in_j at way) =
    both u j s q name (subst (λ (n : Pair). HasArc a n.0 t s) (sym (pairs i in_i)) x) (subst (λ (n : Pair). HasArc b n.1 u q) (sym (pairs i in_i)) y)
    (omega (arith, in_j, long)) (pairs j in_j ∙ at)
    (subst (λ w. (w ≡ t ∷ way_at ways' i) ⊎ IsMetBefore w (t ∷ way_at ways' i)) (sym (words j in_j))
    (subst (λ w. (way_at ways j ≡ t ∷ w) ⊎ IsMetBefore (way_at ways j) (t ∷ w)) (sym (words i in_i)) way))

-- an index before the next is before this one or is this one
index_cases : (i u k t : ℕ) → IsIndexBefore i u k (t + 1) → IsIndexBefore i u k t ⊎ ((i ≡ k) × (u ≡ t))
index_cases i u k t (inl l) = inl (inl l)
index_cases i u k t (inr (e, l)) = go (cases_eq u t)
  where
    go : (u ≡ t) ⊎ (u ≡ t → ⊥) → IsIndexBefore i u k t ⊎ ((i ≡ k) × (u ≡ t))
    go (inl same) = inr (e, same)
    go (inr ne) = inl (inr (e, omega (arith, l, ne)))

index_up : (i u k t : ℕ) → IsIndexBefore i u k t → IsIndexBefore i u k (t + 1)
index_up i u k t (inl l) = inl l
index_up i u k t (inr (e, l)) = inr (e, omega (arith, l))

-- where the label is matched at the pair, and no pair was met
pub one_label : (a b : System) (p : Pairs) (k t : ℕ) (f : IsFollowedTo a b p k t) → IsMatched a b p f.ways k t → IsFollowedTo a b p k (t + 1)
one_label a b p k t f here = record { ways = f.ways; pairs = f.pairs; matched = matched; entered = entered }
  where
    matched : (i u : ℕ) → i < length p.order → u < labels a → IsIndexBefore i u k (t + 1) → IsMatched a b p f.ways i u
    matched i u in_i in_u before = go (index_cases i u k t before)
      where
        go : IsIndexBefore i u k t ⊎ ((i ≡ k) × (u ≡ t)) → IsMatched a b p f.ways i u
        go (inl old) = f.matched i u in_i in_u old
        go (inr (e, e')) = subst (λ n. IsMatched a b p f.ways n u) (sym e) (subst (λ n. IsMatched a b p f.ways k n) (sym e') here)

    entered : (j : ℕ) → 0 < j → j < length p.order → (i : ℕ) × (u : ℕ) × IsIndexBefore i u k (t + 1) × (i < j) × (way_at f.ways j ≡ u ∷ way_at f.ways i)
    entered j some in_j = let (i, u, before, less, is) = f.entered j some in_j in (i, u, index_up i u k t before, less, is)

module _ (a b : System) (c : AreComparable a b) (p : Pairs) (k t : ℕ) (f : IsFollowedTo a b p k t) (in_k : k < length p.order)
    (u s' q' : ℕ) (name : HaveOneName a b t u) (x : HasArc a (pair_at p.order k).0 t s') (y : HasArc b (pair_at p.order k).1 u q')
    (none : slice_index_or p.partners s' None ≡ None) (free : slice_index_or p.taken q' false ≡ false) where
  abbrev old_ways : List (List ℕ)
  old_ways = f.ways

  abbrev new_ways : List (List ℕ)
  new_ways = f.ways ++ word_at f.ways k t ∷ []

  abbrev pub new_pairs : Pairs
  new_pairs = pairs_of (p.order ++ (s', q') ∷ []) (set p.partners s' (Some q')) (set p.taken q' true)

  abbrev n : ℕ
  n = length p.order

  longer : length (p.order ++ (s', q') ∷ []) ≡ n + 1
  longer = length_push p.order (s', q')

  old_pair : (j : ℕ) → j < n → pair_at new_pairs.order j ≡ pair_at p.order j
  old_pair j lt = get_or_append_left p.order ((s', q') ∷ []) (0, 0) j lt

  new_pair : pair_at new_pairs.order n ≡ (s', q')
  new_pair = get_or_push p.order (s', q') (0, 0) n refl

  old_way : (j : ℕ) → j < n → way_at new_ways j ≡ way_at old_ways j
  old_way j lt = get_or_append_left f.ways (word_at f.ways k t ∷ []) [] j (let e = f.pairs.ways_long in omega (arith, e, lt))

  new_way : way_at new_ways n ≡ word_at f.ways k t
  new_way = get_or_push f.ways (word_at f.ways k t) [] n f.pairs.ways_long

  old_or_new : (j : ℕ) → j < length new_pairs.order → (j < n) ⊎ (j ≡ n)
  old_or_new j lt = go (cases_lt j n)
    where
      go : (j < n) ⊎ (n ≤ j) → (j < n) ⊎ (j ≡ n)
      go (inl l) = inl l
      go (inr ge) = inr (omega (arith, lt, longer, ge))

  in_first : s' < length p.partners
  in_first = let r = (arc_in_range a c.first.in_range (pair_at p.order k).0 t s' x).2 in let e = f.pairs.partners_long in omega (arith, r, e)

  in_second : q' < length p.taken
  in_second = let r = (arc_in_range b c.second.in_range (pair_at p.order k).1 u q' y).2 in let e = f.pairs.taken_long in omega (arith, r, e)

  -- the targets stand in no pair
  first_new : (j : ℕ) → j < n → (pair_at p.order j).0 ≢ s'
  first_new j lt e = none-some (pair_at p.order j).1 (sym none ∙ ap (λ m. slice_index_or p.partners m None) (sym e) ∙ f.pairs.partner j lt)

  second_new : (j : ℕ) → j < n → (pair_at p.order j).1 ≢ q'
  second_new j lt e = true≢false (sym (f.pairs.takes j lt) ∙ ap (λ m. slice_index_or p.taken m false) e ∙ free)

  partner_here : slice_index_or new_pairs.partners s' None ≡ Some q'
  partner_here = get_or-set_same p.partners s' (Some q') None in_first

  partner_other : (s : ℕ) → s ≢ s' → slice_index_or new_pairs.partners s None ≡ slice_index_or p.partners s None
  partner_other s ne = get_or-set_other p.partners s' s (Some q') None ne

  taken_here : slice_index_or new_pairs.taken q' false ≡ true
  taken_here = get_or-set_same p.taken q' true false in_second

  taken_other : (q : ℕ) → q ≢ q' → slice_index_or new_pairs.taken q false ≡ slice_index_or p.taken q false
  taken_other q ne = get_or-set_other p.taken q' q true false ne

  new_meets : (j : ℕ) → j < length new_pairs.order → Meets a b (way_at new_ways j) (pair_at new_pairs.order j).0 (pair_at new_pairs.order j).1
  new_meets j lt = go (old_or_new j lt)
    where
      go : (j < n) ⊎ (j ≡ n) → Meets a b (way_at new_ways j) (pair_at new_pairs.order j).0 (pair_at new_pairs.order j).1
      go (inl l) =
          subst (λ (r : Pair). Meets a b (way_at new_ways j) r.0 r.1) (sym (old_pair j l))
          (subst (λ w. Meets a b w (pair_at p.order j).0 (pair_at p.order j).1) (sym (old_way j l)) (f.pairs.meets j l))
      go (inr e) =
          subst (λ m. Meets a b (way_at new_ways m) (pair_at new_pairs.order m).0 (pair_at new_pairs.order m).1) (sym e)
          (subst (λ (r : Pair). Meets a b (way_at new_ways n) r.0 r.1) (sym new_pair)
          (subst (λ w. Meets a b w s' q') (sym new_way)
          (then (way_at f.ways k) (pair_at p.order k).0 (pair_at p.order k).1 t u s' q' (f.pairs.meets k in_k) name x y)))

  new_rises : (i j : ℕ) → i < j → j < length new_pairs.order → IsMetBefore (way_at new_ways i) (way_at new_ways j)
  new_rises i j less lt = go (old_or_new j lt)
    where
      go : (j < n) ⊎ (j ≡ n) → IsMetBefore (way_at new_ways i) (way_at new_ways j)
      go (inl l) =
          subst (λ w. IsMetBefore w (way_at new_ways j)) (sym (old_way i (omega (arith, less, l))))
          (subst (IsMetBefore (way_at old_ways i)) (sym (old_way j l)) (f.pairs.rises i j less l))
      go (inr e) =
          let in_i : i < n = omega (arith, less, e) in
          subst (λ m. IsMetBefore (way_at new_ways i) (way_at new_ways m)) (sym e)
          (subst (λ w. IsMetBefore w (way_at new_ways n)) (sym (old_way i in_i))
          (subst (IsMetBefore (way_at old_ways i)) (sym new_way) (behind a b c p k t f in_k i in_i)))

  new_partner : (j : ℕ) → j < length new_pairs.order → slice_index_or new_pairs.partners (pair_at new_pairs.order j).0 None ≡ Some (pair_at new_pairs.order j).1
  new_partner j lt = go (old_or_new j lt)
    where
      go : (j < n) ⊎ (j ≡ n) → slice_index_or new_pairs.partners (pair_at new_pairs.order j).0 None ≡ Some (pair_at new_pairs.order j).1
      go (inl l) = subst (λ (r : Pair). slice_index_or new_pairs.partners r.0 None ≡ Some r.1) (sym (old_pair j l)) (partner_other (pair_at p.order j).0 (first_new j l) ∙ f.pairs.partner j l)
      go (inr e) =
          subst (λ m. slice_index_or new_pairs.partners (pair_at new_pairs.order m).0 None ≡ Some (pair_at new_pairs.order m).1) (sym e)
          (subst (λ (r : Pair). slice_index_or new_pairs.partners r.0 None ≡ Some r.1) (sym new_pair) partner_here)

  last : n < length new_pairs.order
  last = omega (arith, longer)

  further : (j : ℕ) → j < n → j < length new_pairs.order
  further j lt = omega (arith, longer, lt)

  new_paired : (s q : ℕ) → slice_index_or new_pairs.partners s None ≡ Some q → (j : ℕ) × (j < length new_pairs.order) × (pair_at new_pairs.order j ≡ (s, q))
  new_paired s q is = go (cases_eq s s')
    where
      go : (s ≡ s') ⊎ (s ≡ s' → ⊥) → (j : ℕ) × (j < length new_pairs.order) × (pair_at new_pairs.order j ≡ (s, q))
      go (inl e) =
          let same : q' ≡ q = same_Some q' q (sym partner_here ∙ ap (λ m. slice_index_or new_pairs.partners m None) (sym e) ∙ is) in
          (n, last, new_pair ∙ (λ i. (sym e i, same i)))
      go (inr ne) = let (j, lt, at) = f.pairs.paired s q (sym (partner_other s ne) ∙ is) in (j, further j lt, old_pair j lt ∙ at)

  new_takes : (j : ℕ) → j < length new_pairs.order → slice_index_or new_pairs.taken (pair_at new_pairs.order j).1 false ≡ true
  new_takes j lt = go (old_or_new j lt)
    where
      go : (j < n) ⊎ (j ≡ n) → slice_index_or new_pairs.taken (pair_at new_pairs.order j).1 false ≡ true
      go (inl l) = subst (λ (r : Pair). slice_index_or new_pairs.taken r.1 false ≡ true) (sym (old_pair j l)) (taken_other (pair_at p.order j).1 (second_new j l) ∙ f.pairs.takes j l)
      go (inr e) =
          subst (λ m. slice_index_or new_pairs.taken (pair_at new_pairs.order m).1 false ≡ true) (sym e)
          (subst (λ (r : Pair). slice_index_or new_pairs.taken r.1 false ≡ true) (sym new_pair) taken_here)

  new_taker : (q : ℕ) → slice_index_or new_pairs.taken q false ≡ true → (j : ℕ) × (j < length new_pairs.order) × ((pair_at new_pairs.order j).1 ≡ q)
  new_taker q is = go (cases_eq q q')
    where
      go : (q ≡ q') ⊎ (q ≡ q' → ⊥) → (j : ℕ) × (j < length new_pairs.order) × ((pair_at new_pairs.order j).1 ≡ q)
      go (inl e) = (n, last, ap (λ (r : Pair). r.1) new_pair ∙ sym e)
      go (inr ne) = let (j, lt, at) = f.pairs.taker q (sym (taken_other q ne) ∙ is) in (j, further j lt, ap (λ (r : Pair). r.1) (old_pair j lt) ∙ at)

  new_one_taker : (i j : ℕ) → i < length new_pairs.order → j < length new_pairs.order → (pair_at new_pairs.order i).1 ≡ (pair_at new_pairs.order j).1 → i ≡ j
  new_one_taker i j lt lt' same = go (old_or_new i lt) (old_or_new j lt')
    where
      at_old : (m : ℕ) → m < n → (pair_at new_pairs.order m).1 ≡ (pair_at p.order m).1
      at_old m l = ap (λ (r : Pair). r.1) (old_pair m l)

      at_new : (m : ℕ) → m ≡ n → (pair_at new_pairs.order m).1 ≡ q'
      at_new m e = ap (λ o. (pair_at new_pairs.order o).1) e ∙ ap (λ (r : Pair). r.1) new_pair

      go : (i < n) ⊎ (i ≡ n) → (j < n) ⊎ (j ≡ n) → i ≡ j
      go (inl l) (inl l') = f.pairs.one_taker i j l l' (sym (at_old i l) ∙ same ∙ at_old j l')
      go (inl l) (inr e) = absurd (second_new i l (sym (at_old i l) ∙ same ∙ at_new j e))
      go (inr e) (inl l) = absurd (second_new j l (sym (at_old j l) ∙ sym same ∙ at_new i e))
      go (inr e) (inr e') = e ∙ sym e'

  abbrev lack : Option ℕ → ℕ
  lack o = cond (is_none o) 1 0

  new_count : count_by is_none new_pairs.partners + length new_pairs.order ≡ states a
  new_count =
      let sums : count_by is_none new_pairs.partners + lack (get_or p.partners s' None) ≡ count_by is_none p.partners + 0 = sum_by-set lack p.partners s' (Some q') None in_first in
      let one : lack (get_or p.partners s' None) ≡ 1 = ap lack none in
      let before = f.pairs.count in
      omega (arith, sums, one, before, longer)

  new_are : ArePairs a b new_pairs new_ways
  new_are = record {
    ways_long = length_push f.ways (word_at f.ways k t) ∙ ap (λ m. m + 1) f.pairs.ways_long ∙ sym longer;
    some = omega (arith, longer);
    root = old_way 0 f.pairs.some ∙ f.pairs.root;
    meets = new_meets;
    rises = new_rises;
    partners_long = length-set p.partners s' (Some q') ∙ f.pairs.partners_long;
    taken_long = length-set p.taken q' true ∙ f.pairs.taken_long;
    partner = new_partner;
    paired = new_paired;
    takes = new_takes;
    taker = new_taker;
    one_taker = new_one_taker;
    count = new_count;
  }

  new_matched : (i v : ℕ) → i < length new_pairs.order → v < labels a → IsIndexBefore i v k (t + 1) → IsMatched a b new_pairs new_ways i v
  new_matched i v in_i in_v before = go (index_cases i v k t before)
    where
      up_to : IsIndexBefore i v k t ⊎ ((i ≡ k) × (v ≡ t)) → i < n
      up_to (inl (inl l)) = omega (arith, l, in_k)
      up_to (inl (inr (e, l))) = omega (arith, e, in_k)
      up_to (inr (e, e')) = omega (arith, e, in_k)

      go : IsIndexBefore i v k t ⊎ ((i ≡ k) × (v ≡ t)) → IsMatched a b new_pairs new_ways i v
      go (inl before) =
          let l = up_to (inl before) in
          matched_more a b p new_pairs old_ways new_ways i v l old_pair old_way (omega (arith, longer)) (f.matched i v l in_v before)
      go (inr (e, e')) =
          subst (λ m. IsMatched a b new_pairs new_ways m v) (sym e) (subst (λ m. IsMatched a b new_pairs new_ways k m) (sym e')
          (both u n s' q' name (subst (λ (r : Pair). HasArc a r.0 t s') (sym (old_pair k in_k)) x) (subst (λ (r : Pair). HasArc b r.1 u q') (sym (old_pair k in_k)) y) last new_pair
          (inl (new_way ∙ ap (λ w. t ∷ w) (sym (old_way k in_k))))))

  new_entered : (j : ℕ) → 0 < j → j < length new_pairs.order → (i : ℕ) × (v : ℕ) × IsIndexBefore i v k (t + 1) × (i < j) × (way_at new_ways j ≡ v ∷ way_at new_ways i)
  new_entered j some lt = go (old_or_new j lt)
    where
      go : (j < n) ⊎ (j ≡ n) → (i : ℕ) × (v : ℕ) × IsIndexBefore i v k (t + 1) × (i < j) × (way_at new_ways j ≡ v ∷ way_at new_ways i)
      go (inl l) =
          let (i, v, before, less, is) = f.entered j some l in
          (i, v, index_up i v k t before, less, old_way j l ∙ is ∙ ap (λ w. v ∷ w) (sym (old_way i (omega (arith, less, l)))))
      go (inr e) = (k, t, inr (refl, omega arith), omega (arith, in_k, e), ap (way_at new_ways) e ∙ new_way ∙ ap (λ w. t ∷ w) (sym (old_way k in_k)))

  -- one label further, with a pair more
  pub one_pair : IsFollowedTo a b new_pairs k (t + 1)
  one_pair = record { ways = new_ways; pairs = new_are; matched = new_matched; entered = new_entered }

-- where the targets are a pair
pub are_pair : (a b : System) (p : Pairs) (k t : ℕ) (f : IsFollowedTo a b p k t) (u s' q' : ℕ) → AreComparable a b → k < length p.order → HaveOneName a b t u → HasArc a (pair_at p.order k).0 t s'
    → HasArc b (pair_at p.order k).1 u q' → slice_index_or p.partners s' None ≡ Some q' → IsFollowedTo a b p k (t + 1)
are_pair a b p k t f u s' q' c in_k name x y is =
    let (j, in_j, at) = f.pairs.paired s' q' is in
    one_label a b p k t f (both u j s' q' name x y in_j at (inr (behind a b c p k t f in_k j in_j)))

-- in either way
pub label_done : (a b : System) (p : Pairs) (k t : ℕ) (f : IsFollowedTo a b p k t) (u s' q' : ℕ) (p' : Pairs) → AreComparable a b
    → k < length p.order → HaveOneName a b t u → HasArc a (pair_at p.order k).0 t s'
    → HasArc b (pair_at p.order k).1 u q' → BecomePair p s' q' true p' → IsFollowedTo a b p' k (t + 1)
label_done a b p k t f u s' q' _ c in_k name x y (already is) = are_pair a b p k t f u s' q' c in_k name x y is
label_done a b p k t f u s' q' _ c in_k name x y (joined none free) = one_pair a b c p k t f in_k u s' q' name x y none free

-- where no system has an arc of the label
pub label_lacks : (a b : System) (p : Pairs) (k t : ℕ) (f : IsFollowedTo a b p k t) (u : ℕ) → HaveOneName a b t u → ((to : ℕ) → HasArc a (pair_at p.order k).0 t to → ⊥)
    → ((to : ℕ) → HasArc b (pair_at p.order k).1 u to → ⊥) → IsFollowedTo a b p k (t + 1)
label_lacks a b p k t f u name none none' = one_label a b p k t f (neither u name none none')

-- ---- one pair further

pub pair_done : (a b : System) (p : Pairs) (k t : ℕ) → labels a ≤ t → IsFollowedTo a b p k t → IsFollowedTo a b p (k + 1) 0
pair_done a b p k t all f = record { ways = f.ways; pairs = f.pairs; matched = matched; entered = entered }
  where
    matched : (i u : ℕ) → i < length p.order → u < labels a → IsIndexBefore i u (k + 1) 0 → IsMatched a b p f.ways i u
    matched i u in_i in_u (inl l) = go (cases_eq i k)
      where
        go : (i ≡ k) ⊎ (i ≡ k → ⊥) → IsMatched a b p f.ways i u
        go (inl e) = f.matched i u in_i in_u (inr (e, omega (arith, in_u, all)))
        go (inr ne) = f.matched i u in_i in_u (inl (omega (arith, l, ne)))
    matched i u in_i in_u (inr (e, l)) = absurd (omega (arith, l))

    next_index : (i u : ℕ) → IsIndexBefore i u k t → IsIndexBefore i u (k + 1) 0
    next_index i u (inl l) = inl (omega (arith, l))
    next_index i u (inr (e, l)) = inl (omega (arith, e))

    entered : (j : ℕ) → 0 < j → j < length p.order → (i : ℕ) × (u : ℕ) × IsIndexBefore i u (k + 1) 0 × (i < j) × (way_at f.ways j ≡ u ∷ way_at f.ways i)
    entered j some in_j = let (i, u, before, less, is) = f.entered j some in_j in (i, u, next_index i u before, less, is)
