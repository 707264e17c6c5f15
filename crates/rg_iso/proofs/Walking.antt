-- The walk over pairs: what is met, and the first difference.
use Rattle.std.proofs.Common.{◌≡◌, ◌⊎◌, inl, inr, ℕ, ◌<◌, false, List, [], ◌∷◌, length, None, slice_index_or, sym, ap, subst, ◌∙◌, arith}
use Rattle.std.proofs.lemmas.Bool.{cases_eq, cases_order}
use Rattle.std.proofs.lemmas.Option.{none-some, same_Some, slice_get_within}
use Rattle.rg_theory.specs.System.{System, labels, HasArc}
use Rattle.rg_theory.proofs.Arcs.{arc_in_range}
use Rattle.rg_iso.specs.Isomorphic.{HaveOneName}
use Rattle.rg_iso.specs.Words.{IsMetBefore, Meets, at_first, then, AreAtOdds, Difference, Difference.step as by_step, Difference.target as by_target, DiffersBy, first_alone, second_alone, targets, IsFirstDifference}
use Rattle.rg_iso.specs.Compared.{AreComparable}
use Rattle.rg_iso.specs.Pairing.{Pair, pair_at, way_at, Pairs, ArePairs, IsIndexBefore, IsMatched, neither, both, IsFollowedTo, BecomePair, elsewhere, is_taken}
use Rattle.rg_iso.proofs.WordOrder.{before_itself, before_trans, before_longer, IsUpTo, up_to_before, up_to_trans, up_to_longer}
use Rattle.rg_iso.proofs.OneMeeting.{one_namesake, one_target, one_meeting}

-- the word of an index: the way to its pair, and its label
abbrev pub word_at : List (List ℕ) → ℕ → ℕ → List ℕ
word_at ways k t = t ∷ way_at ways k

module _ (a b : System) (c : AreComparable a b) (p : Pairs) (ways : List (List ℕ)) (h : ArePairs a b p ways) where
  -- ways that rise tell their indices
  pub earlier_way : (j k : ℕ) → j < length p.order → k < length p.order → IsMetBefore (way_at ways j) (way_at ways k) → j < k
  earlier_way j k in_j in_k l = go (cases_order j k)
    where
      go : (j ≡ k) ⊎ ((j < k) ⊎ (k < j)) → j < k
      go (inl e) = absurd (before_itself (way_at ways k) (subst (λ n. IsMetBefore (way_at ways n) (way_at ways k)) e l))
      go (inr (inl less)) = less
      go (inr (inr more)) = absurd (before_itself (way_at ways j) (before_trans (way_at ways j) (way_at ways k) (way_at ways j) l (h.rises k j more in_j)))

  pub same_way : (j k : ℕ) → j < length p.order → k < length p.order → way_at ways j ≡ way_at ways k → j ≡ k
  same_way j k in_j in_k e = go (cases_order j k)
    where
      go : (j ≡ k) ⊎ ((j < k) ⊎ (k < j)) → j ≡ k
      go (inl same) = same
      go (inr (inl l)) = absurd (before_itself (way_at ways k) (subst (λ w. IsMetBefore w (way_at ways k)) e (h.rises j k l in_k)))
      go (inr (inr l)) = absurd (before_itself (way_at ways j) (subst (λ w. IsMetBefore w (way_at ways j)) (sym e) (h.rises k j l in_j)))

  -- an index whose word comes before that of another one comes before it
  pub index_before : (j u k t : ℕ) (v : List ℕ) → j < length p.order → k < length p.order → IsUpTo (way_at ways j) v → IsMetBefore (u ∷ v) (word_at ways k t) → IsIndexBefore j u k t
  index_before j u k t v in_j in_k up (inl l) = inl (earlier_way j k in_j in_k (up_to_before (way_at ways j) v (way_at ways k) up l))
  index_before j u k t v in_j in_k (inl e) (inr (f, l)) = inr (same_way j k in_j in_k (e ∙ f), l)
  index_before j u k t v in_j in_k (inr l') (inr (f, l)) = inl (earlier_way j k in_j in_k (subst (IsMetBefore (way_at ways j)) f l'))

  -- of one pair one index
  pub one_of_first : (i j : ℕ) → i < length p.order → j < length p.order → (pair_at p.order i).0 ≡ (pair_at p.order j).0 → (pair_at p.order i).1 ≡ (pair_at p.order j).1
  one_of_first i j in_i in_j e =
      same_Some (pair_at p.order i).1 (pair_at p.order j).1 (sym (h.partner i in_i) ∙ ap (λ s. slice_index_or p.partners s None) e ∙ h.partner j in_j)

  module _ (k t : ℕ) (in_k : k < length p.order) (matched : (i u : ℕ) → i < length p.order → u < labels a → IsIndexBefore i u k t → IsMatched a b p ways i u) where
    -- a pair to which a word leads that is met before this index
    abbrev pub IsHeld : List ℕ → ℕ → ℕ → Type 0
    IsHeld w s q = (j : ℕ) × (j < length p.order) × (pair_at p.order j ≡ (s, q)) × IsUpTo (way_at ways j) w

    -- what comes behind an index that is matched
    leads_on : (ts : List ℕ) (j s q u v s' q' : ℕ) → j < length p.order → u < labels a → IsIndexBefore j u k t → pair_at p.order j ≡ (s, q) → IsUpTo (way_at ways j) ts
        → HaveOneName a b u v → HasArc a s u s' → HasArc b q v q' → IsHeld (u ∷ ts) s' q'
    leads_on ts j s q u v s' q' in_j in_u before at up name x y = go (matched j u in_j in_u before)
      where
        x' : HasArc a (pair_at p.order j).0 u s'
        x' = subst (λ (r : Pair). HasArc a r.0 u s') (sym at) x

        y' : HasArc b (pair_at p.order j).1 v q'
        y' = subst (λ (r : Pair). HasArc b r.1 v q') (sym at) y

        go : IsMatched a b p ways j u → IsHeld (u ∷ ts) s' q'
        go (neither v' name' none none') = absurd (none s' x')
        go (both v' i r o name' z z' in_i is way) =
            let (e, f) = one_target a b c (pair_at p.order j).0 (pair_at p.order j).1 u v' v r s' o q' name' name z x' z' y' in
            (i, in_i, is ∙ (λ n. (e n, f n)), up_to_trans (way_at ways i) (u ∷ way_at ways j) (u ∷ ts) way (up_to_longer u (way_at ways j) ts up))

    pub held : (w : List ℕ) (s q : ℕ) → Meets a b w s q → IsMetBefore w (word_at ways k t) → IsHeld w s q
    held _ _ _ at_first before =
        let one = one_meeting a b c [] (pair_at p.order 0).0 (pair_at p.order 0).1 a.initial b.initial
        (subst (λ l. Meets a b l (pair_at p.order 0).0 (pair_at p.order 0).1) h.root (h.meets 0 h.some)) at_first in
        (0, h.some, (λ n. (one.0 n, one.1 n)), inl h.root)
    held _ _ _ (then ts s q u v s' q' m name x y) before =
        let (j, in_j, at, up) = held ts s q m (before_trans ts (u ∷ ts) (word_at ways k t) (before_longer u ts) before) in
        leads_on ts j s q u v s' q' in_j (arc_in_range a c.first.in_range s u s' x).1 (index_before j u k t ts in_j in_k up before) at up name x y

    -- the index of a word that comes before is matched
    matched_after : (ts : List ℕ) (s q u : ℕ) → Meets a b ts s q → u < labels a → IsMetBefore (u ∷ ts) (word_at ways k t)
        → (j : ℕ) × (pair_at p.order j ≡ (s, q)) × IsMatched a b p ways j u
    matched_after ts s q u m in_u before =
        let (j, in_j, at, up) = held ts s q m (before_trans ts (u ∷ ts) (word_at ways k t) (before_longer u ts) before) in
        (j, at, matched j u in_j in_u (index_before j u k t ts in_j in_k up before))

    label_in_range : (u v : ℕ) → HaveOneName a b u v → u < labels a
    label_in_range u v (name, at, _) = slice_get_within a.label_names u name at

    -- so the systems don't differ behind a word that comes before
    pub no_earlier : (w : List ℕ) (d : Difference) → DiffersBy a b w d → IsMetBefore w (word_at ways k t) → ⊥
    no_earlier _ _ (first_alone ts s q u v s' m name x none) before = go (matched_after ts s q u m (label_in_range u v name) before)
      where
        go : (j : ℕ) × (pair_at p.order j ≡ (s, q)) × IsMatched a b p ways j u → ⊥
        go (j, at, neither v' name' none' none'') = none' s' (subst (λ (r : Pair). HasArc a r.0 u s') (sym at) x)
        go (j, at, both v' i r o name' z z' in_i is way) =
            none o (subst (λ n. HasArc b q n o) (one_namesake a b u v' v c.second.label_names name' name) (subst (λ (n : Pair). HasArc b n.1 v' o) at z'))
    no_earlier _ _ (second_alone ts s q u v q' m name none y) before = go (matched_after ts s q u m (label_in_range u v name) before)
      where
        go : (j : ℕ) × (pair_at p.order j ≡ (s, q)) × IsMatched a b p ways j u → ⊥
        go (j, at, neither v' name' none' none'') =
            none'' q' (subst (λ (r : Pair). HasArc b r.1 v' q') (sym at) (subst (λ n. HasArc b q n q') (one_namesake a b u v v' c.second.label_names name name') y))
        go (j, at, both v' i r o name' z z' in_i is way) = none r (subst (λ (n : Pair). HasArc a n.0 u r) at z)
    no_earlier _ _ (targets ts us s q u v s' q' r o m name x y less other odds) before =
        go (held (u ∷ ts) s' q' (then ts s q u v s' q' m name x y) before) (held us r o other (before_trans us (u ∷ ts) (word_at ways k t) less before)) odds
      where
        go : IsHeld (u ∷ ts) s' q' → IsHeld us r o → AreAtOdds s' q' r o → ⊥
        go (i, in_i, at, _) (j, in_j, at', _) (inl (same, apart)) =
            let first : (pair_at p.order i).0 ≡ (pair_at p.order j).0 = ap (λ (n : Pair). n.0) at ∙ same ∙ sym (ap (λ (n : Pair). n.0) at') in
            apart (sym (ap (λ (n : Pair). n.1) at) ∙ one_of_first i j in_i in_j first ∙ ap (λ (n : Pair). n.1) at')
        go (i, in_i, at, _) (j, in_j, at', _) (inr (apart, same)) =
            let second : (pair_at p.order i).1 ≡ (pair_at p.order j).1 = ap (λ (n : Pair). n.1) at ∙ same ∙ sym (ap (λ (n : Pair). n.1) at') in
            let one = h.one_taker i j in_i in_j second in
            apart (sym (ap (λ (n : Pair). n.0) at) ∙ ap (λ n. (pair_at p.order n).0) one ∙ ap (λ (n : Pair). n.0) at')

-- ---- the first difference

module _ (a b : System) (c : AreComparable a b) (p : Pairs) (k t : ℕ) (f : IsFollowedTo a b p k t) (in_k : k < length p.order) where
  abbrev ways : List (List ℕ)
  ways = f.ways

  -- each word comes before that of the index
  pub behind : (j : ℕ) → j < length p.order → IsMetBefore (way_at ways j) (word_at ways k t)
  behind j in_j = go (cases_eq j 0)
    where
      from_place : (i : ℕ) × (u : ℕ) × IsIndexBefore i u k t × (i < j) × (way_at ways j ≡ u ∷ way_at ways i) → IsMetBefore (way_at ways j) (word_at ways k t)
      from_place (i, u, inl l, less, is) = subst (λ w. IsMetBefore w (word_at ways k t)) (sym is) (inl (f.pairs.rises i k l in_k))
      from_place (i, u, inr (e, l), less, is) = subst (λ w. IsMetBefore w (word_at ways k t)) (sym is) (inr (ap (way_at ways) e, l))

      go : (j ≡ 0) ⊎ (j ≡ 0 → ⊥) → IsMetBefore (way_at ways j) (word_at ways k t)
      go (inl e) = subst (λ w. IsMetBefore w (word_at ways k t)) (sym (ap (way_at ways) e ∙ f.pairs.root)) tt
      go (inr ne) = from_place (f.entered j (omega (arith, ne)) in_j)

  found : (d : Difference) → DiffersBy a b (word_at ways k t) d → IsFirstDifference a b d
  found d differs = record {
    word = word_at ways k t;
    differs = differs;
    first = λ w other there before. no_earlier a b c p ways f.pairs k t in_k f.matched w other there before;
  }

  module _ (u : ℕ) (name : HaveOneName a b t u) where
    abbrev pub s : ℕ
    s = (pair_at p.order k).0

    abbrev pub q : ℕ
    q = (pair_at p.order k).1

    here : Meets a b (way_at ways k) s q
    here = f.pairs.meets k in_k

    pub found_first : (s' : ℕ) → HasArc a s t s' → ((to : ℕ) → HasArc b q u to → ⊥) → IsFirstDifference a b (by_step 1 s t)
    found_first s' x none = found (by_step 1 s t) (first_alone (way_at ways k) s q t u s' here name x none)

    pub found_second : (q' : ℕ) → ((to : ℕ) → HasArc a s t to → ⊥) → HasArc b q u q' → IsFirstDifference a b (by_step 2 q u)
    found_second q' none y = found (by_step 2 q u) (second_alone (way_at ways k) s q t u q' here name none y)

    at_odds : (s' q' j : ℕ) → HasArc a s t s' → HasArc b q u q' → j < length p.order → AreAtOdds s' q' (pair_at p.order j).0 (pair_at p.order j).1
        → IsFirstDifference a b (by_target s t)
    at_odds s' q' j x y in_j odds =
        found (by_target s t) (targets (way_at ways k) (way_at ways j) s q t u s' q' (pair_at p.order j).0 (pair_at p.order j).1 here name x y (behind j in_j) (f.pairs.meets j in_j) odds)

    -- one of the targets stands in another pair
    pub found_targets : (s' q' : ℕ) (p' : Pairs) → HasArc a s t s' → HasArc b q u q' → BecomePair p s' q' false p' → IsFirstDifference a b (by_target s t)
    found_targets s' q' _ x y (elsewhere r is apart) =
        let (j, in_j, at) = f.pairs.paired s' r is in
        at_odds s' q' j x y in_j (inl (sym (ap (λ (n : Pair). n.0) at), λ e. apart (sym (e ∙ ap (λ (n : Pair). n.1) at))))
    found_targets s' q' _ x y (is_taken none taken) =
        let (j, in_j, at) = f.pairs.taker q' taken in
        at_odds s' q' j x y in_j (inr (
          (λ e. none-some (pair_at p.order j).1 (sym none ∙ ap (λ n. slice_index_or p.partners n None) e ∙ f.pairs.partner j in_j)),
          sym at,
        ))
