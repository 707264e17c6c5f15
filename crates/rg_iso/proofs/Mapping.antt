-- The first pair, and the whole map where no difference is met.
use Rattle.std.proofs.Common.{◌≡◌, ◌≢◌, ◌⊎◌, inl, inr, ℕ, ◌+◌, ◌<◌, ◌≤◌, Bool, true, false, true≢false, cond, List, [], ◌∷◌, length, Option, None, Some, is_none, count_by, get_or, set, map, option_map, replicate, slice_index_or, Contains, AllPairs, refl, sym, ap, subst, ◌∙◌, arith}
use Rattle.std.proofs.lemmas.Bool.{cases_eq, cases_lt}
use Rattle.std.proofs.lemmas.List.{get_or-set_same, get_or-set_other, get_or_past, get_or-replicate, length-replicate, length-set, length-map}
use Rattle.std.proofs.lemmas.List.Sums.{sum_by-set}
use Rattle.std.proofs.lemmas.List.Folds.{sum_by-replicate}
use Rattle.std.proofs.lemmas.Option.{none-some, same_Some, slice_get-get_or, slice_get_within, get_or_from_slice_get, slice_get-map}
use Rattle.rg_theory.specs.System.{System, states, labels, HasArc, Leads}
use Rattle.rg_theory.proofs.Arcs.{arc_in_range}
use Rattle.rg_iso.specs.Isomorphic.{HaveSameLabels, HaveOneName, Gives, IsIsomorphismTo}
use Rattle.rg_iso.specs.Words.{Meets, at_first, then}
use Rattle.rg_iso.specs.Compared.{AreComparable}
use Rattle.rg_iso.specs.Pairing.{Pair, pair_at, way_at, Pairs, pairs_of, ArePairs, IsIndexBefore, IsMatched, neither, both, IsFollowedTo}
use Rattle.rg_iso.proofs.OneMeeting.{one_namesake, one_meeting}
use Rattle.rg_iso.proofs.Refuting.{namesake_back}

-- ---- the first pair

-- 1 where there is no partner
abbrev lack : Option ℕ → ℕ
lack o = cond (is_none o) 1 0

-- no state has a partner
abbrev no_partners : ℕ → List (Option ℕ)
no_partners n = replicate n None

module _ (a b : System) (c : AreComparable a b) where
  abbrev pub first_pairs : Pairs
  first_pairs =
      pairs_of ((a.initial, b.initial) ∷ []) (set (no_partners (states a)) a.initial (Some b.initial)) (set (replicate (states b) false) b.initial true)

  in_first : a.initial < length (no_partners (states a))
  in_first = let e = length-replicate {A = Option ℕ} (states a) None in let i = c.first.in_range.initial in omega (arith, e, i)

  in_second : b.initial < length (replicate (states b) false)
  in_second = let e = length-replicate (states b) false in let i = c.second.in_range.initial in omega (arith, e, i)

  none_before : (s : ℕ) → get_or (no_partners (states a)) s None ≡ None
  none_before s = go (cases_lt s (states a))
    where
      go : (s < states a) ⊎ (states a ≤ s) → get_or (no_partners (states a)) s None ≡ None
      go (inl l) = get_or-replicate (states a) s None None l
      go (inr ge) = get_or_past (no_partners (states a)) s None (let e = length-replicate {A = Option ℕ} (states a) None in omega (arith, e, ge))

  free_before : (q : ℕ) → get_or (replicate (states b) false) q false ≡ false
  free_before q = go (cases_lt q (states b))
    where
      go : (q < states b) ⊎ (states b ≤ q) → get_or (replicate (states b) false) q false ≡ false
      go (inl l) = get_or-replicate (states b) q false false l
      go (inr ge) = get_or_past (replicate (states b) false) q false (let e = length-replicate (states b) false in omega (arith, e, ge))

  only : (j : ℕ) → j < 1 → j ≡ 0
  only j l = omega (arith, l)

  partner_here : slice_index_or first_pairs.partners a.initial None ≡ Some b.initial
  partner_here = get_or-set_same (no_partners (states a)) a.initial (Some b.initial) None in_first

  taken_here : slice_index_or first_pairs.taken b.initial false ≡ true
  taken_here = get_or-set_same (replicate (states b) false) b.initial true false in_second

  first_paired : (s q : ℕ) → slice_index_or first_pairs.partners s None ≡ Some q → (j : ℕ) × (j < 1) × (pair_at first_pairs.order j ≡ (s, q))
  first_paired s q is = go (cases_eq s a.initial)
    where
      go : (s ≡ a.initial) ⊎ (s ≡ a.initial → ⊥) → (j : ℕ) × (j < 1) × (pair_at first_pairs.order j ≡ (s, q))
      go (inl e) =
          let same : b.initial ≡ q = same_Some b.initial q (sym partner_here ∙ ap (λ m. slice_index_or first_pairs.partners m None) (sym e) ∙ is) in
          (0, omega arith, (λ i. (sym e i, same i)))
      go (inr ne) = absurd (none-some q (sym (get_or-set_other (no_partners (states a)) a.initial s (Some b.initial) None ne ∙ none_before s) ∙ is))

  first_taker : (q : ℕ) → slice_index_or first_pairs.taken q false ≡ true → (j : ℕ) × (j < 1) × ((pair_at first_pairs.order j).1 ≡ q)
  first_taker q is = go (cases_eq q b.initial)
    where
      go : (q ≡ b.initial) ⊎ (q ≡ b.initial → ⊥) → (j : ℕ) × (j < 1) × ((pair_at first_pairs.order j).1 ≡ q)
      go (inl e) = (0, omega arith, sym e)
      go (inr ne) = absurd (true≢false (sym is ∙ get_or-set_other (replicate (states b) false) b.initial q true false ne ∙ free_before q))

  first_count : count_by is_none first_pairs.partners + 1 ≡ states a
  first_count =
      let sums : count_by is_none first_pairs.partners + lack (get_or (no_partners (states a)) a.initial None) ≡ count_by is_none (no_partners (states a)) + 0 =
      sum_by-set lack (no_partners (states a)) a.initial (Some b.initial) None in_first in
      let one : lack (get_or (no_partners (states a)) a.initial None) ≡ 1 = ap lack (none_before a.initial) in
      let all = sum_by-replicate lack (states a) None in
      omega (arith, sums, one, all)

  first_are : ArePairs a b first_pairs ([] ∷ [])
  first_are = record {
    ways_long = refl;
    some = omega arith;
    root = refl;
    meets = λ j l. subst (λ m. Meets a b (way_at ([] ∷ []) m) (pair_at first_pairs.order m).0 (pair_at first_pairs.order m).1) (sym (only j l)) at_first;
    rises = λ i j less l. absurd (omega (arith, less, l));
    partners_long = length-set (no_partners (states a)) a.initial (Some b.initial) ∙ length-replicate (states a) None;
    taken_long = length-set (replicate (states b) false) b.initial true ∙ length-replicate (states b) false;
    partner = λ j l. subst (λ m. slice_index_or first_pairs.partners (pair_at first_pairs.order m).0 None ≡ Some (pair_at first_pairs.order m).1) (sym (only j l)) partner_here;
    paired = first_paired;
    takes = λ j l. subst (λ m. slice_index_or first_pairs.taken (pair_at first_pairs.order m).1 false ≡ true) (sym (only j l)) taken_here;
    taker = first_taker;
    one_taker = λ i j l l' same. only i l ∙ sym (only j l');
    count = first_count;
  }

  pub first_followed : IsFollowedTo a b first_pairs 0 0
  first_followed = record {
    ways = [] ∷ [];
    pairs = first_are;
    matched = λ i u in_i in_u before. absurd (nothing i u before);
    entered = λ j some l. absurd (omega (arith, some, l));
  }
    where
      nothing : (i u : ℕ) → IsIndexBefore i u 0 0 → ⊥
      nothing i u (inl l) = omega (arith, l)
      nothing i u (inr (e, l)) = omega (arith, l)

-- the same of lists that are these
pub followed_as : (a b : System) → AreComparable a b → (order : List Pair) (partners : List (Option ℕ)) (taken : List Bool) (i j k : ℕ) → order ≡ (a.initial, b.initial) ∷ []
    → partners ≡ no_partners (states a) → taken ≡ replicate (states b) false → i ≡ a.initial → j ≡ b.initial → k ≡ b.initial
    → IsFollowedTo a b (pairs_of order (set partners i (Some j)) (set taken k true)) 0 0
followed_as a b c order partners taken i j k order_is partners_is taken_is i_is j_is k_is =
    subst (λ (p : Pairs). IsFollowedTo a b p 0 0)
    (λ n. pairs_of (sym order_is n) (set (sym partners_is n) (sym i_is n) (Some (sym j_is n))) (set (sym taken_is n) (sym k_is n) true)) (first_followed a b c)

-- ---- the whole map

-- all indices of all pairs are matched
pub record IsWhole (a b : System) (p : Pairs) (n : ℕ) : Type 0 where
  pub followed : IsFollowedTo a b p n 0
  pub all : length p.order ≤ n

module _ (a b : System) (c : AreComparable a b) (same : HaveSameLabels a b) (p : Pairs) (n : ℕ) (w : IsWhole a b p n) where
  abbrev h : ArePairs a b p w.followed.ways
  h = w.followed.pairs

  -- the two states are a pair
  abbrev pub IsPair : ℕ → ℕ → Type 0
  IsPair s q = (i : ℕ) × (i < length p.order) × (pair_at p.order i ≡ (s, q))

  matched : (i t : ℕ) → i < length p.order → t < labels a → IsMatched a b p w.followed.ways i t
  matched i t in_i in_t = w.followed.matched i t in_i in_t (inl (let e = w.all in omega (arith, in_i, e)))

  root_pair : IsPair a.initial b.initial
  root_pair =
      let one = one_meeting a b c [] (pair_at p.order 0).0 (pair_at p.order 0).1 a.initial b.initial
      (subst (λ l. Meets a b l (pair_at p.order 0).0 (pair_at p.order 0).1) h.root (h.meets 0 h.some)) at_first in
      (0, h.some, (λ n. (one.0 n, one.1 n)))

  -- an arc of the first system leads from a pair to a pair, by an arc of the second
  closed : (s q t s' : ℕ) → IsPair s q → HasArc a s t s' → (u : ℕ) × (q' : ℕ) × HaveOneName a b t u × HasArc b q u q' × IsPair s' q'
  closed s q t s' (i, in_i, at) x = go (matched i t in_i (arc_in_range a c.first.in_range s t s' x).1)
    where
      x' : HasArc a (pair_at p.order i).0 t s'
      x' = subst (λ (r : Pair). HasArc a r.0 t s') (sym at) x

      go : IsMatched a b p w.followed.ways i t → (u : ℕ) × (q' : ℕ) × HaveOneName a b t u × HasArc b q u q' × IsPair s' q'
      go (neither u name none none') = absurd (none s' x')
      go (both u j r o name z z' in_j is way) =
          let e : r ≡ s' = c.first_flawless.fork_free.one_target (pair_at p.order i).0 t r s' z x' in
          (u, o, name, subst (λ (m : Pair). HasArc b m.1 u o) at z', (j, in_j, is ∙ (λ k. (e k, o))))

  -- and one of the second by one of the first
  closed_back : (s q u q' t : ℕ) → IsPair s q → HasArc b q u q' → HaveOneName a b t u → (s' : ℕ) × HasArc a s t s' × IsPair s' q'
  closed_back s q u q' t (i, in_i, at) y name = go (matched i t in_i (slice_get_within a.label_names t name.0 name.1))
    where
      y' : HasArc b (pair_at p.order i).1 u q'
      y' = subst (λ (r : Pair). HasArc b r.1 u q') (sym at) y

      go : IsMatched a b p w.followed.ways i t → (s' : ℕ) × HasArc a s t s' × IsPair s' q'
      go (neither v name' none none') = absurd (none' q' (subst (λ m. HasArc b (pair_at p.order i).1 m q') (one_namesake a b t u v c.second.label_names name name') y'))
      go (both v j r o name' z z' in_j is way) =
          let v_is = one_namesake a b t v u c.second.label_names name' name in
          let e : o ≡ q' = c.second_flawless.fork_free.one_target (pair_at p.order i).1 u o q' (subst (λ m. HasArc b (pair_at p.order i).1 m o) v_is z') y' in
          (r, subst (λ (m : Pair). HasArc a m.0 t r) at z, (j, in_j, is ∙ (λ k. (r, e k))))

  all_first : (ts : List ℕ) (s q r : ℕ) → IsPair s q → Leads a s ts r → (o : ℕ) × IsPair r o
  all_first [] s q r pair e = (q, subst (λ m. IsPair m q) e pair)
  all_first (t ∷ ts) s q r pair (mid, has, rest) = let (u, o, name, y, next) = closed s q t mid pair has in all_first ts mid o r next rest

  all_second : (us : List ℕ) (s q o : ℕ) → IsPair s q → Leads b q us o → (r : ℕ) × IsPair r o
  all_second [] s q o pair e = (s, subst (λ m. IsPair s m) e pair)
  all_second (u ∷ us) s q o pair (mid, has, rest) =
      let (t, name) = namesake_back a b u same (arc_in_range b c.second.in_range q u mid has).1 in
      let (r, x, next) = closed_back s q u mid t pair has name in
      all_second us r mid o next rest

  partner_of : (s q : ℕ) → IsPair s q → slice_index_or p.partners s None ≡ Some q
  partner_of s q (i, in_i, at) =
      ap (λ (r : Pair). slice_index_or p.partners r.0 None) (sym at) ∙ h.partner i in_i ∙ ap (λ (r : Pair). Some r.1) at

  -- each state has a partner
  pub each_has : (s : ℕ) → s < length p.partners → (q : ℕ) × (slice_index_or p.partners s None ≡ Some q)
  each_has s lt =
      let (ts, path) = c.first_flawless.reachable.each s (let e = h.partners_long in omega (arith, lt, e)) in
      let (q, pair) = all_first ts a.initial b.initial s root_pair path in
      (q, partner_of s q pair)

  module _ (m : List ℕ) (is : map Some m ≡ p.partners) where
    long : length m ≡ length p.partners
    long = sym (length-map m Some) ∙ ap length is

    given : (s q : ℕ) → Gives m s q → slice_index_or p.partners s None ≡ Some q
    given s q gives =
        ap (λ (xs : List (Option ℕ)). slice_index_or xs s None) (sym is)
        ∙ get_or_from_slice_get (map Some m) s (Some q) None (slice_get-map Some m s ∙ ap (λ (o : Option ℕ). option_map Some o) gives)

    gives_pair : (s q : ℕ) → Gives m s q → IsPair s q
    gives_pair s q gives = h.paired s q (given s q gives)

    pair_gives : (s q : ℕ) → IsPair s q → Gives m s q
    pair_gives s q pair = go (cases_lt s (length m))
      where
        here : slice_index_or p.partners s None ≡ Some q
        here = partner_of s q pair

        go : (s < length m) ⊎ (length m ≤ s) → Gives m s q
        go (inl l) =
            let at = slice_get-get_or m s 0 l in
            at ∙ sym (given s (get_or m s 0) at) ∙ here
        go (inr ge) = absurd (none-some q (sym (get_or_past p.partners s None (omega (arith, ge, long))) ∙ here))

    in_second_range : (s q : ℕ) → IsPair s q → q < states b
    in_second_range s q (i, in_i, at) = subst (λ (r : Pair). r.1 < states b) at (go (way_at w.followed.ways i) (pair_at p.order i).0 (pair_at p.order i).1 (h.meets i in_i))
      where
        go : (ts : List ℕ) (s q : ℕ) → Meets a b ts s q → q < states b
        go _ _ _ at_first = c.second.in_range.initial
        go _ _ _ (then ts s q t u s' q' met name x y) = (arc_in_range b c.second.in_range q u q' y).2

    one_partner : (s r q : ℕ) → IsPair s q → IsPair r q → s ≡ r
    one_partner s r q (i, in_i, at) (j, in_j, at') =
        let one = h.one_taker i j in_i in_j (ap (λ (x : Pair). x.1) at ∙ sym (ap (λ (x : Pair). x.1) at')) in
        sym (ap (λ (x : Pair). x.0) at) ∙ ap (λ k. (pair_at p.order k).0) one ∙ ap (λ (x : Pair). x.0) at'

    second_of : (s q o : ℕ) → Gives m s q → Gives m s o → q ≡ o
    second_of s q o g g' = same_Some q o (sym g ∙ g')

    pub isomorphism : IsIsomorphismTo a b m
    isomorphism = record {
      one_each = long ∙ h.partners_long;
      onto = λ q. (onto q, every q);
      different = different;
      initial = pair_gives a.initial b.initial root_pair;
      arcs = λ s s' q q' t u g g' name. (forth s s' q q' t u g g' name, back s s' q q' t u g g' name);
    }
      where
        onto : (q : ℕ) → Contains m q → q < states b
        onto q (s, lt, at) = in_second_range s q (gives_pair s q (slice_get-get_or m s q lt ∙ ap Some at))

        every : (q : ℕ) → q < states b → Contains m q
        every q lt =
            let (us, path) = c.second_flawless.reachable.each q lt in
            let (s, pair) = all_second us a.initial b.initial q root_pair path in
            let gives = pair_gives s q pair in
            (s, slice_get_within m s q gives, get_or_from_slice_get m s q q gives)

        different : AllPairs (λ q q'. q ≢ q') m
        different i j d less lt same' =
            let at_i : Gives m i (get_or m i d) = slice_get-get_or m i d (omega (arith, less, lt)) in
            let at_j : Gives m j (get_or m i d) = slice_get-get_or m j d lt ∙ ap Some (sym same') in
            let one = one_partner i j (get_or m i d) (gives_pair i (get_or m i d) at_i) (gives_pair j (get_or m i d) at_j) in
            omega (arith, one, less)

        forth : (s s' q q' t u : ℕ) → Gives m s q → Gives m s' q' → HaveOneName a b t u → HasArc a s t s' → HasArc b q u q'
        forth s s' q q' t u g g' name x =
            let (v, o, name', y, next) = closed s q t s' (gives_pair s q g) x in
            let v_is = one_namesake a b t v u c.second.label_names name' name in
            let o_is = second_of s' o q' (pair_gives s' o next) g' in
            subst (λ k. HasArc b q u k) o_is (subst (λ k. HasArc b q k o) v_is y)

        back : (s s' q q' t u : ℕ) → Gives m s q → Gives m s' q' → HaveOneName a b t u → HasArc b q u q' → HasArc a s t s'
        back s s' q q' t u g g' name y =
            let (r, x, next) = closed_back s q u q' t (gives_pair s q g) y name in
            subst (λ k. HasArc a s t k) (one_partner r s' q' next (gives_pair s' q' g')) x
