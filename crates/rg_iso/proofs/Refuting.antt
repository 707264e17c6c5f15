-- An isomorphism keeps the pairs that words lead to, so it is one, and a difference shows that there is none.
use Rattle.std.proofs.Common.{◌≡◌, ℕ, ◌<◌, List, [], ◌∷◌, length, get_or, Some, slice_get, inl, inr, sym, ap, subst, ◌∙◌, arith}
use Rattle.std.proofs.lemmas.Option.{same_Some, slice_get_within, get_or_from_slice_get, slice_get-get_or}
use Rattle.std.proofs.lemmas.List.{ext_get_or}
use Rattle.rg_theory.specs.System.{System, states, labels, Leads, IsReachable}
use Rattle.rg_theory.proofs.Arcs.{arc_in_range}
use Rattle.rg_theory.proofs.Lists.{slice_get_some}
use Rattle.rg_iso.specs.Isomorphic.{HaveSameLabels, HaveOneName, Gives, IsIsomorphismTo, AreIsomorphic}
use Rattle.rg_iso.specs.Words.{Meets, at_first, then, AreAtOdds, Difference, DiffersBy, first_alone, second_alone, targets}
use Rattle.rg_iso.specs.Compared.{AreComparable, IsFirstAlone}
use Rattle.rg_iso.proofs.OneMeeting.{one_index}

-- a label of the one system has a namesake in the other
pub namesake : (a b : System) (t : ℕ) → HaveSameLabels a b → t < labels a → (u : ℕ) × HaveOneName a b t u
namesake a b t same lt =
    let (name, at) = slice_get_some a.label_names t lt in
    let (u, in_u, is) = (same.same name).0 (t, lt, get_or_from_slice_get a.label_names t name name at) in
    (u, (name, at, slice_get-get_or b.label_names u name in_u ∙ ap Some is))

pub namesake_back : (a b : System) (u : ℕ) → HaveSameLabels a b → u < labels b → (t : ℕ) × HaveOneName a b t u
namesake_back a b u same lt =
    let (name, at) = slice_get_some b.label_names u lt in
    let (t, in_t, is) = (same.same name).1 (u, lt, get_or_from_slice_get b.label_names u name name at) in
    (t, (name, slice_get-get_or a.label_names t name in_t ∙ ap Some is, at))

module _ (a b : System) (c : AreComparable a b) (m : List ℕ) (iso : IsIsomorphismTo a b m) where
  -- a state of the first system has one of the second
  given : (s : ℕ) → s < states a → (q : ℕ) × Gives m s q
  given s lt = slice_get_some m s (let n = iso.one_each in omega (arith, n, lt))

  -- and a state of the second is given
  giver : (q : ℕ) → q < states b → (s : ℕ) × Gives m s q
  giver q lt = let (s, in_s, is) = (iso.onto q).1 lt in (s, slice_get-get_or m s q in_s ∙ ap Some is)

  -- an isomorphism keeps the pairs that words lead to
  pub keeps : (w : List ℕ) (s q : ℕ) → Meets a b w s q → Gives m s q
  keeps _ _ _ at_first = iso.initial
  keeps _ _ _ (then ts s q t u s' q' met name x y) =
      let here = keeps ts s q met in
      let (p, gives) = given s' (arc_in_range a c.first.in_range s t s' x).2 in
      let led = (iso.arcs s s' q p t u here gives name).0 x in
      subst (Gives m s') (c.second_flawless.fork_free.one_target q u p q' led y) gives

  -- two states of the first don't have one of the second
  one_giver : (s r q : ℕ) → Gives m s q → Gives m r q → s ≡ r
  one_giver s r q p p' = one_index m s r q iso.different p p'

  -- so it leaves no difference
  pub no_difference : (w : List ℕ) (d : Difference) → DiffersBy a b w d → ⊥
  no_difference _ _ (first_alone ts s q t u s' met name x none) =
      let here = keeps ts s q met in
      let (p, gives) = given s' (arc_in_range a c.first.in_range s t s' x).2 in
      none p ((iso.arcs s s' q p t u here gives name).0 x)
  no_difference _ _ (second_alone ts s q t u q' met name none y) =
      let here = keeps ts s q met in
      let (s', gives) = giver q' (arc_in_range b c.second.in_range q u q' y).2 in
      none s' ((iso.arcs s s' q q' t u here gives name).1 y)
  no_difference _ _ (targets ts us s q t u s' q' r p met name x y before other odds) =
      by odds (keeps (t ∷ ts) s' q' (then ts s q t u s' q' met name x y)) (keeps us r p other)
    where
      by : AreAtOdds s' q' r p → Gives m s' q' → Gives m r p → ⊥
      by (inl (same, apart)) g h = apart (same_Some q' p (sym g ∙ ap (slice_get m) same ∙ h))
      by (inr (apart, same)) g h = apart (one_giver s' r q' g (h ∙ ap Some (sym same)))

  -- each state that is reached is met with one of the second
  module _ (same : HaveSameLabels a b) where
    reached : (ts : List ℕ) (w : List ℕ) (s q r : ℕ) → Meets a b w s q → Leads a s ts r → (v : List ℕ) × (p : ℕ) × Meets a b v r p
    reached [] w s q r met e = (w, q, subst (λ n. Meets a b w n q) e met)
    reached (t ∷ ts) w s q r met (mid, has, rest) =
        let range = arc_in_range a c.first.in_range s t mid has in
        let (u, name) = namesake a b t same range.1 in
        let (p, gives) = given mid range.2 in
        reached ts (t ∷ w) mid p r (then w s q t u mid p met name has ((iso.arcs s mid q p t u (keeps w s q met) gives name).0 has)) rest

    pub met_with : (r : ℕ) → IsReachable a r → (v : List ℕ) × (p : ℕ) × Meets a b v r p
    met_with r (ts, path) = reached ts [] a.initial b.initial r at_first path

-- two isomorphisms are one
pub one_isomorphism : (a b : System) → AreComparable a b → HaveSameLabels a b → (m n : List ℕ) → IsIsomorphismTo a b m → IsIsomorphismTo a b n → m ≡ n
one_isomorphism a b c same m n i j = ext_get_or 0 m n (i.one_each ∙ sym j.one_each) at
  where
    at : (s : ℕ) → s < length m → get_or m s 0 ≡ get_or n s 0
    at s lt =
        let (v, p, met) = met_with a b c m i same s (c.first_flawless.reachable.each s (let e = i.one_each in omega (arith, lt, e))) in
        get_or_from_slice_get m s p 0 (keeps a b c m i v s p met) ∙ sym (get_or_from_slice_get n s p 0 (keeps a b c n j v s p met))

-- a label that one system alone has leaves no isomorphism
pub label_refutes : (a b : System) (t : ℕ) → IsFirstAlone a b t → AreIsomorphic a b → ⊥
label_refutes a b t alone iso =
    alone.alone ((iso.labels.same alone.name).0 (t, slice_get_within a.label_names t alone.name alone.at, get_or_from_slice_get a.label_names t alone.name alone.name alone.at))

pub label_refutes_back : (a b : System) (t : ℕ) → IsFirstAlone b a t → AreIsomorphic a b → ⊥
label_refutes_back a b t alone iso =
    alone.alone ((iso.labels.same alone.name).1 (t, slice_get_within b.label_names t alone.name alone.at, get_or_from_slice_get b.label_names t alone.name alone.name alone.at))

pub difference_refutes : (a b : System) → AreComparable a b → (w : List ℕ) (d : Difference) → DiffersBy a b w d → AreIsomorphic a b → ⊥
difference_refutes a b c w d differs iso = no_difference a b c iso.map iso.isomorphism w d differs
