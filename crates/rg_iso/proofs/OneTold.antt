-- Of two systems one thing is told.
use Rattle.std.proofs.Common.{◌≡◌, ◌⊎◌, ℕ, ◌<◌, List, Contains, Some, slice_get, inl, inr, sym, ap, subst}
use Rattle.std.proofs.lemmas.Bool.{cases_order}
use Rattle.std.proofs.lemmas.Option.{slice_get_within, get_or_from_slice_get}
use Rattle.rg_theory.specs.System.{System, HasArc}
use Rattle.rg_iso.specs.Isomorphic.{AreIsomorphic}
use Rattle.rg_iso.specs.Words.{IsMetBefore, Difference, Difference.step, Difference.target, DiffersBy, first_alone, second_alone, targets, IsFirstDifference}
use Rattle.rg_iso.specs.Compared.{AreComparable, IsFirstAlone, HasLabelsOf, Told, Told.map as as_map, Told.label as as_label, Told.differs as as_difference}
use Rattle.rg_iso.specs.Compared.{Compares, Compares.same as by_map, Compares.first_label as by_first, Compares.second_label as by_second}
use Rattle.rg_iso.specs.Compared.{Compares.difference as by_difference, IsMap}
use Rattle.rg_iso.proofs.WordOrder.{cases_words}
use Rattle.rg_iso.proofs.OneMeeting.{one_namesake, one_meeting}
use Rattle.rg_iso.proofs.Refuting.{one_isomorphism, label_refutes, label_refutes_back, difference_refutes}

has_name : (names : List (List ℕ)) (t : ℕ) (name : List ℕ) → slice_get names t ≡ Some name → Contains names name
has_name names t name at = (t, slice_get_within names t name at, get_or_from_slice_get names t name name at)

-- one label is the first that is alone
pub one_alone : (a b : System) (t u : ℕ) → IsFirstAlone a b t → IsFirstAlone a b u → t ≡ u
one_alone a b t u x y = go (cases_order t u)
  where
    go : (t ≡ u) ⊎ ((t < u) ⊎ (u < t)) → t ≡ u
    go (inl e) = e
    go (inr (inl l)) = absurd (x.alone (y.first t x.name l x.at))
    go (inr (inr l)) = absurd (y.alone (x.first u y.name l y.at))

not_alone : (a b : System) (t : ℕ) → HasLabelsOf a b → IsFirstAlone a b t → ⊥
not_alone a b t has x = x.alone (has x.name (has_name a.label_names t x.name x.at))

module _ (a b : System) (c : AreComparable a b) where
  -- at one pair one arc is there, or none
  moved : (s q r p u v to : ℕ) → s ≡ r → q ≡ p → u ≡ v → HasArc b q u to → HasArc b p v to
  moved s q r p u v to e f g has = subst (λ n. HasArc b p n to) g (subst (λ n. HasArc b n u to) f has)

  -- behind one word one difference
  one_behind : (w : List ℕ) (d e : Difference) → DiffersBy a b w d → DiffersBy a b w e → d ≡ e
  one_behind _ _ _ (first_alone ts s q t u s' m name x none) (first_alone ts' s₂ q₂ t' u₂ s₂' m₂ name₂ x₂ none₂) =
      ap (λ n. step 1 n t) (one_meeting a b c ts s q s₂ q₂ m m₂).0
  one_behind _ _ _ (first_alone ts s q t u s' m name x none) (second_alone ts' s₂ q₂ t' u₂ q₂' m₂ name₂ none₂ y₂) =
      absurd (none₂ s' (subst (λ n. HasArc a n t s') (one_meeting a b c ts s q s₂ q₂ m m₂).0 x))
  one_behind _ _ _ (first_alone ts s q t u s' m name x none) (targets ts' us s₂ q₂ t' u₂ s₂' q₂' r p m₂ name₂ x₂ y₂ before other odds) =
      let (e, f) = one_meeting a b c ts s q s₂ q₂ m m₂ in
      absurd (none q₂' (moved s₂ q₂ s q u₂ u q₂' (sym e) (sym f) (one_namesake a b t u₂ u c.second.label_names name₂ name) y₂))
  one_behind _ _ _ (second_alone ts s q t u q' m name none y) (first_alone ts' s₂ q₂ t' u₂ s₂' m₂ name₂ x₂ none₂) =
      absurd (none s₂' (subst (λ n. HasArc a n t s₂') (sym (one_meeting a b c ts s q s₂ q₂ m m₂).0) x₂))
  one_behind _ _ _ (second_alone ts s q t u q' m name none y) (second_alone ts' s₂ q₂ t' u₂ q₂' m₂ name₂ none₂ y₂) =
      let f = (one_meeting a b c ts s q s₂ q₂ m m₂).1 in
      let g = one_namesake a b t u u₂ c.second.label_names name name₂ in
      λ i. step 2 (f i) (g i)
  one_behind _ _ _ (second_alone ts s q t u q' m name none y) (targets ts' us s₂ q₂ t' u₂ s₂' q₂' r p m₂ name₂ x₂ y₂ before other odds) =
      absurd (none s₂' (subst (λ n. HasArc a n t s₂') (sym (one_meeting a b c ts s q s₂ q₂ m m₂).0) x₂))
  one_behind _ _ _ (targets ts us s q t u s' q' r p m name x y before other odds) (first_alone ts' s₂ q₂ t' u₂ s₂' m₂ name₂ x₂ none₂) =
      let (e, f) = one_meeting a b c ts s q s₂ q₂ m m₂ in
      absurd (none₂ q' (moved s q s₂ q₂ u u₂ q' e f (one_namesake a b t u u₂ c.second.label_names name name₂) y))
  one_behind _ _ _ (targets ts us s q t u s' q' r p m name x y before other odds) (second_alone ts' s₂ q₂ t' u₂ q₂' m₂ name₂ none₂ y₂) =
      absurd (none₂ s' (subst (λ n. HasArc a n t s') (one_meeting a b c ts s q s₂ q₂ m m₂).0 x))
  one_behind _ _ _ (targets ts us s q t u s' q' r p m name x y before other odds) (targets ts' us₂ s₂ q₂ t' u₂ s₂' q₂' r₂ p₂ m₂ name₂ x₂ y₂ before₂ other₂ odds₂) =
      ap (λ n. target n t) (one_meeting a b c ts s q s₂ q₂ m m₂).0

  pub one_difference : (d e : Difference) → IsFirstDifference a b d → IsFirstDifference a b e → d ≡ e
  one_difference d e x y = go (cases_words x.word y.word)
    where
      go : (x.word ≡ y.word) ⊎ (IsMetBefore x.word y.word ⊎ IsMetBefore y.word x.word) → d ≡ e
      go (inl same) = one_behind y.word d e (subst (λ w. DiffersBy a b w d) same x.differs) y.differs
      go (inr (inl l)) = absurd (y.first x.word d x.differs l)
      go (inr (inr l)) = absurd (x.first y.word e y.differs l)

  -- what isn't a map refutes
  pub told_refutes : (told : Told) → Compares a b told → (IsMap told → ⊥) → AreIsomorphic a b → ⊥
  told_refutes _ (by_map states labels iso) no_map is = no_map tt
  told_refutes _ (by_first t alone) no_map is = label_refutes a b t alone is
  told_refutes _ (by_second t has alone) no_map is = label_refutes_back a b t alone is
  told_refutes _ (by_difference d labels first) no_map is = difference_refutes a b c first.word d first.differs is

  pub map_proves : (told : Told) → Compares a b told → IsMap told → AreIsomorphic a b
  map_proves _ (by_map states labels iso) is = record { labels = labels; map = states; isomorphism = iso }
  map_proves _ (by_first t alone) is = absurd is
  map_proves _ (by_second t has alone) is = absurd is
  map_proves _ (by_difference d labels first) is = absurd is

-- and it is one
pub one_told : (a b : System) → AreComparable a b → (x y : Told) → Compares a b x → Compares a b y → x ≡ y
one_told a b c _ _ (by_map m labels i) (by_map n labels' j) = ap as_map (one_isomorphism a b c labels m n i j)
one_told a b c _ _ (by_map m labels i) (by_first u y) = absurd (not_alone a b u (λ name has. (labels.same name).0 has) y)
one_told a b c _ _ (by_map m labels i) (by_second u has y) = absurd (not_alone b a u (λ name there. (labels.same name).1 there) y)
one_told a b c _ _ (by_map m labels i) (by_difference e labels' y) = absurd (difference_refutes a b c y.word e y.differs (record { labels = labels; map = m; isomorphism = i }))
one_told a b c _ _ (by_first t x) (by_map n labels' j) = absurd (not_alone a b t (λ name has. (labels'.same name).0 has) x)
one_told a b c _ _ (by_first t x) (by_first u y) = ap (as_label 1) (one_alone a b t u x y)
one_told a b c _ _ (by_first t x) (by_second u has y) = absurd (not_alone a b t has x)
one_told a b c _ _ (by_first t x) (by_difference e labels' y) = absurd (not_alone a b t (λ name has. (labels'.same name).0 has) x)
one_told a b c _ _ (by_second t has x) (by_map n labels' j) = absurd (not_alone b a t (λ name there. (labels'.same name).1 there) x)
one_told a b c _ _ (by_second t has x) (by_first u y) = absurd (not_alone a b u has y)
one_told a b c _ _ (by_second t has x) (by_second u has' y) = ap (as_label 2) (one_alone b a t u x y)
one_told a b c _ _ (by_second t has x) (by_difference e labels' y) = absurd (not_alone b a t (λ name there. (labels'.same name).1 there) x)
one_told a b c _ _ (by_difference d labels x) (by_map n labels' j) = absurd (difference_refutes a b c x.word d x.differs (record { labels = labels'; map = n; isomorphism = j }))
one_told a b c _ _ (by_difference d labels x) (by_first u y) = absurd (not_alone a b u (λ name has. (labels.same name).0 has) y)
one_told a b c _ _ (by_difference d labels x) (by_second u has y) = absurd (not_alone b a u (λ name there. (labels.same name).1 there) y)
one_told a b c _ _ (by_difference d labels x) (by_difference e labels' y) = ap as_difference (one_difference a b c d e x y)
