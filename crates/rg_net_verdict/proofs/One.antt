-- A verdict is one.
use Rattle.std.proofs.Common.{◌≡◌, ◌⊎◌, ℕ, ◌-◌, ◌<◌, ◌≤◌, List, [], ◌∷◌, length, slice_get, Ok, Err, inl, inr, ⊎_elim, refl, sym, ap, ◌∙◌, subst, arith, ext_get_or, zero-add, lit<}
use Rattle.std.specs.Prelude.{pos, neg_ℤ}
use Rattle.std.proofs.lemmas.Bool.{cases_lt}
use Rattle.std.proofs.lemmas.Option.{slice_get_within, same_Some}
use Rattle.rg_theory.specs.declared.Arc.{Arc}
use Rattle.rg_theory.specs.declared.Class.{Class}
use Rattle.rg_theory.specs.System.{System, states, labels, HasArc, IsInRange, IsForkFree}
use Rattle.rg_theory.specs.Net.{Place, Net, Marking, pre_weight, post_weight, tokens, IsEnabled, Fires, FiresAll, start_marking}
use Rattle.rg_theory.specs.Tree.{IsTree, way_to}
use Rattle.rg_theory.proofs.Arcs.{arc_in_range}
use Rattle.rg_theory.proofs.Firing.{fires_once}
use Rattle.rg_theory.proofs.Trees.{same_tree}
use Rattle.rg_checks.specs.declared.flaw.Flaw.{Flaw}
use Rattle.rg_checks.specs.declared.flaw.Flaw.TheVariants as flaw
use Rattle.rg_checks.specs.Flaws.{IsFlawless, IsFirstFlaw, fork_of}
use Rattle.rg_checks.proofs.FirstFlaws.{not_flawless}
use Rattle.rg_integers.specs.declared.term.Wide.{Wide}
use Rattle.std.proofs.lemmas.List.FromFn.{length-map-range_with_len, get_or-map-range_with_len}
use Rattle.rg_net.specs.Firing.{left_on, StaysInRange}
use Rattle.rg_net.specs.declared.class_break.ClassBreak.{ClassBreak}
use Rattle.rg_net.specs.declared.class_break.ClassBreak.TheVariants.{NotPure, NotPlain, Over, Branching, NotMultiple}
use Rattle.rg_net.specs.ClassBreaks.{AreInClass, IsBreak, IsFirstBreak, IsBreakBefore, place_of, kind_of, first_of, second_of}
use Rattle.rg_net.proofs.Breaking.{no_break}
use Rattle.rg_net_verdict.specs.declared.verdict.CheckWide.{CheckWide}
use Rattle.rg_net_verdict.specs.declared.verdict.NetVerdict.TheVariants.{Yes, No}
use Rattle.rg_net_verdict.specs.declared.verdict.NetNo.TheVariants.{Unreachable, Fork, NotEnabled, SameMarking, Enabled, WrongStep, Class as OfClass}
use Rattle.rg_net_verdict.specs.Markings.{IsMarkingOf, IsTreeArc, FireBefore}
use Rattle.rg_net_verdict.specs.Verdict.{Told, IsStuckInTree, PassesInTree, AreTold, AreFirstSame, HaveMarkings, AllDiffer, IsRightAt, stops, steps, AreRightBefore, list_of, no_of, Tells, IsVerdict}

-- labels lead from a marking to one marking
pub runs_once : (net : Net) (m : Marking) (ts : List ℕ) (a b : Marking) → FiresAll net m ts a → FiresAll net m ts b → a ≡ b
runs_once net m [] a b e f = sym e ∙ f
runs_once net m (t ∷ ts) a b (mid, fires, run) (mid', fires', run') =
    runs_once net mid ts a b run (subst (λ k. FiresAll net k ts b) (fires_once net m t mid' mid fires' fires) run')

marking_once : (net : Net) (tree : List Arc) (s : ℕ) (m n : Marking) → IsMarkingOf net tree s m → IsMarkingOf net tree s n → m ≡ n
marking_once net tree s m n a b = runs_once net (start_marking net) (way_to tree s) m n a.fires b.fires

-- what is shown of a place on which a firing passes
abbrev shown_at : Marking → ℕ → Place → ℕ → Wide
shown_at m p place t = record { a = pos (tokens m p - pre_weight place t); b = pos 1; c = neg_ℤ (pos (post_weight place t)); d = pos 1 }

same_wide : (w w' : CheckWide) → w.state ≡ w'.state → w.place ≡ w'.place → w.wide ≡ w'.wide → w ≡ w'
same_wide w w' s p e = λ i. record { state = s i; place = p i; wide = e i }

-- arc number i of the tree, of which some fire before it and some don't
module _ (net : Net) (tree : List Arc) where
  fires_there : (n i : ℕ) (a : Arc) (m : Marking) → i < n → FireBefore net tree n → IsTreeArc net tree i a m → IsEnabled net m a.label × StaysInRange net m a.label
  fires_there n i a m lt fire here =
      let (m', source, on, stays) = fire i a lt here.at in
      let same : m' ≡ m = marking_once net tree a.from m' m source here.source in
      (subst (λ k. IsEnabled net k a.label) same on, subst (λ k. StaysInRange net k a.label) same stays)

  not_before_stuck : (n s t : ℕ) → FireBefore net tree n → (stuck : IsStuckInTree net tree s t) → stuck.i < n → ⊥
  not_before_stuck n s t fire stuck lt = stuck.stuck (fires_there n stuck.i stuck.a stuck.m lt fire stuck.here).0

  not_before_passes : (n : ℕ) (w : CheckWide) → FireBefore net tree n → (passes : PassesInTree net tree w) → passes.i < n → ⊥
  not_before_passes n w fire passes lt = absurd
      (let most = (fires_there n passes.i passes.a passes.m lt fire passes.here).1 w.place passes.passed.place passes.passed.at in
      let more = passes.passed.passes in omega arith)

  same_arc : (i j : ℕ) (a b : Arc) (m n : Marking) → i ≡ j → IsTreeArc net tree i a m → IsTreeArc net tree j b n → a ≡ b
  same_arc i j a b m n e x y = same_Some a b (sym x.at ∙ ap (λ k. slice_get tree k) e ∙ y.at)

  pub stuck_once : (s t s' t' : ℕ) → IsStuckInTree net tree s t → IsStuckInTree net tree s' t' → (s ≡ s') × (t ≡ t')
  stuck_once s t s' t' x y = by (cases_lt x.i y.i) (cases_lt y.i x.i)
    where
      by : (x.i < y.i) ⊎ (y.i ≤ x.i) → (y.i < x.i) ⊎ (x.i ≤ y.i) → (s ≡ s') × (t ≡ t')
      by (inl less) other = absurd (not_before_stuck y.i s t y.before x less)
      by (inr more) (inl less) = absurd (not_before_stuck x.i s' t' x.before y less)
      by (inr more) (inr most) =
          let e : x.a ≡ y.a = same_arc x.i y.i x.a y.a x.m y.m (omega arith) x.here y.here in
          (sym x.state ∙ ap (λ (a : Arc). a.from) e ∙ y.state, sym x.label ∙ ap (λ (a : Arc). a.label) e ∙ y.label)

  pub stuck_or_passes : (s t : ℕ) (w : CheckWide) → IsStuckInTree net tree s t → PassesInTree net tree w → ⊥
  stuck_or_passes s t w x y = by (cases_lt x.i y.i) (cases_lt y.i x.i)
    where
      by : (x.i < y.i) ⊎ (y.i ≤ x.i) → (y.i < x.i) ⊎ (x.i ≤ y.i) → ⊥
      by (inl less) other = not_before_stuck y.i s t y.before x less
      by (inr more) (inl less) = not_before_passes x.i w x.before y less
      by (inr more) (inr most) =
          let e : x.a ≡ y.a = same_arc x.i y.i x.a y.a x.m y.m (omega arith) x.here y.here in
          let n : x.m ≡ y.m = marking_once net tree x.a.from x.m y.m x.here.source (subst (λ (a : Arc). IsMarkingOf net tree a.from y.m) (sym e) y.here.source) in
          x.stuck (subst (λ (a : Arc). IsEnabled net x.m a.label) (sym e) (subst (λ k. IsEnabled net k y.a.label) (sym n) y.enabled))

  passes_once : (w w' : CheckWide) → (x : PassesInTree net tree w) → (y : PassesInTree net tree w') → w ≡ w'
  passes_once w w' x y = by (cases_lt x.i y.i) (cases_lt y.i x.i)
    where
      at_once : x.i ≡ y.i → w ≡ w'
      at_once e = go (cases_lt w.place w'.place) (cases_lt w'.place w.place)
        where
          a : x.a ≡ y.a
          a = same_arc x.i y.i x.a y.a x.m y.m e x.here y.here

          n : x.m ≡ y.m
          n = marking_once net tree x.a.from x.m y.m x.here.source (subst (λ (b : Arc). IsMarkingOf net tree b.from y.m) (sym a) y.here.source)

          low : (q : ℕ) (r : Place) → left_on x.m q r x.a.label ≡ left_on y.m q r y.a.label
          low q r = ap (λ (b : Arc). left_on x.m q r b.label) a ∙ ap (λ k. left_on k q r y.a.label) n

          go : (w.place < w'.place) ⊎ (w'.place ≤ w.place) → (w'.place < w.place) ⊎ (w.place ≤ w'.place) → w ≡ w'
          go (inl less) other = absurd (let most = y.passed.first w.place x.passed.place less x.passed.at in let more = x.passed.passes in let same = low w.place x.passed.place in omega arith)
          go (inr more) (inl less) = absurd (let most = x.passed.first w'.place y.passed.place less y.passed.at in let big = y.passed.passes in let same = low w'.place y.passed.place in omega arith)
          go (inr more) (inr most) = end (omega arith)
            where
              end : w.place ≡ w'.place → w ≡ w'
              end q =
                  let r : x.passed.place ≡ y.passed.place = same_Some x.passed.place y.passed.place (sym x.passed.at ∙ ap (λ k. slice_get net.places k) q ∙ y.passed.at) in
                  same_wide w w' (sym x.state ∙ ap (λ (b : Arc). b.to) a ∙ y.state) q (x.shown ∙ shown_same q r ∙ sym y.shown)
                where
                  shown_same : w.place ≡ w'.place → x.passed.place ≡ y.passed.place → shown_at x.m w.place x.passed.place x.a.label ≡ shown_at y.m w'.place y.passed.place y.a.label
                  shown_same q r = ap (λ (b : Arc). shown_at x.m w.place x.passed.place b.label) a
                      ∙ ap (λ k. shown_at k w.place x.passed.place y.a.label) n ∙ ap (λ k. shown_at y.m k x.passed.place y.a.label) q
                      ∙ ap (λ k. shown_at y.m w'.place k y.a.label) r

      by : (x.i < y.i) ⊎ (y.i ≤ x.i) → (y.i < x.i) ⊎ (x.i ≤ y.i) → w ≡ w'
      by (inl less) other = absurd (not_before_passes y.i w y.before x less)
      by (inr more) (inl less) = absurd (not_before_passes x.i w' x.before y less)
      by (inr more) (inr most) = at_once (omega arith)

-- states have one marking each, so what is said of the one is said of the other
module _ (lts : System) (net : Net) (tree : List Arc) (h k : ℕ → Marking) (x : HaveMarkings lts net tree h) (y : HaveMarkings lts net tree k) where
  at : (s : ℕ) → s < states lts → h s ≡ k s
  at s lt = marking_once net tree s (h s) (k s) (x.each s lt) (y.each s lt)

  pub same_once : (s s' r r' : ℕ) → AreFirstSame lts h s s' → AreFirstSame lts k r r' → (s ≡ r) × (s' ≡ r')
  same_once s s' r r' a b = by (cases_lt s r) (cases_lt r s)
    where
      here : (q q' : ℕ) → q < q' → q' < states lts → h q ≡ h q' → k q ≡ k q'
      here q q' less lt e = sym (at q (omega arith)) ∙ e ∙ at q' lt

      there : (q q' : ℕ) → q < q' → q' < states lts → k q ≡ k q' → h q ≡ h q'
      there q q' less lt e = at q (omega arith) ∙ e ∙ sym (at q' lt)

      second : s ≡ r → (s' < r') ⊎ (r' ≤ s') → (r' < s') ⊎ (s' ≤ r') → (s ≡ r) × (s' ≡ r')
      second e (inl less) other = absurd (b.first s s' (inr (e, less)) a.order a.within (here s s' a.order a.within a.same))
      second e (inr more) (inl less) = absurd (a.first r r' (inr (sym e, less)) b.order b.within (there r r' b.order b.within b.same))
      second e (inr more) (inr most) = (e, omega arith)

      by : (s < r) ⊎ (r ≤ s) → (r < s) ⊎ (s ≤ r) → (s ≡ r) × (s' ≡ r')
      by (inl less) other = absurd (b.first s s' (inl less) a.order a.within (here s s' a.order a.within a.same))
      by (inr more) (inl less) = absurd (a.first r r' (inl less) b.order b.within (there r r' b.order b.within b.same))
      by (inr more) (inr most) = second (omega arith) (cases_lt s' r') (cases_lt r' s')

  pub not_same : (s s' : ℕ) → AreFirstSame lts h s s' → AllDiffer lts k → ⊥
  not_same s s' a differ = differ s s' a.order a.within (sym (at s (let less = a.order in let lt = a.within in omega arith)) ∙ a.same ∙ at s' a.within)

-- how label t is wrong at state s
data Difference : Type 0 where
  not_on : Difference
  on : Difference
  off : Difference

abbrev IsDifference : System → Net → (ℕ → Marking) → ℕ → ℕ → Difference → Type 0
IsDifference lts net h s t not_on = ((s' : ℕ) × HasArc lts s t s') × ¬ IsEnabled net (h s) t
IsDifference lts net h s t on = ((s' : ℕ) → ¬ HasArc lts s t s') × IsEnabled net (h s) t
IsDifference lts net h s t off = IsEnabled net (h s) t × ((s' : ℕ) × HasArc lts s t s' × ¬ Fires net (h s) t (h s'))

abbrev verdict_of : Difference → ℕ → ℕ → Told
verdict_of not_on s t = Ok (No (NotEnabled s t))
verdict_of on s t = Ok (No (Enabled s t))
verdict_of off s t = Ok (No (WrongStep s t))

wrong_is_not_right : (lts : System) (net : Net) (h : ℕ → Marking) → IsForkFree lts → (s t : ℕ) (d : Difference) → IsDifference lts net h s t d → IsRightAt lts net h s t → ⊥
wrong_is_not_right lts net h one s t not_on ((s', has), not) (stops none stuck) = none s' has
wrong_is_not_right lts net h one s t not_on ((s', has), not) (steps s'' has' fires) = not fires.enabled
wrong_is_not_right lts net h one s t on (none, enabled') (stops none' stuck) = stuck enabled'
wrong_is_not_right lts net h one s t on (none, enabled') (steps s' has fires) = none s' has
wrong_is_not_right lts net h one s t off (enabled', (s', has, wrong)) (stops none stuck) = stuck enabled'
wrong_is_not_right lts net h one s t off (enabled', (s', has, wrong)) (steps s'' has' fires) = wrong (subst (λ r. Fires net (h s) t (h r)) (one.one_target s t s'' s' has' has) fires)

same_difference : (lts : System) (net : Net) (h : ℕ → Marking) (s t : ℕ) (d e : Difference) → IsDifference lts net h s t d → IsDifference lts net h s t e → d ≡ e
same_difference lts net h s t not_on not_on a b = refl
same_difference lts net h s t on on a b = refl
same_difference lts net h s t off off a b = refl
same_difference lts net h s t not_on on ((s', has), not) (none, yes') = absurd (none s' has)
same_difference lts net h s t not_on off ((s', has), not) (yes', rest) = absurd (not yes')
same_difference lts net h s t on not_on (none, yes') ((s', has), not) = absurd (none s' has)
same_difference lts net h s t on off (none, yes') (yes'', (s', has, wrong)) = absurd (none s' has)
same_difference lts net h s t off not_on (yes', rest) ((s', has), not) = absurd (not yes')
same_difference lts net h s t off on (yes', (s', has, wrong)) (none, yes'') = absurd (none s' has)

module _ (lts : System) (net : Net) (h k : ℕ → Marking) (fine : IsInRange lts) (same : (s : ℕ) → s < states lts → h s ≡ k s) where
  moved : (s t : ℕ) (d : Difference) → s < states lts → IsDifference lts net h s t d → IsDifference lts net k s t d
  moved s t not_on lt (has, not) = (has, subst (λ m. ¬ IsEnabled net m t) (same s lt) not)
  moved s t on lt (none, yes') = (none, subst (λ m. IsEnabled net m t) (same s lt) yes')
  moved s t off lt (yes', (s', has, wrong)) = (
    subst (λ m. IsEnabled net m t) (same s lt)
        yes',
    (s', has, subst (λ m. ¬ Fires net m t (k s')) (same s lt) (subst (λ m. ¬ Fires net (h s) t m) (same s' (arc_in_range lts fine s t s' has).2) wrong)),
  )

  -- the first wrong label is one
  difference_once : IsForkFree lts → (s t r u : ℕ) (d e : Difference) → s < states lts → t < labels lts → r < states lts → u < labels lts
      → AreRightBefore lts net h s t → AreRightBefore lts net k r u → IsDifference lts net h s t d → IsDifference lts net k r u e → (s ≡ r) × (t ≡ u)
  difference_once one s t r u d e lt lt' below below' right right' a b = by (cases_lt s r) (cases_lt r s)
    where
      back : (q v : ℕ) → q < states lts → IsRightAt lts net h q v → IsDifference lts net k q v e → ⊥
      back q v l ok wrong = wrong_is_not_right lts net k one q v e wrong (turned q v l ok)
        where
          turned : (q v : ℕ) → q < states lts → IsRightAt lts net h q v → IsRightAt lts net k q v
          turned q v l (stops none stuck) = stops none (subst (λ m. ¬ IsEnabled net m v) (same q l) stuck)
          turned q v l (steps q' has fires) = steps q' has (subst (λ m. Fires net m v (k q')) (same q l) (subst (λ m. Fires net (h q) v m) (same q' (arc_in_range lts fine q v q' has).2) fires))

      second : s ≡ r → (t < u) ⊎ (u ≤ t) → (u < t) ⊎ (t ≤ u) → (s ≡ r) × (t ≡ u)
      second eq (inl less) other = absurd (wrong_is_not_right lts net k one s t d (moved s t d lt a) (right' s t (inr (eq, less)) lt lt'))
      second eq (inr more) (inl less) = absurd (back r u below (right r u (inr (sym eq, less)) below below') b)
      second eq (inr more) (inr most) = (eq, omega arith)

      by : (s < r) ⊎ (r ≤ s) → (r < s) ⊎ (s ≤ r) → (s ≡ r) × (t ≡ u)
      by (inl less) other = absurd (wrong_is_not_right lts net k one s t d (moved s t d lt a) (right' s t (inl less) lt lt'))
      by (inr more) (inl less) = absurd (back r u below (right r u (inl less) below below') b)
      by (inr more) (inr most) = second (omega arith) (cases_lt t u) (cases_lt u t)

-- the first break is one
apart : (m n : ℕ) → m < n → m ≡ n → ⊥
apart m n lt e = absurd (omega arith)

apart' : (m n : ℕ) → n < m → m ≡ n → ⊥
apart' m n lt e = absurd (omega arith)

equal_breaks : (a b : ClassBreak) → place_of a ≡ place_of b → kind_of a ≡ kind_of b → first_of a ≡ first_of b → second_of a ≡ second_of b → a ≡ b
equal_breaks (NotPure i t) (NotPure j u) p k e f = ap (λ n. NotPure n t) p ∙ ap (λ n. NotPure j n) e
equal_breaks (NotPlain i t) (NotPlain j u) p k e f = ap (λ n. NotPlain n t) p ∙ ap (λ n. NotPlain j n) e
equal_breaks (Over i t) (Over j u) p k e f = ap (λ n. Over n t) p ∙ ap (λ n. Over j n) e
equal_breaks (Branching i t t') (Branching j u u') p k e f = ap (λ n. Branching n t t') p ∙ ap (λ n. Branching j n t') e ∙ ap (λ n. Branching j u n) f
equal_breaks (NotPure i t) (NotPlain j u) p k e f = absurd (apart 0 1 (lit< tt) k)
equal_breaks (NotPure i t) (Over j u) p k e f = absurd (apart 0 2 (lit< tt) k)
equal_breaks (NotPure i t) (Branching j u u') p k e f = absurd (apart 0 3 (lit< tt) k)
equal_breaks (NotPlain i t) (NotPure j u) p k e f = absurd (apart' 1 0 (lit< tt) k)
equal_breaks (NotPlain i t) (Over j u) p k e f = absurd (apart 1 2 (lit< tt) k)
equal_breaks (NotPlain i t) (Branching j u u') p k e f = absurd (apart 1 3 (lit< tt) k)
equal_breaks (Over i t) (NotPure j u) p k e f = absurd (apart' 2 0 (lit< tt) k)
equal_breaks (Over i t) (NotPlain j u) p k e f = absurd (apart' 2 1 (lit< tt) k)
equal_breaks (Over i t) (Branching j u u') p k e f = absurd (apart 2 3 (lit< tt) k)
equal_breaks (Branching i t t') (NotPure j u) p k e f = absurd (apart' 3 0 (lit< tt) k)
equal_breaks (Branching i t t') (NotPlain j u) p k e f = absurd (apart' 3 1 (lit< tt) k)
equal_breaks (Branching i t t') (Over j u) p k e f = absurd (apart' 3 2 (lit< tt) k)
equal_breaks (NotMultiple i) (NotMultiple j) p k e f = ap NotMultiple p
equal_breaks (NotPure i t) (NotMultiple j) p k e f = absurd (apart 0 4 (lit< tt) k)
equal_breaks (NotMultiple i) (NotPure j u) p k e f = absurd (apart' 4 0 (lit< tt) k)
equal_breaks (NotPlain i t) (NotMultiple j) p k e f = absurd (apart 1 4 (lit< tt) k)
equal_breaks (NotMultiple i) (NotPlain j u) p k e f = absurd (apart' 4 1 (lit< tt) k)
equal_breaks (Over i t) (NotMultiple j) p k e f = absurd (apart 2 4 (lit< tt) k)
equal_breaks (NotMultiple i) (Over j u) p k e f = absurd (apart' 4 2 (lit< tt) k)
equal_breaks (Branching i t t') (NotMultiple j) p k e f = absurd (apart 3 4 (lit< tt) k)
equal_breaks (NotMultiple i) (Branching j u u') p k e f = absurd (apart' 4 3 (lit< tt) k)

trichotomy : (m n : ℕ) → (m < n) ⊎ ((n < m) ⊎ (m ≡ n))
trichotomy m n = ⊎_elim (λ less. inl less) (λ more. ⊎_elim (λ less. inr (inl less)) (λ most. inr (inr (omega arith))) (cases_lt n m)) (cases_lt m n)

break_order : (a b : ClassBreak) → IsBreakBefore a b ⊎ (IsBreakBefore b a ⊎ (a ≡ b))
break_order a b = place (trichotomy (place_of a) (place_of b))
  where
    second : place_of a ≡ place_of b → kind_of a ≡ kind_of b → first_of a ≡ first_of b
        → (second_of a < second_of b) ⊎ ((second_of b < second_of a) ⊎ (second_of a ≡ second_of b)) → IsBreakBefore a b ⊎ (IsBreakBefore b a ⊎ (a ≡ b))
    second p k f (inl less) = inl (inr (p, inr (k, inr (f, less))))
    second p k f (inr (inl less)) = inr (inl (inr (sym p, inr (sym k, inr (sym f, less)))))
    second p k f (inr (inr e)) = inr (inr (equal_breaks a b p k f e))

    first : place_of a ≡ place_of b → kind_of a ≡ kind_of b → (first_of a < first_of b) ⊎ ((first_of b < first_of a) ⊎ (first_of a ≡ first_of b)) → IsBreakBefore a b ⊎ (IsBreakBefore b a ⊎ (a ≡ b))
    first p k (inl less) = inl (inr (p, inr (k, inl less)))
    first p k (inr (inl less)) = inr (inl (inr (sym p, inr (sym k, inl less))))
    first p k (inr (inr e)) = second p k e (trichotomy (second_of a) (second_of b))

    kind : place_of a ≡ place_of b → (kind_of a < kind_of b) ⊎ ((kind_of b < kind_of a) ⊎ (kind_of a ≡ kind_of b)) → IsBreakBefore a b ⊎ (IsBreakBefore b a ⊎ (a ≡ b))
    kind p (inl less) = inl (inr (p, inl less))
    kind p (inr (inl less)) = inr (inl (inr (sym p, inl less)))
    kind p (inr (inr e)) = first p e (trichotomy (first_of a) (first_of b))

    place : (place_of a < place_of b) ⊎ ((place_of b < place_of a) ⊎ (place_of a ≡ place_of b)) → IsBreakBefore a b ⊎ (IsBreakBefore b a ⊎ (a ≡ b))
    place (inl less) = inl (inl less)
    place (inr (inl less)) = inr (inl (inl less))
    place (inr (inr e)) = kind e (trichotomy (kind_of a) (kind_of b))

break_once : (net : Net) (markings : List Marking) (class : Class) (a b : ClassBreak) → IsFirstBreak net markings class a → IsFirstBreak net markings class b → a ≡ b
break_once net markings class a b x y = by (break_order a b)
  where
    by : IsBreakBefore a b ⊎ (IsBreakBefore b a ⊎ (a ≡ b)) → a ≡ b
    by (inl less) = absurd (y.first a less x.breaks)
    by (inr (inl less)) = absurd (x.first b less y.breaks)
    by (inr (inr e)) = e

same_list : (lts : System) (h k : ℕ → Marking) → ((s : ℕ) → s < states lts → h s ≡ k s) → list_of lts h ≡ list_of lts k
same_list lts h k same =
    ext_get_or [] (list_of lts h) (list_of lts k) (length-map-range_with_len h 0 (states lts) ∙ sym (length-map-range_with_len k 0 (states lts)))
    (λ s lt. (let below : s < states lts = subst (λ n. s < n) (length-map-range_with_len h 0 (states lts)) lt in
    get_or-map-range_with_len h 0 (states lts) s s [] below (zero-add s) ∙ same s below ∙ sym (get_or-map-range_with_len k 0 (states lts) s s [] below (zero-add s))))

-- where the verdict comes from
data Stage (lts : System) (net : Net) (tree : List Arc) (class : Class) (v : Told) : Type 0 where
  in_tree : (s t : ℕ) → v ≡ Ok (No (NotEnabled s t)) → IsStuckInTree net tree s t → Stage lts net tree class v
  passing : (w : CheckWide) → v ≡ Err w → PassesInTree net tree w → Stage lts net tree class v
  alike : (h : ℕ → Marking) (s s' : ℕ) → v ≡ Ok (No (SameMarking s s')) → HaveMarkings lts net tree h → AreFirstSame lts h s s' → Stage lts net tree class v
  differing : (h : ℕ → Marking) (s t : ℕ) (d : Difference) → v ≡ verdict_of d s t → AreTold lts net tree h → AreRightBefore lts net h s t
      → s < states lts → t < labels lts → IsDifference lts net h s t d → Stage lts net tree class v
  breaking : (h : ℕ → Marking) (b : ClassBreak) → v ≡ Ok (No (OfClass b)) → AreTold lts net tree h → AreRightBefore lts net h (states lts) 0
      → IsFirstBreak net (list_of lts h) class b → Stage lts net tree class v
  is_fine : (h : ℕ → Marking) → v ≡ Ok Yes → AreTold lts net tree h → AreRightBefore lts net h (states lts) 0 → AreInClass net (list_of lts h) class → Stage lts net tree class v

module _ (lts : System) (net : Net) (tree : List Arc) (class : Class) (fine : IsInRange lts) (one : IsForkFree lts) where
  stage_of : (v : Told) → Tells lts net tree class v → Stage lts net tree class v
  stage_of (Ok Yes) (h, told, right, none) = is_fine h refl told right none
  stage_of (Ok (No (Unreachable s))) tells = absurd tells
  stage_of (Ok (No (Fork s t s₁ s₂))) tells = absurd tells
  stage_of (Ok (No (NotEnabled s t))) (inl stuck) = in_tree s t refl stuck
  stage_of (Ok (No (NotEnabled s t))) (inr (h, told, right, lt, (s', has), not)) = differing h s t not_on refl told right lt (arc_in_range lts fine s t s' has).1 ((s', has), not)
  stage_of (Ok (No (SameMarking s s'))) (h, have, first) = alike h s s' refl have first
  stage_of (Ok (No (Enabled s t))) (h, told, right, lt, lt', none, yes') = differing h s t on refl told right lt lt' (none, yes')
  stage_of (Ok (No (WrongStep s t))) (h, told, right, lt, yes', (s', has, wrong)) = differing h s t off refl told right lt (arc_in_range lts fine s t s' has).1 (yes', (s', has, wrong))
  stage_of (Ok (No (OfClass b))) (h, told, right, first) = breaking h b refl told right first
  stage_of (Err w) passes = passing w refl passes

  -- the tree doesn't stop where all states have markings
  no_stuck : (h : ℕ → Marking) (s t : ℕ) → HaveMarkings lts net tree h → IsStuckInTree net tree s t → ⊥
  no_stuck h s t have stuck = not_before_stuck net tree (length tree) s t have.fire stuck (slice_get_within tree stuck.i stuck.a stuck.here.at)

  no_passes : (h : ℕ → Marking) (w : CheckWide) → HaveMarkings lts net tree h → PassesInTree net tree w → ⊥
  no_passes h w have passes = not_before_passes net tree (length tree) w have.fire passes (slice_get_within tree passes.i passes.a passes.here.at)

  same_at : (h k : ℕ → Marking) → HaveMarkings lts net tree h → HaveMarkings lts net tree k → (s : ℕ) → s < states lts → h s ≡ k s
  same_at h k x y = at lts net tree h k x y

  no_difference : (h k : ℕ → Marking) (s t : ℕ) (d : Difference) → AreTold lts net tree h → AreTold lts net tree k → s < states lts → t < labels lts
      → IsDifference lts net h s t d → AreRightBefore lts net k (states lts) 0 → ⊥
  no_difference h k s t d x y lt lt' wrong right = wrong_is_not_right lts net k one s t d (moved lts net h k fine (same_at h k x.have y.have) s t d lt wrong) (right s t (inl lt) lt lt')

  differ_same : (h k : ℕ → Marking) (s t r u : ℕ) (d e : Difference) → AreTold lts net tree h → AreTold lts net tree k → s < states lts → t < labels lts → r < states lts
      → u < labels lts → AreRightBefore lts net h s t → AreRightBefore lts net k r u → IsDifference lts net h s t d → IsDifference lts net k r u e
      → verdict_of d s t ≡ verdict_of e r u
  differ_same h k s t r u d e x y lt lt' below below' right right' a b =
      let same = same_at h k x.have y.have in
      let (p, q) = difference_once lts net h k fine same one s t r u d e lt lt' below below' right right' a b in
      let f : d ≡ e = same_difference lts net k r u d e (subst (λ n. IsDifference lts net k r n d) q (subst (λ n. IsDifference lts net k n t d) p (moved lts net h k fine same s t d lt a))) b in
      ap (λ g. verdict_of g s t) f ∙ ap (λ n. verdict_of e n t) p ∙ ap (λ n. verdict_of e r n) q

  one_stage : (v w : Told) → Stage lts net tree class v → Stage lts net tree class w → v ≡ w
  one_stage v w (in_tree s t e x) (in_tree s' t' f y) = let (p, q) = stuck_once net tree s t s' t' x y in e ∙ ap (λ n. Ok (No (NotEnabled n t))) p ∙ ap (λ n. Ok (No (NotEnabled s' n))) q ∙ sym f
  one_stage v w (in_tree s t e x) (passing w' f y) = absurd (stuck_or_passes net tree s t w' x y)
  one_stage v w (in_tree s t e x) (alike h r r' f y z) = absurd (no_stuck h s t y x)
  one_stage v w (in_tree s t e x) (differing h r u d f y right lt lt' z) = absurd (no_stuck h s t y.have x)
  one_stage v w (in_tree s t e x) (breaking h b f y right z) = absurd (no_stuck h s t y.have x)
  one_stage v w (in_tree s t e x) (is_fine h f y right z) = absurd (no_stuck h s t y.have x)
  one_stage v w (passing w' e x) (in_tree s' t f y) = absurd (stuck_or_passes net tree s' t w' y x)
  one_stage v w (passing w' e x) (passing w'' f y) = e ∙ ap Err (passes_once net tree w' w'' x y) ∙ sym f
  one_stage v w (passing w' e x) (alike h r r' f y z) = absurd (no_passes h w' y x)
  one_stage v w (passing w' e x) (differing h r u d f y right lt lt' z) = absurd (no_passes h w' y.have x)
  one_stage v w (passing w' e x) (breaking h b f y right z) = absurd (no_passes h w' y.have x)
  one_stage v w (passing w' e x) (is_fine h f y right z) = absurd (no_passes h w' y.have x)
  one_stage v w (alike h r r' e y z) (in_tree s t f x) = absurd (no_stuck h s t y x)
  one_stage v w (alike h r r' e y z) (passing w' f x) = absurd (no_passes h w' y x)
  one_stage v w (alike h r r' e y z) (alike k q q' f y' z') = let (m, n) = same_once lts net tree h k y y' r r' q q' z z' in
      e ∙ ap (λ i. Ok (No (SameMarking i r'))) m ∙ ap (λ i. Ok (No (SameMarking q i))) n ∙ sym f
  one_stage v w (alike h r r' e y z) (differing k s t d f y' right lt lt' z') = absurd (not_same lts net tree h k y y'.have r r' z y'.differ)
  one_stage v w (alike h r r' e y z) (breaking k b f y' right z') = absurd (not_same lts net tree h k y y'.have r r' z y'.differ)
  one_stage v w (alike h r r' e y z) (is_fine k f y' right z') = absurd (not_same lts net tree h k y y'.have r r' z y'.differ)
  one_stage v w (differing h r u d e y right lt lt' z) (in_tree s t f x) = absurd (no_stuck h s t y.have x)
  one_stage v w (differing h r u d e y right lt lt' z) (passing w' f x) = absurd (no_passes h w' y.have x)
  one_stage v w (differing h r u d e y right lt lt' z) (alike k q q' f y' z') = absurd (not_same lts net tree k h y' y.have q q' z' y.differ)
  one_stage v w (differing h r u d e y right lt lt' z) (differing k s t d' f y' right' below below' z') = e ∙ differ_same h k r u s t d d' y y' lt lt' below below' right right' z z' ∙ sym f
  one_stage v w (differing h r u d e y right lt lt' z) (breaking k b f y' right' z') = absurd (no_difference h k r u d y y' lt lt' z right')
  one_stage v w (differing h r u d e y right lt lt' z) (is_fine k f y' right' z') = absurd (no_difference h k r u d y y' lt lt' z right')
  one_stage v w (breaking h b e y right z) (in_tree s t f x) = absurd (no_stuck h s t y.have x)
  one_stage v w (breaking h b e y right z) (passing w' f x) = absurd (no_passes h w' y.have x)
  one_stage v w (breaking h b e y right z) (alike k q q' f y' z') = absurd (not_same lts net tree k h y' y.have q q' z' y.differ)
  one_stage v w (breaking h b e y right z) (differing k s t d f y' right' lt lt' z') = absurd (no_difference k h s t d y' y lt lt' z' right)
  one_stage v w (breaking h b e y right z) (breaking k b' f y' right' z') =
      e ∙ ap (λ i. Ok (No (OfClass i))) (break_once net (list_of lts k) class b b'
      (subst (λ l. IsFirstBreak net l class b) (same_list lts h k (same_at h k y.have y'.have)) z) z') ∙ sym f
  one_stage v w (breaking h b e y right z) (is_fine k f y' right' z') =
      absurd (no_break net (list_of lts k) class b z' (subst (λ l. IsBreak net l class b) (same_list lts h k (same_at h k y.have y'.have)) z.breaks))
  one_stage v w (is_fine h e y right z) (in_tree s t f x) = absurd (no_stuck h s t y.have x)
  one_stage v w (is_fine h e y right z) (passing w' f x) = absurd (no_passes h w' y.have x)
  one_stage v w (is_fine h e y right z) (alike k q q' f y' z') = absurd (not_same lts net tree k h y' y.have q q' z' y.differ)
  one_stage v w (is_fine h e y right z) (differing k s t d f y' right' lt lt' z') = absurd (no_difference k h s t d y' y lt lt' z' right)
  one_stage v w (is_fine h e y right z) (breaking k b f y' right' z') =
      absurd (no_break net (list_of lts h) class b z (subst (λ l. IsBreak net l class b) (sym (same_list lts h k (same_at h k y.have y'.have))) z'.breaks))
  one_stage v w (is_fine h e y right z) (is_fine k f y' right' z') = e ∙ sym f

-- the first flaw, or what is told of a flawless system
data Top (lts : System) (net : Net) (class : Class) (v : Told) : Type 0 where
  flawed : (f : Flaw) → v ≡ Ok (No (no_of f)) → IsFirstFlaw lts f → Top lts net class v
  flawless : (tree : List Arc) → IsFlawless lts → IsTree lts tree → Stage lts net tree class v → Top lts net class v

top_of : (lts : System) (net : Net) (class : Class) → IsInRange lts → (v : Told) → IsVerdict lts net class v → Top lts net class v
top_of lts net class fine (Ok (No (Unreachable s))) first = flawed (flaw.Unreachable s) refl first
top_of lts net class fine (Ok (No (Fork s t s₁ s₂))) first = flawed (flaw.Fork (fork_of s t s₁ s₂)) refl first
top_of lts net class fine (Ok Yes) (known, tree, is, tells) = flawless tree known is (stage_of lts net tree class fine known.fork_free (Ok Yes) tells)
top_of lts net class fine (Ok (No (NotEnabled s t))) (known, tree, is, tells) = flawless tree known is (stage_of lts net tree class fine known.fork_free (Ok (No (NotEnabled s t))) tells)
top_of lts net class fine (Ok (No (SameMarking s s'))) (known, tree, is, tells) = flawless tree known is (stage_of lts net tree class fine known.fork_free (Ok (No (SameMarking s s'))) tells)
top_of lts net class fine (Ok (No (Enabled s t))) (known, tree, is, tells) = flawless tree known is (stage_of lts net tree class fine known.fork_free (Ok (No (Enabled s t))) tells)
top_of lts net class fine (Ok (No (WrongStep s t))) (known, tree, is, tells) = flawless tree known is (stage_of lts net tree class fine known.fork_free (Ok (No (WrongStep s t))) tells)
top_of lts net class fine (Ok (No (OfClass b))) (known, tree, is, tells) = flawless tree known is (stage_of lts net tree class fine known.fork_free (Ok (No (OfClass b))) tells)
top_of lts net class fine (Err w) (known, tree, is, tells) = flawless tree known is (stage_of lts net tree class fine known.fork_free (Err w) tells)

-- first flaws are one
abbrev pub OneFlaw : Type 0
OneFlaw = (lts : System) (f g : Flaw) → IsFirstFlaw lts f → IsFirstFlaw lts g → f ≡ g

one_top : OneFlaw → (lts : System) (net : Net) (class : Class) → IsInRange lts → (v w : Told) → Top lts net class v → Top lts net class w → v ≡ w
one_top law lts net class fine v w (flawed f e x) (flawed g e' y) = e ∙ ap (λ h. Ok (No (no_of h))) (law lts f g x y) ∙ sym e'
one_top law lts net class fine v w (flawed f e x) (flawless tree known is y) = absurd (not_flawless lts f x known)
one_top law lts net class fine v w (flawless tree known is x) (flawed g e' y) = absurd (not_flawless lts g y known)
one_top law lts net class fine v w (flawless tree known is x) (flawless tree' known' is' y) =
    one_stage lts net tree class fine known.fork_free v w x (subst (λ l. Stage lts net l class w) (sym (same_tree lts (lts.initial ∷ []) tree tree' is is')) y)

pub one_verdict : OneFlaw → (lts : System) (net : Net) (class : Class) (v w : Told) → IsInRange lts → IsVerdict lts net class v → IsVerdict lts net class w → v ≡ w
one_verdict law lts net class v w fine x y = one_top law lts net class fine v w (top_of lts net class fine v x) (top_of lts net class fine w y)
