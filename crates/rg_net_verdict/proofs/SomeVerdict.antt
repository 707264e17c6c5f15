-- Each net with one transition for each label of a system in range has a verdict, or the judge stops at some place.
use Rattle.std.proofs.Common.{◌≡◌, ◌≢◌, ◌⊎◌, inl, inr, ℕ, ◌-◌, ◌+◌, ◌<◌, ◌≤◌, List, length, Ok, Err, slice_get, Some, sym, subst, arith}
use Rattle.std.proofs.lemmas.Bool.{cases_lt, cases_eq}
use Rattle.rg_theory.specs.declared.Arc.{Arc}
use Rattle.rg_theory.specs.declared.Class.{Class}
use Rattle.rg_theory.specs.System.{System, states, labels, HasArc, IsInRange, IsAllReachable}
use Rattle.rg_theory.specs.Net.{Place, Net, Marking, pre_weight, post_weight, tokens, IsEnabled, Fires}
use Rattle.rg_theory.specs.Tree.{IsTree}
use Rattle.rg_theory.proofs.Arcs.{find_arc}
use Rattle.rg_theory.proofs.Lists.{each_or_some}
use Rattle.rg_theory.proofs.Deciding.{Decided, same_list, each_or_first, find_pair, PairBefore}
use Rattle.rg_theory.proofs.Growing.{some_tree}
use Rattle.rg_checks.specs.declared.flaw.Flaw.{Flaw}
use Rattle.rg_checks.specs.Flaws.{IsFlawless, IsFirstFlaw}
use Rattle.rg_checks.proofs.FirstFlaws.{some_flaw}
use Rattle.rg_net.specs.declared.class_break.ClassBreak.{ClassBreak}
use Rattle.rg_net.specs.ClassBreaks.{AreInClass, IsFirstBreak}
use Rattle.rg_net_verdict.specs.declared.verdict.NetVerdict.TheVariants.{Yes, No}
use Rattle.rg_net_verdict.specs.declared.verdict.NetNo.{NetNo}
use Rattle.rg_net_verdict.specs.declared.verdict.NetNo.TheVariants.{NotEnabled, SameMarking, Enabled, WrongStep, Class as OfClass}
use Rattle.rg_net_verdict.specs.Verdict.{Told, HaveMarkings, AreFirstSame, AllDiffer, IsRightAt, stops, steps, AreRightBefore, AreTold, list_of, no_of, Tells, IsVerdict}
use Rattle.rg_net_verdict.specs.Wrong.{IsWrongAt, IsFirstWrong}
use Rattle.rg_net_verdict.proofs.Telling.{tells_same, tells_wrong, verdict_flaw, verdict_no}
use Rattle.rg_net_verdict.proofs.BreakOrNone.{class_or_break}
use Rattle.rg_net_verdict.proofs.SomeMarkings.{enabled_or_not, Halts, marked_or_halts}

-- the label fires from the one marking to the other, or doesn't
fires_or_not : (net : Net) (m : Marking) (t : ℕ) (after : Marking) → t < net.labels → IsEnabled net m t → Decided (Fires net m t after)
fires_or_not net m t after lt on = by (cases_eq (length after) (length net.places))
    (each_or_some (λ i p. tokens after i ≡ tokens m i - pre_weight p t + post_weight p t) (λ i p. tokens after i ≢ tokens m i - pre_weight p t + post_weight p t)
    (λ i p. cases_eq (tokens after i) (tokens m i - pre_weight p t + post_weight p t)) net.places)
  where
    by : Decided (length after ≡ length net.places)
        → ((i : ℕ) (p : Place) → slice_get net.places i ≡ Some p → tokens after i ≡ tokens m i - pre_weight p t + post_weight p t)
        ⊎ ((i : ℕ) × (p : Place) × (slice_get net.places i ≡ Some p) × (tokens after i ≢ tokens m i - pre_weight p t + post_weight p t)) → Decided (Fires net m t after)
    by (inr other) _ = inr (λ fires. other fires.places)
    by (inl long) (inl moved) = inl (record { label = lt; enabled = on; places = long; moved = moved })
    by (inl long) (inr (i, p, at, other)) = inr (λ fires. other (fires.moved i p at))

module _ (lts : System) (net : Net) (tree : List Arc) (class : Class) (fine : IsInRange lts) (same : net.labels ≡ labels lts) where
  abbrev Answers : Type 0
  Answers = (v : Told) × Tells lts net tree class v

  -- ---- markings that are the same

  module _ (h : ℕ → Marking) where
    abbrev AreSame : ℕ → ℕ → Type 0
    AreSame s s' = (s < s') × (s' < states lts) × (h s ≡ h s')

    same_or_not : (s s' : ℕ) → Decided (AreSame s s')
    same_or_not s s' = by (cases_lt s s') (cases_lt s' (states lts)) (same_list (h s) (h s'))
      where
        by : (s < s') ⊎ (s' ≤ s) → (s' < states lts) ⊎ (states lts ≤ s') → Decided (h s ≡ h s') → Decided (AreSame s s')
        by (inl less) (inl lt) (inl e) = inl (less, lt, e)
        by (inl less) (inl lt) (inr other) = inr (λ is. other is.2)
        by (inl less) (inr past) _ = inr (λ is. (let lt = is.1 in omega arith))
        by (inr more) _ _ = inr (λ is. (let less = is.0 in omega arith))

    same_or_differ : ((s : ℕ) × (s' : ℕ) × AreFirstSame lts h s s') ⊎ AllDiffer lts h
    same_or_differ = by (find_pair AreSame same_or_not (states lts) (states lts) (λ s s' is. (let less = is.0 in let lt = is.1 in (omega arith, lt))))
      where
        by : ((s : ℕ) × (s' : ℕ) × AreSame s s' × ((r r' : ℕ) → PairBefore r r' s s' → ¬ AreSame r r')) ⊎ ((s s' : ℕ) → ¬ AreSame s s')
            → ((s : ℕ) × (s' : ℕ) × AreFirstSame lts h s s') ⊎ AllDiffer lts h
        by (inl (s, s', is, before)) = inl (s, s', record { order = is.0; within = is.1; same = is.2; first = λ r r' earlier less lt e. before r r' earlier (less, lt, e) })
        by (inr none) = inr (λ s s' less lt e. none s s' (less, lt, e))

    -- ---- labels that are wrong

    abbrev Wrong : ℕ → ℕ → Type 0
    Wrong s t = (n : NetNo) × IsWrongAt lts net h s t n

    right_or_wrong : (s t : ℕ) → t < net.labels → IsRightAt lts net h s t ⊎ Wrong s t
    right_or_wrong s t lt = by (find_arc lts s t) (enabled_or_not net (h s) t)
      where
        led : (s' : ℕ) → HasArc lts s t s' → IsEnabled net (h s) t → Decided (Fires net (h s) t (h s')) → IsRightAt lts net h s t ⊎ Wrong s t
        led s' has on (inl fires) = inl (steps s' has fires)
        led s' has on (inr other) = inr (WrongStep s t, (λ i. s, λ i. t, on, (s', has, other)))

        by : ((s' : ℕ) × HasArc lts s t s') ⊎ ((s' : ℕ) → HasArc lts s t s' → ⊥) → Decided (IsEnabled net (h s) t) → IsRightAt lts net h s t ⊎ Wrong s t
        by (inr none) (inr off) = inl (stops none off)
        by (inr none) (inl on) = inr (Enabled s t, (λ i. s, λ i. t, none, on))
        by (inl (s', has)) (inr off) = inr (NotEnabled s t, (λ i. s, λ i. t, (s', has), off))
        by (inl (s', has)) (inl on) = led s' has on (fires_or_not net (h s) t (h s') lt on)

    abbrev RowRight : ℕ → Type 0
    RowRight s = (t : ℕ) → t < labels lts → IsRightAt lts net h s t

    abbrev RowWrong : ℕ → Type 0
    RowWrong s = (t : ℕ) × (t < labels lts) × Wrong s t × ((u : ℕ) → u < t → IsRightAt lts net h s u)

    row_told : (s : ℕ) → RowRight s ⊎ RowWrong s
    row_told s = by (each_or_first (λ t. t < labels lts → IsRightAt lts net h s t) (λ t. (t < labels lts) × Wrong s t) (λ t. at t (cases_lt t (labels lts))) (labels lts))
      where
        placed : (t : ℕ) → t < labels lts → IsRightAt lts net h s t ⊎ Wrong s t → (t < labels lts → IsRightAt lts net h s t) ⊎ ((t < labels lts) × Wrong s t)
        placed t lt (inl right) = inl (λ _. right)
        placed t lt (inr wrong) = inr (lt, wrong)

        at : (t : ℕ) → (t < labels lts) ⊎ (labels lts ≤ t) → (t < labels lts → IsRightAt lts net h s t) ⊎ ((t < labels lts) × Wrong s t)
        at t (inl lt) = placed t lt (right_or_wrong s t (subst (λ n. t < n) (sym same) lt))
        at t (inr past) = inl (λ lt. absurd (omega arith))

        by : ((t : ℕ) → t < labels lts → t < labels lts → IsRightAt lts net h s t)
            ⊎ ((t : ℕ) × (t < labels lts) × ((t < labels lts) × Wrong s t) × ((u : ℕ) → u < t → u < labels lts → IsRightAt lts net h s u)) → RowRight s ⊎ RowWrong s
        by (inl all) = inl (λ t lt. all t lt lt)
        by (inr (t, lt, (lt', wrong), before)) = inr (t, lt, wrong, λ u less. before u less (omega arith))

    right_or_first_wrong : AreRightBefore lts net h (states lts) 0 ⊎ ((n : NetNo) × IsFirstWrong lts net h n)
    right_or_first_wrong = by (each_or_first RowRight RowWrong row_told (states lts))
      where
        before : (s t : ℕ) → ((r : ℕ) → r < s → RowRight r) → ((u : ℕ) → u < t → IsRightAt lts net h s u) → AreRightBefore lts net h s t
        before s t rows here r u (inl less) lt lt' = rows r less u lt'
        before s t rows here r u (inr (e, less)) lt lt' = subst (λ q. IsRightAt lts net h q u) (sym e) (here u less)

        all : ((s : ℕ) → s < states lts → RowRight s) → AreRightBefore lts net h (states lts) 0
        all rows r u _ lt lt' = rows r lt u lt'

        by : ((s : ℕ) → s < states lts → RowRight s) ⊎ ((s : ℕ) × (s < states lts) × RowWrong s × ((r : ℕ) → r < s → RowRight r))
            → AreRightBefore lts net h (states lts) 0 ⊎ ((n : NetNo) × IsFirstWrong lts net h n)
        by (inl rows) = inl (all rows)
        by (inr (s, lt, (t, lt', (n, wrong), here), rows)) = inr (n, record { s = s; t = t; state = lt; label = lt'; before = before s t rows here; wrong = wrong })

    -- ---- all of it

    marked : HaveMarkings lts net tree h → Answers
    marked have = by_same same_or_differ
      where
        by_class : AreTold lts net tree h → AreRightBefore lts net h (states lts) 0 → AreInClass net (list_of lts h) class ⊎ ((b : ClassBreak) × IsFirstBreak net (list_of lts h) class b) → Answers
        by_class told right (inl inside) = (Ok Yes, (h, told, right, inside))
        by_class told right (inr (b, first)) = (Ok (No (OfClass b)), (h, told, right, first))

        by_wrong : AreTold lts net tree h → AreRightBefore lts net h (states lts) 0 ⊎ ((n : NetNo) × IsFirstWrong lts net h n) → Answers
        by_wrong told (inr (n, wrong)) = (Ok (No n), tells_wrong lts net tree class h n told wrong)
        by_wrong told (inl right) = by_class told right (class_or_break net (list_of lts h) class)

        by_same : ((s : ℕ) × (s' : ℕ) × AreFirstSame lts h s s') ⊎ AllDiffer lts h → Answers
        by_same (inl (s, s', first)) = (Ok (No (SameMarking s s')), tells_same lts net tree class h s s' have first)
        by_same (inr differ) = by_wrong (record { have = have; differ = differ }) right_or_first_wrong

  some_told : IsTree lts tree → IsAllReachable lts → Answers
  some_told is reach = by (marked_or_halts lts net tree fine same is reach)
    where
      by : ((h : ℕ → Marking) × HaveMarkings lts net tree h) ⊎ Halts lts net tree fine same is → Answers
      by (inl (h, have)) = marked h have
      by (inr (inl (s, t, stuck))) = (Ok (No (NotEnabled s t)), inl stuck)
      by (inr (inr (w, passes))) = (Err w, passes)

pub some_verdict : (lts : System) (net : Net) (class : Class) → IsInRange lts → net.labels ≡ labels lts → (v : Told) × IsVerdict lts net class v
some_verdict lts net class fine same = let (tree, is) = some_tree lts fine in by tree is (some_flaw lts fine)
  where
    judged : (tree : List Arc) → IsTree lts tree → IsFlawless lts → (v : Told) × Tells lts net tree class v → (v : Told) × IsVerdict lts net class v
    judged tree is flawless (Ok Yes, tells) = (Ok Yes, (flawless, tree, is, tells))
    judged tree is flawless (Ok (No n), tells) = (Ok (No n), verdict_no lts net tree class n flawless is tells)
    judged tree is flawless (Err w, tells) = (Err w, (flawless, tree, is, tells))

    by : (tree : List Arc) → IsTree lts tree → ((f : Flaw) × IsFirstFlaw lts f) ⊎ IsFlawless lts → (v : Told) × IsVerdict lts net class v
    by tree is (inl (f, first)) = (Ok (No (no_of f)), verdict_flaw lts net class f first)
    by tree is (inr flawless) = judged tree is flawless (some_told lts net tree class fine same is flawless.reachable)
