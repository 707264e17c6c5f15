-- What the tests tell.
use Rattle.std.proofs.Common.{◌≡◌, ℕ, ◌<◌, List, [], length, Ok, inr, sym, subst, ◌∙◌, arith, ext_get_or, zero-add}
use Rattle.std.proofs.lemmas.List.FromFn.{length-map-range_with_len, get_or-map-range_with_len}
use Rattle.std.proofs.lemmas.Option.{slice_get_within}
use Rattle.rg_integers.specs.Range.{greatest}
use Rattle.rg_theory.specs.declared.Arc.{Arc}
use Rattle.rg_theory.specs.declared.Class.{Class}
use Rattle.rg_theory.specs.System.{System, states, labels, IsInRange}
use Rattle.rg_theory.specs.Net.{Net, Marking}
use Rattle.rg_theory.specs.Solves.{marking_of}
use Rattle.rg_theory.specs.Class.{IsBounded}
use Rattle.rg_theory.specs.Tree.{IsTree}
use Rattle.rg_checks.specs.declared.flaw.Flaw.{Flaw}
use Rattle.rg_checks.specs.declared.flaw.Flaw.TheVariants as flaw
use Rattle.rg_checks.specs.Flaws.{IsFlawless, IsFirstFlaw}
use Rattle.rg_net.specs.declared.class_break.ClassBreak.{ClassBreak}
use Rattle.rg_net.specs.ClassBreaks.{AreInClass, IsFirstBreak}
use Rattle.rg_net_verdict.specs.declared.verdict.NetVerdict.TheVariants.{Yes, No}
use Rattle.rg_net_verdict.specs.declared.verdict.NetNo.{NetNo}
use Rattle.rg_net_verdict.specs.declared.verdict.NetNo.TheVariants.{Unreachable, Fork, NotEnabled, SameMarking, Enabled, WrongStep, Class as OfClass}
use Rattle.rg_net_verdict.specs.Rows.{AreRows}
use Rattle.rg_net_verdict.specs.Verdict.{IsVerdict, no_of, Tells, AreTold, HaveMarkings, AreFirstSame, AllDiffer, AreRightBefore, list_of}
use Rattle.rg_net_verdict.specs.Wrong.{IsFirstWrong}
use Rattle.rg_net_verdict.proofs.Sound.{told_solves, told_bounded}

-- the rows are the markings of the states by number
list_is : (lts : System) (ms : List Marking) → length ms ≡ states lts → list_of lts (marking_of ms) ≡ ms
list_is lts ms all =
    ext_get_or [] (list_of lts (marking_of ms)) ms (length-map-range_with_len (marking_of ms) 0 (states lts) ∙ sym all)
    (λ s lt. get_or-map-range_with_len (marking_of ms) 0 (states lts) s s [] (subst (λ n. s < n) (length-map-range_with_len (marking_of ms) 0 (states lts)) lt) (zero-add s))

module _ (lts : System) (net : Net) (tree : List Arc) (class : Class) where
  pub tells_same : (h : ℕ → Marking) (s s' : ℕ) → HaveMarkings lts net tree h → AreFirstSame lts h s s' → Tells lts net tree class (Ok (No (SameMarking s s')))
  tells_same h s s' have first = (h, have, first)

  pub tells_wrong : (h : ℕ → Marking) (n : NetNo) → AreTold lts net tree h → IsFirstWrong lts net h n → Tells lts net tree class (Ok (No n))
  tells_wrong h (NotEnabled r u) told w =
      let (e, f, has, not) = w.wrong in
      subst (λ k. Tells lts net tree class (Ok (No (NotEnabled k u)))) (sym e) (subst (λ k. Tells lts net tree class (Ok (No (NotEnabled w.s k)))) (sym f) (inr (h, told, w.before, w.state, has, not)))
  tells_wrong h (Enabled r u) told w =
      let (e, f, none, on) = w.wrong in
      subst (λ k. Tells lts net tree class (Ok (No (Enabled k u)))) (sym e) (subst (λ k. Tells lts net tree class (Ok (No (Enabled w.s k)))) (sym f) (h, told, w.before, w.state, w.label, none, on))
  tells_wrong h (WrongStep r u) told w =
      let (e, f, on, wrong) = w.wrong in
      subst (λ k. Tells lts net tree class (Ok (No (WrongStep k u)))) (sym e) (subst (λ k. Tells lts net tree class (Ok (No (WrongStep w.s k)))) (sym f) (h, told, w.before, w.state, on, wrong))
  tells_wrong h (Unreachable s) told w = absurd w.wrong
  tells_wrong h (Fork s t s₁ s₂) told w = absurd w.wrong
  tells_wrong h (SameMarking s s') told w = absurd w.wrong
  tells_wrong h (OfClass b) told w = absurd w.wrong

  module _ (ms : List Marking) (are : AreRows lts net ms) (have : HaveMarkings lts net tree (marking_of ms)) (differ : AllDiffer lts (marking_of ms))
      (right : AreRightBefore lts net (marking_of ms) (states lts) 0) where
    told : AreTold lts net tree (marking_of ms)
    told = record { have = have; differ = differ }

    pub tells_break : (b : ClassBreak) → IsFirstBreak net ms class b → Tells lts net tree class (Ok (No (OfClass b)))
    tells_break b first = (marking_of ms, told, right, subst (λ l. IsFirstBreak net l class b) (sym (list_is lts ms are.one_each)) first)

    pub tells_yes : AreInClass net ms class → Tells lts net tree class (Ok Yes)
    tells_yes inside = (marking_of ms, told, right, subst (λ l. AreInClass net l class) (sym (list_is lts ms are.one_each)) inside)

    pub bounded_yes : IsTree lts tree → IsFlawless lts → IsInRange lts → net.labels ≡ labels lts → IsBounded net greatest
    bounded_yes is flawless fine same =
        told_bounded lts net tree is flawless.reachable fine same (marking_of ms) have greatest
        (told_solves lts net tree is flawless.reachable fine same (marking_of ms) have flawless.fork_free differ right)
        (λ s i p lt at. (let long = are.places s [] (let all = are.one_each in omega arith) in
        let below = slice_get_within net.places i p at in
        are.in_range s [] (let all = are.one_each in omega arith) i 0 (omega arith)))

-- a flaw of the system
pub verdict_flaw : (lts : System) (net : Net) (class : Class) (f : Flaw) → IsFirstFlaw lts f → IsVerdict lts net class (Ok (No (no_of f)))
verdict_flaw lts net class (flaw.Unreachable s) first = first
verdict_flaw lts net class (flaw.Fork f) first = first

-- of a flawless system
pub verdict_no : (lts : System) (net : Net) (tree : List Arc) (class : Class) (n : NetNo) → IsFlawless lts → IsTree lts tree → Tells lts net tree class (Ok (No n))
    → IsVerdict lts net class (Ok (No n))
verdict_no lts net tree class (Unreachable s) flawless is tells = absurd tells
verdict_no lts net tree class (Fork s t s₁ s₂) flawless is tells = absurd tells
verdict_no lts net tree class (NotEnabled s t) flawless is tells = (flawless, tree, is, tells)
verdict_no lts net tree class (SameMarking s s') flawless is tells = (flawless, tree, is, tells)
verdict_no lts net tree class (Enabled s t) flawless is tells = (flawless, tree, is, tells)
verdict_no lts net tree class (WrongStep s t) flawless is tells = (flawless, tree, is, tells)
verdict_no lts net tree class (OfClass b) flawless is tells = (flawless, tree, is, tells)
