-- The verdict on a net for a system and a class: yes, the first difference, or a number that passes.
use Rattle.std.specs.Prelude.{◌≡◌, ◌≢◌, ◌⊎◌, ℕ, ◌-◌, ◌<◌, List, length, map, pos, neg_ℤ}
use Rattle.std.specs.declared.result.Result.{Result}
use Rattle.std.specs.declared.result.Result.TheVariants.{Ok, Err}
use Rattle.std.specs.List.{range_with_len}
use Rattle.rg_theory.specs.declared.Arc.{Arc}
use Rattle.rg_theory.specs.declared.Class.{Class}
use Rattle.rg_theory.specs.System.{System, states, labels, HasArc}
use Rattle.rg_theory.specs.Net.{Net, Marking, pre_weight, post_weight, tokens, IsEnabled, Fires}
use Rattle.rg_theory.specs.Tree.{IsTree}
use Rattle.rg_checks.specs.declared.flaw.Flaw.{Flaw}
use Rattle.rg_checks.specs.declared.flaw.Flaw.TheVariants as flaw
use Rattle.rg_checks.specs.Flaws.{IsFlawless, IsFirstFlaw, fork_of}
use Rattle.rg_net.specs.Firing.{IsFirstPassed}
use Rattle.rg_net.specs.ClassBreaks.{AreInClass, IsFirstBreak}
use Rattle.rg_net_verdict.specs.declared.verdict.CheckWide.{CheckWide}
use Rattle.rg_net_verdict.specs.declared.verdict.NetVerdict.{NetVerdict}
use Rattle.rg_net_verdict.specs.declared.verdict.NetVerdict.TheVariants.{Yes, No}
use Rattle.rg_net_verdict.specs.declared.verdict.NetNo.{NetNo}
use Rattle.rg_net_verdict.specs.declared.verdict.NetNo.TheVariants.{Unreachable, Fork, NotEnabled, SameMarking, Enabled, WrongStep, Class as OfClass}
use Rattle.rg_net_verdict.specs.Markings.{IsMarkingOf, IsTreeArc, FireBefore}

-- arc number i of the tree isn't enabled, and those before it fire in range
pub record IsStuckInTree (net : Net) (tree : List Arc) (s t : ℕ) : Type 0 where
  pub i : ℕ
  pub a : Arc
  pub m : Marking
  pub here : IsTreeArc net tree i a m
  pub state : a.from ≡ s
  pub label : a.label ≡ t
  pub stuck : ¬ IsEnabled net m a.label
  pub before : FireBefore net tree i

-- arc number i of the tree is the first whose firing passes; it enters the state, and the place is the first on which it passes
pub record PassesInTree (net : Net) (tree : List Arc) (w : CheckWide) : Type 0 where
  pub i : ℕ
  pub a : Arc
  pub m : Marking
  pub here : IsTreeArc net tree i a m
  pub state : a.to ≡ w.state
  pub enabled : IsEnabled net m a.label
  pub before : FireBefore net tree i
  pub passed : IsFirstPassed net m a.label w.place
  pub shown : w.wide ≡ record { a = pos (tokens m w.place - pre_weight passed.place a.label); b = pos 1; c = neg_ℤ (pos (post_weight passed.place a.label)); d = pos 1 }

-- the states have markings along the tree, in range
pub record HaveMarkings (lts : System) (net : Net) (tree : List Arc) (h : ℕ → Marking) : Type 0 where
  pub fire : FireBefore net tree (length tree)
  pub each : (s : ℕ) → s < states lts → IsMarkingOf net tree s (h s)

-- two states with one marking, and none before them
pub record AreFirstSame (lts : System) (h : ℕ → Marking) (s s' : ℕ) : Type 0 where
  pub order : s < s'
  pub within : s' < states lts
  pub same : h s ≡ h s'
  pub first : (r r' : ℕ) → (r < s) ⊎ ((r ≡ s) × (r' < s')) → r < r' → r' < states lts → h r ≢ h r'

abbrev pub AllDiffer : System → (ℕ → Marking) → Type 0
AllDiffer lts h = (s s' : ℕ) → s < s' → s' < states lts → h s ≢ h s'

-- label t at state s is as the arcs say
pub data IsRightAt (lts : System) (net : Net) (h : ℕ → Marking) (s t : ℕ) : Type 0 where
  stops : ((s' : ℕ) → ¬ HasArc lts s t s') → ¬ IsEnabled net (h s) t → IsRightAt lts net h s t
  steps : (s' : ℕ) → HasArc lts s t s' → Fires net (h s) t (h s') → IsRightAt lts net h s t

-- all labels are right at the states before s, and at s those before t
abbrev pub AreRightBefore : System → Net → (ℕ → Marking) → ℕ → ℕ → Type 0
AreRightBefore lts net h s t = (r u : ℕ) → (r < s) ⊎ ((r ≡ s) × (u < t)) → r < states lts → u < labels lts → IsRightAt lts net h r u

-- the markings of the states by number
abbrev pub list_of : System → (ℕ → Marking) → List Marking
list_of lts h = map h (range_with_len 0 (states lts))

-- the markings along the tree are in range and differ
pub record AreTold (lts : System) (net : Net) (tree : List Arc) (h : ℕ → Marking) : Type 0 where
  pub have : HaveMarkings lts net tree h
  pub differ : AllDiffer lts h

-- the result for a net: the verdict, or where the judge stops
abbrev pub Told : Type 0
Told = Result NetVerdict CheckWide

-- the difference that a flaw of the system is
abbrev pub no_of : Flaw → NetNo
no_of (flaw.Unreachable s) = Unreachable s
no_of (flaw.Fork f) = Fork f.from f.label f.to f.other

-- what each verdict says of a flawless system
abbrev pub Tells : System → Net → List Arc → Class → Told → Type 0
Tells lts net tree class (Ok Yes) = (h : ℕ → Marking) × AreTold lts net tree h × AreRightBefore lts net h (states lts) 0 × AreInClass net (list_of lts h) class
Tells lts net tree class (Ok (No (Unreachable s))) = ⊥
Tells lts net tree class (Ok (No (Fork s t s₁ s₂))) = ⊥
Tells lts net tree class (Ok (No (NotEnabled s t))) =
    IsStuckInTree net tree s t
    ⊎ ((h : ℕ → Marking) × AreTold lts net tree h × AreRightBefore lts net h s t × (s < states lts) × ((s' : ℕ) × HasArc lts s t s') × ¬ IsEnabled net (h s) t)
Tells lts net tree class (Ok (No (SameMarking s s'))) = (h : ℕ → Marking) × HaveMarkings lts net tree h × AreFirstSame lts h s s'
Tells lts net tree class (Ok (No (Enabled s t))) =
    (h : ℕ → Marking) × AreTold lts net tree h × AreRightBefore lts net h s t × (s < states lts) × (t < labels lts)
    × ((s' : ℕ) → ¬ HasArc lts s t s') × IsEnabled net (h s) t
Tells lts net tree class (Ok (No (WrongStep s t))) =
    (h : ℕ → Marking) × AreTold lts net tree h × AreRightBefore lts net h s t × (s < states lts) × IsEnabled net (h s) t
    × ((s' : ℕ) × HasArc lts s t s' × ¬ Fires net (h s) t (h s'))
Tells lts net tree class (Ok (No (OfClass b))) = (h : ℕ → Marking) × AreTold lts net tree h × AreRightBefore lts net h (states lts) 0 × IsFirstBreak net (list_of lts h) class b
Tells lts net tree class (Err w) = PassesInTree net tree w

-- the verdict: the first flaw, or what the tests say of a flawless system
abbrev pub IsVerdict : System → Net → Class → Told → Type 0
IsVerdict lts net class (Ok (No (Unreachable s))) = IsFirstFlaw lts (flaw.Unreachable s)
IsVerdict lts net class (Ok (No (Fork s t s₁ s₂))) = IsFirstFlaw lts (flaw.Fork (fork_of s t s₁ s₂))
IsVerdict lts net class v = IsFlawless lts × (tree : List Arc) × IsTree lts tree × Tells lts net tree class v
