-- The lines that `check` writes to out.
use Rattle.std.specs.Prelude.{ℕ, ◌<◌, List, ◌++◌, codes, decimal}
use Rattle.rg_theory.specs.System.{System, states, labels}
use Rattle.rg_checks.specs.declared.flaw.Flaw.TheVariants as flaw
use Rattle.rg_checks.specs.Flaws.{IsFlawInRange, fork_of}
use Rattle.rg_net.specs.declared.class_break.ClassBreak.{ClassBreak}
use Rattle.rg_net.specs.declared.class_break.ClassBreak.TheVariants.{NotPure, NotPlain, Over, Branching, NotMultiple}
use Rattle.rg_net_verdict.specs.declared.verdict.NetNo.{NetNo}
use Rattle.rg_net_verdict.specs.declared.verdict.NetNo.TheVariants.{Unreachable, Fork, NotEnabled, SameMarking, Enabled, WrongStep, Class}
use Rattle.rg_cert.specs.Text.{state_name, label_name}
use Rattle.rg_messages.specs.FlawTexts.{step_text, flaw_words}

-- the net solves the system and is of the class
abbrev pub yes_line : List ℕ
yes_line = codes "yes\n"

-- the labels and states of a break of the class are the system's
abbrev pub HasBreakNames : System → ClassBreak → Type 0
HasBreakNames lts (NotPure p t) = t < labels lts
HasBreakNames lts (NotPlain p t) = t < labels lts
HasBreakNames lts (Over p s) = s < states lts
HasBreakNames lts (Branching p t t') = (t < labels lts) × (t' < labels lts)
HasBreakNames lts (NotMultiple p) = Unit {0}

-- the states and labels of a difference are the system's
abbrev pub HasNames : System → NetNo → Type 0
HasNames lts (Unreachable s) = IsFlawInRange lts (flaw.Unreachable s)
HasNames lts (Fork s t s₁ s₂) = IsFlawInRange lts (flaw.Fork (fork_of s t s₁ s₂))
HasNames lts (NotEnabled s t) = (s < states lts) × (t < labels lts)
HasNames lts (SameMarking s s') = (s < states lts) × (s' < states lts)
HasNames lts (Enabled s t) = (s < states lts) × (t < labels lts)
HasNames lts (WrongStep s t) = (s < states lts) × (t < labels lts)
HasNames lts (Class b) = HasBreakNames lts b

-- a place, by its number, and a label
abbrev pub weight_text : System → ℕ → ℕ → List ℕ
weight_text lts p t = decimal p ++ codes " " ++ label_name lts t

-- a break of the class
abbrev pub break_text : System → ClassBreak → List ℕ
break_text lts (NotPure p t) = codes "not pure place " ++ weight_text lts p t
break_text lts (NotPlain p t) = codes "not plain place " ++ weight_text lts p t
break_text lts (Over p s) = codes "over place " ++ decimal p ++ codes " " ++ state_name lts s
break_text lts (Branching p t t') = codes "branching place " ++ weight_text lts p t ++ codes " " ++ label_name lts t'
break_text lts (NotMultiple p) = codes "not multiple place " ++ decimal p

-- the first difference
abbrev pub no_text : System → NetNo → List ℕ
no_text lts (Unreachable s) = flaw_words lts (flaw.Unreachable s)
no_text lts (Fork s t s₁ s₂) = flaw_words lts (flaw.Fork (fork_of s t s₁ s₂))
no_text lts (NotEnabled s t) = codes "not enabled " ++ step_text lts s t
no_text lts (SameMarking s s') = codes "same marking " ++ state_name lts s ++ codes " " ++ state_name lts s'
no_text lts (Enabled s t) = codes "enabled " ++ step_text lts s t
no_text lts (WrongStep s t) = codes "wrong step " ++ step_text lts s t
no_text lts (Class b) = break_text lts b

abbrev pub no_line : System → NetNo → List ℕ
no_line lts found = codes "no: " ++ no_text lts found ++ codes "\n"
