-- `convert` ends in one way for a system and a form.
use Rattle.std.proofs.Common.{◌≡◌, ◌⊎◌, inl, inr, ℕ, ◌<◌, Bool, true, false, List, refl, sym, ap, ◌∙◌, arith}
use Rattle.std.proofs.lemmas.Bool.{cases_order}
use Rattle.rg_theory.specs.System.{System}
use Rattle.rg_genet.specs.Loss.{has_label, is_on_arc, IsLabelKept, IsStateKept, IsFirstDead, IsFirstLost}
use Rattle.rg_commands.specs.declared.forms.Target.{Target}
use Rattle.rg_commands.specs.declared.forms.Target.TheVariants.{Apt, Graph}
use Rattle.rg_messages.specs.LostTexts.{lost_label_line, lost_state_line}
use Rattle.rg_apt.specs.Plain.{lts_text}
use Rattle.rg_genet.specs.Text.{graph_text}
use Rattle.rg_top.specs.Convert.{ConvertEnds, as_apt, as_graph, label_lost, state_lost, ConvertIsDue, always, by_all, by_label, by_state}
use Rattle.rg_top.specs.End.{End, says_yes, says_no, HasStatus}
use Rattle.rg_top.specs.declared.status.Status.{Status}
use Rattle.rg_top.proofs.Told.{TellsOne, IsEndOf, IsStatusOf, one_end, due_end}

clash : (b : Bool) → b ≡ true → b ≡ false → ⊥
clash b p q = let e = sym p ∙ q in cc

-- the first number at which a fact fails
first_once : (f : ℕ → Bool) (a b : ℕ) → f a ≡ false → ((u : ℕ) → u < a → f u ≡ true) → f b ≡ false → ((u : ℕ) → u < b → f u ≡ true) → a ≡ b
first_once f a b fails before fails' before' = by (cases_order a b)
  where
    by : (a ≡ b) ⊎ ((a < b) ⊎ (b < a)) → a ≡ b
    by (inl e) = e
    by (inr (inl l)) = absurd (clash (f a) (before' a l) fails)
    by (inr (inr l)) = absurd (clash (f b) (before b l) fails')

kept_not_dead : (lts : System) (t : ℕ) → IsLabelKept lts → IsFirstDead lts t → ⊥
kept_not_dead lts t kept dead = clash (has_label lts t) (kept t dead.within) dead.dead

kept_not_lost : (lts : System) (s : ℕ) → IsStateKept lts → IsFirstLost lts s → ⊥
kept_not_lost lts s (inl few) lost = let several = lost.several in omega (arith, few, several)
kept_not_lost lts s (inr kept) lost = clash (is_on_arc lts s) (kept s lost.within) lost.lost

-- ---- what the form holds

data Held : Type 0 where
  all : Held
  no_label : ℕ → Held
  no_state : ℕ → Held

data Holds (lts : System) : Target → Held → Type 0 where
  apt : Holds lts Apt all
  graph : IsLabelKept lts → IsStateKept lts → Holds lts Graph all
  dead : (t : ℕ) → IsFirstDead lts t → Holds lts Graph (no_label t)
  lost : (s : ℕ) → IsFirstLost lts s → Holds lts Graph (no_state s)

one_held : (lts : System) (target : Target) → TellsOne (Holds lts target)
one_held lts target a b h k = by target a b h k
  where
    by : (target : Target) (a b : Held) → Holds lts target a → Holds lts target b → a ≡ b
    by _ _ _ apt apt = refl
    by _ _ _ (graph l r) (graph l' r') = refl
    by _ _ _ (graph l r) (dead t is) = absurd (kept_not_dead lts t l is)
    by _ _ _ (graph l r) (lost q is) = absurd (kept_not_lost lts q r is)
    by _ _ _ (dead t is) (graph l r) = absurd (kept_not_dead lts t l is)
    by _ _ _ (dead t is) (dead u also) = ap no_label (first_once (has_label lts) t u is.dead is.before also.dead also.before)
    by _ _ _ (dead t is) (lost q also) = absurd (kept_not_dead lts t also.kept is)
    by _ _ _ (lost q is) (graph l r) = absurd (kept_not_lost lts q r is)
    by _ _ _ (lost q is) (dead t also) = absurd (kept_not_dead lts t is.kept also)
    by _ _ _ (lost q is) (lost r also) = ap no_state (first_once (is_on_arc lts) q r is.lost is.before also.lost also.before)

abbrev text_as : System → Target → List ℕ
text_as lts Apt = lts_text lts
text_as lts Graph = graph_text lts

abbrev end_of : System → Target → Held → End
end_of lts target all = says_yes (text_as lts target)
end_of lts target (no_label t) = says_no (lost_label_line lts t)
end_of lts target (no_state s) = says_no (lost_state_line lts s)

held : (lts : System) (target : Target) (e : End) → ConvertEnds lts target e → IsEndOf (Holds lts target) (end_of lts target) e
held lts _ _ (as_apt spelled) = (all, apt, refl)
held lts _ _ (as_graph l r again) = (all, graph l r, refl)
held lts _ _ (label_lost t is) = (no_label t, dead t is, refl)
held lts _ _ (state_lost q is) = (no_state q, lost q is, refl)

due : (lts : System) (target : Target) (s : Status) → ConvertIsDue lts target s → IsStatusOf (Holds lts target) (end_of lts target) s
due lts _ _ always = (all, apt, refl)
due lts _ _ (by_all l r) = (all, graph l r, refl)
due lts _ _ (by_label t is) = (no_label t, dead t is, refl)
due lts _ _ (by_state q is) = (no_state q, lost q is, refl)

pub convert_due : (lts : System) (target : Target) (e : End) (s : Status) → ConvertEnds lts target e → ConvertIsDue lts target s → HasStatus e s
convert_due lts target e s x y = due_end (Holds lts target) (end_of lts target) (one_held lts target) e s (held lts target e x) (due lts target s y)

pub convert_once : (lts : System) (target : Target) (e e' : End) → ConvertEnds lts target e → ConvertEnds lts target e' → e ≡ e'
convert_once lts target e e' x y = one_end (Holds lts target) (end_of lts target) (one_held lts target) e e' (held lts target e x) (held lts target e' y)
