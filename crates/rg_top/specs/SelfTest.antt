-- How `selftest N` ends.
use Rattle.std.specs.Prelude.{◌⊎◌, ℕ, min, List, [], ◌∷◌, ◌++◌, length}
use Rattle.rg_theory.specs.System.{System}
use Rattle.rg_theory.specs.Net.{Place, Net}
use Rattle.rg_theory.specs.declared.Class.{Class}
use Rattle.rg_theory.specs.declared.class_words.Condition.TheVariants.{Pure, Plain, Bounded}
use Rattle.rg_theory.specs.ClassWords.{no_condition, with_conditions}
use Rattle.rg_theory.specs.Class.{NoNet}
use Rattle.rg_families.specs.declared.Kind.{Kind}
use Rattle.rg_families.specs.declared.Kind.TheVariants.{Grid, Doubling, Lock}
use Rattle.rg_families.specs.Families.{IsOfFamily}
use Rattle.rg_cert_meaning.specs.Refutes.{Reason, Accepts}
use Rattle.rg_case_folds.specs.Shown.{Shown}
use Rattle.rg_outcome.specs.Outcome.{Out, Answer, Answer.net as of_net, Answer.unsolvable as of_reason, Answer.too_wide as of_term}
use Rattle.rg_separate.specs.View.{shown_of}
use Rattle.rg_cert_data.specs.declared.wide_at.WideAt.{WideAt}
use Rattle.rg_synth.specs.Answer.{IsReason, IsSolvingNet}
use Rattle.rg_messages.specs.CheckedTexts.{yes_line}
use Rattle.rg_messages.specs.TrialTexts.{solved_line, unsolvable_line}
use Rattle.rg_messages.specs.declared.wide.WideCause.TheVariants.{Synthesis}
use Rattle.rg_top.specs.Synthesize.{IsShownFor}
use Rattle.rg_top.specs.End.{End, says_yes, shows_term}
use Rattle.rg_top.specs.Terms.{Term.of_net as of_net_term}
use Rattle.rg_top.specs.declared.status.Status.{Status}
use Rattle.rg_top.specs.declared.status.Status.TheVariants.{Done, TooWide}

-- a trial: the system of a family for a number, and the class in which a net is looked for
pub record Trial : Type 0 where
  pub kind : Kind
  pub number : ℕ
  pub class : Class

abbrev pub trial : Kind → ℕ → Class → Trial
trial kind n class = record { kind = kind; number = n; class = class }

-- the most users of the lock of a self test
abbrev pub most_users : ℕ
most_users = 2

-- the class in which a lock is solved: pure, plain and safe nets
abbrev pub lock_class : Class
lock_class = with_conditions no_condition (Pure ∷ Plain ∷ Bounded 1 ∷ [])

-- the three trials of a self test, in order: the grid and the doublings of the number in the class of all nets, and a lock
abbrev pub grid_trial : ℕ → Trial
grid_trial n = trial Grid n no_condition

abbrev pub doubling_trial : ℕ → Trial
doubling_trial n = trial Doubling n no_condition

abbrev pub lock_trial : ℕ → Trial
lock_trial n = trial Lock (min n most_users) lock_class

-- the line of a trial: its system has a net of the class, of which `check` says yes, or a reason that there is none, in a certificate
-- that `verify` accepts; either is the answer for the system and the class
pub data HasLine (t : Trial) : List ℕ → Type 0 where
  solved : (lts : System) (net : Net) → IsOfFamily t.kind t.number lts → Out lts t.class (of_net net.places) → IsSolvingNet lts t.class net
      → HasLine t (solved_line t.kind t.number lts (length net.places) yes_line)
  unsolvable : (lts : System) (reason : Reason) → IsOfFamily t.kind t.number lts → Out lts t.class (of_reason reason) → IsReason lts reason
      → Accepts lts t.class reason → NoNet lts t.class → HasLine t (unsolvable_line t.kind t.number lts reason)

-- the number that passes in the work on the trial's system
pub record Passes (t : Trial) (w : Shown) : Type 0 where
  pub lts : System
  pub of_family : IsOfFamily t.kind t.number lts
  pub shown : IsShownFor t.class lts w

-- the end is the three lines, or the number that passes in the first trial that has no line
pub data SelfTestEnds (n : ℕ) : End → Type 0 where
  three_lines : (first second third : List ℕ) → HasLine (grid_trial n) first → HasLine (doubling_trial n) second → HasLine (lock_trial n) third
      → SelfTestEnds n (says_yes (first ++ (second ++ third)))
  first_passes : (w : Shown) → Passes (grid_trial n) w → SelfTestEnds n (shows_term (of_net_term w))
  second_passes : (first : List ℕ) (w : Shown) → HasLine (grid_trial n) first → Passes (doubling_trial n) w → SelfTestEnds n (shows_term (of_net_term w))
  third_passes : (first second : List ℕ) (w : Shown) → HasLine (grid_trial n) first → HasLine (doubling_trial n) second → Passes (lock_trial n) w
      → SelfTestEnds n (shows_term (of_net_term w))

-- the answer for the trial's system and its class
pub record HasAnswer (t : Trial) (a : Answer) : Type 0 where
  pub lts : System
  pub of_family : IsOfFamily t.kind t.number lts
  pub answer : Out lts t.class a

-- it is a net or a reason, or this term
abbrev pub IsConclusive : Trial → Type 0
IsConclusive t = ((places : List Place) × HasAnswer t (of_net places)) ⊎ ((reason : Reason) × HasAnswer t (of_reason reason))

abbrev pub IsTerm : Trial → Shown → Type 0
IsTerm t w = HasAnswer t (of_term w)

-- the first of the three answers that is neither a net nor a reason is this term
abbrev pub TrialsPass : ℕ → Shown → Type 0
TrialsPass n w =
    IsTerm (grid_trial n) w
    ⊎ (IsConclusive (grid_trial n) × IsTerm (doubling_trial n) w)
    ⊎ (IsConclusive (grid_trial n) × IsConclusive (doubling_trial n) × IsTerm (lock_trial n) w)

-- all three answers are nets and reasons
abbrev pub AreConclusive : ℕ → Type 0
AreConclusive n = IsConclusive (grid_trial n) × IsConclusive (doubling_trial n) × IsConclusive (lock_trial n)

-- when each status is expected: as the answers are nets and reasons, or the first that isn't is a term
pub data SelfTestIsDue (n : ℕ) : Status → Type 0 where
  by_answers : AreConclusive n → SelfTestIsDue n Done
  by_term : (at : WideAt) → TrialsPass n (shown_of at) → SelfTestIsDue n (TooWide (Synthesis at))
