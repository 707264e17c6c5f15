-- How `split FILE` ends where FILE spells a system.
use Rattle.std.specs.Prelude.{◌≡◌, ℕ, ◌≤◌, List, length}
use Rattle.rg_theory.specs.System.{System, labels, IsLeastUnreachable}
use Rattle.rg_theory.specs.Limits.{most_labels}
use Rattle.rg_checks.specs.declared.flaw.Flaw.TheVariants.{Unreachable}
use Rattle.rg_theory.specs.Net.{Place, Net}
use Rattle.rg_theory.specs.Solves.{Solves}
use Rattle.rg_theory.specs.Class.{NoNet}
use Rattle.rg_theory.specs.ClassWords.{no_condition}
use Rattle.rg_netfile.specs.Contents.{most_places}
use Rattle.rg_netfile.specs.LabelledTexts.{named_labels, labelled_text, without_options}
use Rattle.rg_netfile.specs.Spells.{Spells as NetSpells}
use Rattle.rg_apt.specs.Plain.{lts_text}
use Rattle.rg_apt.specs.Spells.{Spells}
use Rattle.rg_cert_meaning.specs.Refutes.{Reason}
use Rattle.rg_case_folds.specs.Shown.{Shown, ShownWide}
use Rattle.rg_separate.specs.View.{shown_of}
use Rattle.rg_cert_data.specs.declared.wide_at.WideAt.{WideAt}
use Rattle.rg_synth.specs.Answer.{IsOpen, IsSolvingNet}
use Rattle.rg_split.specs.Labelled.{SolvesLabelled}
use Rattle.rg_split.specs.Rounds.{Labelling, labelling, itself, Splitting.done as done, Splitting.full as full, Splitting.too_wide as passes, SplitsTo}
use Rattle.rg_split.specs.Round.{IsToldApart}
use Rattle.rg_commands.specs.declared.splitting.SplitOutput.{SplitOutput}
use Rattle.rg_commands.specs.declared.splitting.SplitOutput.TheVariants as output
use Rattle.rg_messages.specs.FlawTexts.{flaw_line}
use Rattle.rg_messages.specs.SplitTexts.{full_line}
use Rattle.rg_messages.specs.declared.wide.WideCause.TheVariants.{Split}
use Rattle.rg_top.specs.End.{End, says_yes, says_no, shows_term}
use Rattle.rg_top.specs.Terms.{of_split}
use Rattle.rg_top.specs.declared.status.Status.{Status}
use Rattle.rg_top.specs.declared.status.Status.TheVariants.{Done, No, TooWide}

-- the rounds that split the labels of the file's system end with this system, which the net solves: with each transition named by its old
-- label, the net's reachability graph is the file's system. Where some net solves the file's system, no label is split
pub record IsSolvedBy (lts : System) (now : Labelling) (net : Net) : Type 0 where
  pub comes : SplitsTo lts (done now net.places)
  pub apart : IsToldApart lts now
  pub right : IsSolvingNet now.system no_condition net
  pub labelled : SolvesLabelled net now.old lts
  pub at_once : (other : Net) → Solves other lts → now ≡ itself lts

-- the text of the net, each transition with its label of the file's system
abbrev pub labelled_net_text : System → Labelling → Net → List ℕ
labelled_net_text lts now net = labelled_text net now.system (named_labels lts now.old)

-- the bytes are that text of a net, and without what is in brackets they are read as that net where a net file may have so many places
pub record IsLabelledText (lts : System) (out : List ℕ) : Type 0 where
  pub now : Labelling
  pub net : Net
  pub solved : IsSolvedBy lts now net
  pub text : out ≡ labelled_net_text lts now net
  pub spelled : length net.places ≤ most_places → NetSpells (without_options out) now.system net

-- the bytes are the text of the system with its labels split, and are read as it
pub record IsSplitText (lts : System) (out : List ℕ) : Type 0 where
  pub now : Labelling
  pub net : Net
  pub solved : IsSolvedBy lts now net
  pub text : out ≡ lts_text now.system
  pub spelled : Spells out now.system

-- what is written where a net solves the system with its labels split
abbrev pub solved_text : System → Labelling → Net → SplitOutput → List ℕ
solved_text lts now net output.Net = labelled_net_text lts now net
solved_text lts now net output.System = lts_text now.system

-- the rounds end with a system with 256 labels, and no net solves it
pub record IsFull (lts : System) : Type 0 where
  pub now : Labelling
  pub reason : Reason
  pub comes : SplitsTo lts (full now reason)
  pub apart : IsToldApart lts now
  pub all : labels now.system ≡ most_labels
  pub none : NoNet now.system no_condition

-- a number is out of range in the work on the system with its labels split
pub record IsWideFor (lts system : System) (w : Shown) : Type 0 where
  pub old : List ℕ
  pub comes : SplitsTo lts (passes (labelling system old) w)
  pub apart : IsToldApart lts (labelling system old)
  pub is_open : IsOpen system
  pub shown : ShownWide system no_condition w

-- the end is that of the result of the rounds: a net, a state or a full system, or a term
pub data SplitEnds (lts : System) : SplitOutput → End → Type 0 where
  a_net : (out : List ℕ) → IsLabelledText lts out → SplitEnds lts output.Net (says_yes out)
  a_system : (out : List ℕ) → IsSplitText lts out → SplitEnds lts output.System (says_yes out)
  a_state : {wanted : SplitOutput} (s : ℕ) → IsLeastUnreachable lts s → SplitEnds lts wanted (says_no (flaw_line lts (Unreachable s)))
  no_room : {wanted : SplitOutput} → IsFull lts → SplitEnds lts wanted (says_no full_line)
  a_term : {wanted : SplitOutput} (system : System) (w : Shown) → IsWideFor lts system w → SplitEnds lts wanted (shows_term (of_split system w))

-- when each status is expected: as the result of the rounds is a net, a state or a full system, or a term
pub data SplitIsDue (lts : System) : Status → Type 0 where
  for_a_net : (now : Labelling) (places : List Place) → SplitsTo lts (done now places) → SplitIsDue lts Done
  for_a_state : (s : ℕ) → IsLeastUnreachable lts s → SplitIsDue lts No
  for_room : (now : Labelling) (reason : Reason) → SplitsTo lts (full now reason) → SplitIsDue lts No
  for_a_term : (system : System) (old : List ℕ) (at : WideAt) → SplitsTo lts (passes (labelling system old) (shown_of at)) → SplitIsDue lts (TooWide (Split system at))
