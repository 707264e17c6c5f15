-- How `synthesize CLASS FILE` ends where FILE spells a system.
use Rattle.std.specs.Prelude.{◌≡◌, ℕ, ◌≤◌, List, length}
use Rattle.rg_theory.specs.System.{System}
use Rattle.rg_theory.specs.Net.{Place, Net}
use Rattle.rg_theory.specs.declared.Class.{Class}
use Rattle.rg_theory.specs.Class.{NoNet}
use Rattle.rg_net.specs.NetText.{net_text}
use Rattle.rg_netfile.specs.Contents.{most_places}
use Rattle.rg_netfile.specs.Spells.{Spells as NetSpells}
use Rattle.rg_cert_meaning.specs.Refutes.{Reason, Accepts}
use Rattle.rg_case_folds.specs.Shown.{Shown, ShownWide}
use Rattle.rg_outcome.specs.Outcome.{Out, Answer.net as of_net, Answer.unsolvable as of_reason, Answer.too_wide as of_term}
use Rattle.rg_separate.specs.View.{shown_of}
use Rattle.rg_cert_data.specs.declared.wide_at.WideAt.{WideAt}
use Rattle.rg_cert.specs.Text.{cert_text}
use Rattle.rg_cert.specs.Spells.{Spells as CertificateSpells}
use Rattle.rg_synth.specs.Answer.{IsOpen, IsReason, IsSolvingNet}
use Rattle.rg_messages.specs.declared.wide.WideCause.TheVariants.{Synthesis}
use Rattle.rg_top.specs.End.{End, says_yes, says_no, shows_term}
use Rattle.rg_top.specs.Terms.{Term.of_net as of_net_term}
use Rattle.rg_top.specs.declared.status.Status.{Status}
use Rattle.rg_top.specs.declared.status.Status.TheVariants.{Done, No, TooWide}

-- the bytes are the text of the net that is the answer for the system and the class: it is of the class, solves the system, and
-- without any one of its places doesn't; they are read as that net where a net file may have so many places
pub record IsNetText (class : Class) (lts : System) (out : List ℕ) : Type 0 where
  pub net : Net
  pub answer : Out lts class (of_net net.places)
  pub right : IsSolvingNet lts class net
  pub text : out ≡ net_text net lts
  pub spelled : length net.places ≤ most_places → NetSpells out lts net

-- the bytes are the text of the certificate with the reason that is the answer for the system and the class; it holds, no net of
-- the class solves the system, and the bytes are read as it
pub record IsCertificateText (class : Class) (lts : System) (out : List ℕ) : Type 0 where
  pub reason : Reason
  pub answer : Out lts class (of_reason reason)
  pub is : IsReason lts reason
  pub holds : Accepts lts class reason
  pub none : NoNet lts class
  pub text : out ≡ cert_text (record { class = class; reason = reason }) lts
  pub spelled : CertificateSpells out lts (record { class = class; reason = reason })

-- a number that passes in the work on the system for the class, in its stated order; it is the answer for them
pub record IsShownFor (class : Class) (lts : System) (w : Shown) : Type 0 where
  pub is_open : IsOpen lts
  pub passes : ShownWide lts class w
  pub answer : Out lts class (of_term w)

-- the end is that of the one answer: a net, a certificate or a term
pub data SynthesizeEnds (class : Class) (lts : System) : End → Type 0 where
  a_net : (out : List ℕ) → IsNetText class lts out → SynthesizeEnds class lts (says_yes out)
  a_certificate : (out : List ℕ) → IsCertificateText class lts out → SynthesizeEnds class lts (says_no out)
  a_term : (w : Shown) → IsShownFor class lts w → SynthesizeEnds class lts (shows_term (of_net_term w))

-- when each status is expected: as the one answer is a net, a reason or a term
pub data SynthesizeIsDue (class : Class) (lts : System) : Status → Type 0 where
  by_net : (places : List Place) → Out lts class (of_net places) → SynthesizeIsDue class lts Done
  by_reason : (reason : Reason) → Out lts class (of_reason reason) → SynthesizeIsDue class lts No
  by_term : (at : WideAt) → Out lts class (of_term (shown_of at)) → SynthesizeIsDue class lts (TooWide (Synthesis at))
