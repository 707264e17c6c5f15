-- What the answer for a system and a class is, and what each kind of answer says.
use Rattle.std.specs.Prelude.{◌≡◌, ℕ, ◌<◌, ◌≤◌, List, length, All}
use Rattle.rg_theory.specs.System.{System, IsAllReachable, IsLeastUnreachable, IsLeastFork}
use Rattle.rg_checks.specs.Flaws.{IsFlawless}
pub use Rattle.rg_checks.specs.Flaws.{IsFlawless as IsOpen}
use Rattle.rg_theory.specs.Net.{Net, Place}
use Rattle.rg_theory.specs.Solves.{Solves}
use Rattle.rg_theory.specs.declared.Class.{Class}
use Rattle.rg_theory.specs.Class.{IsBounded, InClass, NoNet}
use Rattle.rg_net.specs.Range.{IsNetInRange}
use Rattle.rg_integers.specs.Range.{greatest}
use Rattle.rg_theory.specs.Pruned.{net_without}
use Rattle.rg_cert_meaning.specs.Refutes.{Reason, Reason.unreachable, Reason.fork, Reason.refuted, Accepts}
use Rattle.rg_cert_data.specs.declared.certificate.Certificate.{Certificate}
use Rattle.rg_cert_data.specs.Certificates.{reason_of, IsCertificateOf}
use Rattle.rg_theory.specs.ClassWords.{no_condition}
use Rattle.rg_outcome.specs.Outcome as outcome
use Rattle.rg_outcome.specs.Outcome.{Out}
use Rattle.rg_blocks.specs.Problems.{most_problems}
use Rattle.rg_separate.specs.Keeping.{IsKept}
use Rattle.rg_separate.specs.View.{shown_of}
use Rattle.rg_cert_data.specs.declared.wide_at.WideAt.{WideAt}
use Rattle.rg_synth.specs.declared.answer.Answer.{Answer}
use Rattle.rg_synth.specs.declared.answer.Answer.TheVariants.{Net as OfNet, Unsolvable, TooWide}

-- the places of the net, the reason of the certificate, or the term
abbrev pub answer_of : Answer → outcome.Answer
answer_of (OfNet net) = outcome.Answer.net net.places
answer_of (Unsolvable cert) = outcome.Answer.unsolvable (reason_of cert.reason)
answer_of (TooWide w) = outcome.Answer.too_wide (shown_of w)

-- the fact holds of the net, of the certificate, of the term
abbrev pub IfNet : Answer → (Net → Type 0) → Type 0
IfNet (OfNet net) P = P net
IfNet _ P = Unit {0}

abbrev pub IfUnsolvable : Answer → (Certificate → Type 0) → Type 0
IfUnsolvable (Unsolvable cert) P = P cert
IfUnsolvable _ P = Unit {0}

abbrev pub IfTooWide : Answer → (WideAt → Type 0) → Type 0
IfTooWide (TooWide w) P = P w
IfTooWide _ P = Unit {0}

-- why no net of the class solves the system: the least unreachable state, else the first fork, else a problem
abbrev pub IsReason : System → Reason → Type 0
IsReason lts (unreachable s) = IsLeastUnreachable lts s
IsReason lts (fork s t s₁ s₂) = IsAllReachable lts × IsLeastFork lts s t s₁ s₂
IsReason lts (refuted problem trees) = IsFlawless lts

-- the net, whose labels are those of the system, is of the class and solves the system, and without any one of its places doesn't;
-- it has at most one place for each problem;
-- no number of the net or of a reachable marking is above 2^127 - 1
pub record IsSolvingNet (lts : System) (class : Class) (net : Net) : Type 0 where
  pub in_range : IsNetInRange net
  pub solves : Solves net lts
  pub in_class : InClass net class
  pub irredundant : (i : ℕ) → i < length net.places → ¬ Solves (net_without net i) lts
  pub few : length net.places ≤ most_problems lts
  pub narrow : IsBounded net greatest

-- the certificate is of the class, and its reason holds; no net of the class solves the system; its trees are whole, and its numbers
-- are in range
pub record IsRightCertificate (lts : System) (class : Class) (cert : Certificate) : Type 0 where
  pub of_class : cert.class ≡ class
  pub is : IsReason lts (reason_of cert.reason)
  pub holds : Accepts lts class (reason_of cert.reason)
  pub none : NoNet lts class
  pub in_range : IsCertificateOf lts cert

-- the answer for all nets is this certificate's reason, the certificate is right, and the places are regions
pub record IsRightRefusal (lts : System) (cert : Certificate) (found : List Place) : Type 0 where
  pub out : Out lts no_condition (outcome.Answer.unsolvable (reason_of cert.reason))
  pub right : IsRightCertificate lts no_condition cert
  pub places : All (IsKept lts) found

-- the answer for all nets is no reason
abbrev pub IsUnrefused : System → Type 0
IsUnrefused lts = (reason : Reason) → ¬ Out lts no_condition (outcome.Answer.unsolvable reason)
