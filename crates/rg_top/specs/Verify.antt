-- How `verify FILE CERT` ends where FILE spells a system.
use Rattle.std.specs.Prelude.{◌≡◌, ◌≢◌, ℕ, List, Option}
use Rattle.rg_ports.specs.Shelf.{Files}
use Rattle.rg_theory.specs.System.{System}
use Rattle.rg_theory.specs.Class.{NoNet}
use Rattle.rg_theory.specs.declared.Class.{Class}
use Rattle.rg_cert_data.specs.Certificates.{Claim}
use Rattle.rg_cert.specs.declared.fault.CertFault.{CertFault}
use Rattle.rg_cert.specs.declared.fault.CertFault.TheVariants.{NoMemory}
use Rattle.rg_cert.specs.Spells.{Spells}
use Rattle.rg_cert.specs.Faults.{FirstFault}
use Rattle.rg_verify.specs.declared.verdict.Defect.{Defect}
use Rattle.rg_verify.specs.declared.verdict.Verdict.TheVariants.{Refused}
use Rattle.rg_verify.specs.Judged.{Holds, Judges}
use Rattle.rg_messages.specs.JudgedTexts.{accepted_line, cert_fault_text, defect_text, refused_line}
use Rattle.rg_messages.specs.declared.fault.Fault.{Fault}
use Rattle.rg_top.specs.Given.{IsFile, IsUnread}
use Rattle.rg_top.specs.Second.{second_fault}
use Rattle.rg_top.specs.End.{End, says_yes, says_no, refuses_file}
use Rattle.rg_top.specs.declared.status.Status.{Status}
use Rattle.rg_top.specs.declared.status.Status.TheVariants.{Done, No, File}

-- the file spells a certificate with the claim for the system
pub record HoldsCertificate (files : Option Files) (name : List ℕ) (lts : System) (claim : Claim) : Type 0 where
  pub bytes : List ℕ
  pub file : IsFile files name bytes
  pub spelled : Spells bytes lts claim

-- the file spells a certificate of the class that holds
pub record IsAccepted (files : Option Files) (name : List ℕ) (lts : System) (class : Class) : Type 0 where
  pub claim : Claim
  pub of_class : class ≡ claim.class
  pub given : HoldsCertificate files name lts claim
  pub holds : Holds lts claim

-- the file spells no certificate that holds
pub record IsNotAccepted (files : Option Files) (name : List ℕ) (lts : System) : Type 0 where
  pub bytes : List ℕ
  pub file : IsFile files name bytes
  pub none : (claim : Claim) → Spells bytes lts claim → ¬ Holds lts claim

-- why: the first fault of the text, or the judge's verdict
pub data IsRefusedFor (bytes : List ℕ) (lts : System) : List ℕ → Type 0 where
  no_text : (fault : CertFault) → FirstFault bytes lts fault → fault ≢ NoMemory → IsRefusedFor bytes lts (cert_fault_text fault)
  no_proof : (claim : Claim) (case node : ℕ) (defect : Defect) → Spells bytes lts claim
      → Judges lts claim (Refused case node defect) → IsRefusedFor bytes lts (defect_text lts case node defect)

-- the file spells no certificate that holds, and the line says why
pub record IsRefused (files : Option Files) (name : List ℕ) (lts : System) (out : List ℕ) : Type 0 where
  pub bytes : List ℕ
  pub file : IsFile files name bytes
  pub why : List ℕ
  pub reason : IsRefusedFor bytes lts why
  pub line : out ≡ refused_line why

-- the end is that of the file: it isn't read, or its certificate holds or doesn't
pub data VerifyEnds (files : Option Files) (cert : List ℕ) (lts : System) : End → Type 0 where
  unread : (fault : Fault) → IsUnread files cert fault → VerifyEnds files cert lts (refuses_file (second_fault fault))
  accepted : (class : Class) → IsAccepted files cert lts class → NoNet lts class → VerifyEnds files cert lts (says_yes (accepted_line class))
  refused : (out : List ℕ) → IsNotAccepted files cert lts → IsRefused files cert lts out → VerifyEnds files cert lts (says_no out)

-- when each status is expected
pub data VerifyIsDue (files : Option Files) (cert : List ℕ) (lts : System) : Status → Type 0 where
  by_no_file : (fault : Fault) → IsUnread files cert fault → VerifyIsDue files cert lts (File (second_fault fault))
  by_proof : (class : Class) → IsAccepted files cert lts class → VerifyIsDue files cert lts Done
  by_no_proof : IsNotAccepted files cert lts → VerifyIsDue files cert lts No
