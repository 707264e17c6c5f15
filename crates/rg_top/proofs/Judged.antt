-- How `verify` and `check` end for the bytes of the second file.
use Rattle.std.proofs.Common.{◌≢◌, ℕ, List, Option, refl, subst}
use Rattle.rg_ports.specs.Shelf.{Files}
use Rattle.rg_theory.specs.System.{System}
use Rattle.rg_theory.specs.declared.Class.{Class}
use Rattle.rg_lts.specs.WellFormed.{IsWellFormed}
use Rattle.rg_cert.specs.declared.fault.CertFault.{CertFault}
use Rattle.rg_cert.specs.declared.fault.CertFault.TheVariants.{NoMemory as LacksMemory}
use Rattle.rg_cert_data.specs.Certificates.{Claim}
use Rattle.rg_cert.specs.Spells.{Spells}
use Rattle.rg_cert.specs.Faults.{FirstFault}
use Rattle.rg_cert.proofs.OneClaim.{one_claim, not_both}
use Rattle.rg_verify.specs.declared.verdict.Defect.{Defect}
use Rattle.rg_verify.specs.declared.verdict.Defect.TheVariants.{WrongRow, NotPositive, LeftOver, NoContradiction, SumPasses, WrongForm, CaseMissing, NotSo}
use Rattle.rg_verify.specs.declared.verdict.Verdict.TheVariants.{Refused}
use Rattle.rg_verify.specs.Judged.{Holds, Judges}
use Rattle.rg_verify.proofs.OneVerdict.{refused_fails, left_in_range}
use Rattle.rg_messages.specs.JudgedTexts.{cert_fault_text, defect_text, refused_line, HasName}
use Rattle.rg_messages.specs.declared.fault.Fault.{Fault}
use Rattle.rg_messages.specs.declared.fault.Fault.TheVariants.{Missing, TooLong, Apt, Graph, Words, Net as OfNet}
use Rattle.rg_top.specs.Given.{IsFile, IsUnread}
use Rattle.rg_top.specs.Verify.{no_text, no_proof, VerifyEnds, accepted as ends_accepted, refused as ends_refused}
use Rattle.rg_top.specs.Check.{IsNetFile, IsNetFault, IsNoNet, CheckEnds, unread as ends_unread, yes as ends_yes, no as ends_no, passes as ends_passes}
use Rattle.rg_top.specs.Requests.{JudgesBytes, accepted, refused, TellsNet, yes, no, passes, TellsBytes, faulty, spelled}
use Rattle.rg_top.specs.End.{End, says_no}
use Rattle.rg_netfile.specs.Spells.{Spells as NetSpells}
use Rattle.rg_theory.specs.Net.{Net}

-- ---- certificates

-- the variable that is left over in a refused claim is the system's
pub has_name : (lts : System) (claim : Claim) (case node : ℕ) (defect : Defect) → Judges lts claim (Refused case node defect) → HasName lts defect
has_name lts claim case node (LeftOver v) judged = left_in_range lts claim case node v judged
has_name lts claim case node WrongRow judged = tt
has_name lts claim case node NotPositive judged = tt
has_name lts claim case node SumPasses judged = tt
has_name lts claim case node WrongForm judged = tt
has_name lts claim case node NoContradiction judged = tt
has_name lts claim case node CaseMissing judged = tt
has_name lts claim case node NotSo judged = tt

-- bytes that spell no certificate
pub no_certificate : (bytes : List ℕ) (lts : System) (fault : CertFault) → IsWellFormed lts → FirstFault bytes lts fault → fault ≢ LacksMemory
    → JudgesBytes bytes lts (says_no (refused_line (cert_fault_text fault)))
no_certificate bytes lts fault fine first real = refused (cert_fault_text fault) (λ claim spells holds. not_both bytes lts claim fault fine spells first) (no_text fault first real)

-- bytes that spell a certificate that doesn't hold
pub not_held : (bytes : List ℕ) (lts : System) (claim : Claim) (case node : ℕ) (defect : Defect) → IsWellFormed lts → Spells bytes lts claim
    → Judges lts claim (Refused case node defect) → JudgesBytes bytes lts (says_no (refused_line (defect_text lts case node defect)))
not_held bytes lts claim case node defect fine spells judged =
    refused (defect_text lts case node defect)
    (λ other also holds. refused_fails lts claim case node defect judged (subst (Holds lts) (one_claim bytes lts other claim fine also spells) holds))
    (no_proof claim case node defect spells judged)

-- what is answered to the bytes of the file is answered to the file
pub judged_file : (files : Option Files) (cert : List ℕ) (lts : System) (bytes : List ℕ) (e : End) → IsFile files cert bytes → JudgesBytes bytes lts e → VerifyEnds files cert lts e
judged_file files cert lts bytes _ file (accepted claim spells holds none) =
    ends_accepted claim.class (record { claim = claim; of_class = refl; given = record { bytes = bytes; file = file; spelled = spells }; holds = holds }) none
judged_file files cert lts bytes _ file (refused why none reason) =
    ends_refused (refused_line why) (record { bytes = bytes; file = file; none = none }) (record { bytes = bytes; file = file; why = why; reason = reason; line = refl })

-- ---- nets

pub unread_is_no_net : (files : Option Files) (name : List ℕ) (lts : System) (f : Fault) → IsUnread files name f → IsNoNet files name lts f
unread_is_no_net files name lts Missing h = h
unread_is_no_net files name lts TooLong h = h
unread_is_no_net files name lts (Apt f) h = absurd h
unread_is_no_net files name lts (Graph f) h = absurd h
unread_is_no_net files name lts (Words f) h = absurd h
unread_is_no_net files name lts (OfNet f) h = absurd h

faulty_is_no_net : (files : Option Files) (name : List ℕ) (lts : System) (bytes : List ℕ) (f : Fault) → IsFile files name bytes → IsNetFault bytes lts f → IsNoNet files name lts f
faulty_is_no_net files name lts bytes (OfNet f) file h = record { bytes = bytes; file = file; first = h }
faulty_is_no_net files name lts bytes Missing file h = absurd h
faulty_is_no_net files name lts bytes TooLong file h = absurd h
faulty_is_no_net files name lts bytes (Apt f) file h = absurd h
faulty_is_no_net files name lts bytes (Graph f) file h = absurd h
faulty_is_no_net files name lts bytes (Words f) file h = absurd h

told_net : (files : Option Files) (class : Class) (name : List ℕ) (lts : System) (bytes : List ℕ) (told : Net) (e : End)
    → IsFile files name bytes → NetSpells bytes lts told → TellsNet told class lts e → CheckEnds files class name lts e
told_net files class name lts bytes told _ file spells (yes judged solves in_class narrow) =
    let at : IsNetFile files name lts told = record { bytes = bytes; file = file; spelled = spells } in
    ends_yes (record { net = told; file = at; judged = judged }) (record { net = told; file = at; solves = solves; in_class = in_class; narrow = narrow })
told_net files class name lts bytes told _ file spells (no found judged wrong) =
    let at : IsNetFile files name lts told = record { bytes = bytes; file = file; spelled = spells } in
    ends_no found (record { net = told; file = at; judged = judged }) (record { net = told; file = at; wrong = wrong })
told_net files class name lts bytes told _ file spells (passes w judged) =
    let at : IsNetFile files name lts told = record { bytes = bytes; file = file; spelled = spells } in
    ends_passes w (record { net = told; file = at; judged = judged })

-- the end for the bytes of the file is that for the file
pub told_file : (files : Option Files) (class : Class) (name : List ℕ) (lts : System) (bytes : List ℕ) (e : End) → IsFile files name bytes
    → TellsBytes bytes class lts e → CheckEnds files class name lts e
told_file files class name lts bytes _ file (faulty fault h) = ends_unread fault (faulty_is_no_net files name lts bytes fault file h)
told_file files class name lts bytes _ file (spelled told e spells x) = told_net files class name lts bytes told e file spells x
