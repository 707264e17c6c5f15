-- `verify` ends in one way for a system and a file.
use Rattle.std.proofs.Common.{◌≡◌, ℕ, List, Some, refl, sym, ap, subst, ◌∙◌}
use Rattle.rg_ports.specs.Shelf.{Files}
use Rattle.rg_theory.specs.System.{System}
use Rattle.rg_theory.specs.declared.Class.{Class}
use Rattle.rg_lts.specs.WellFormed.{IsWellFormed}
use Rattle.rg_cert_data.specs.Certificates.{Claim}
use Rattle.rg_cert.specs.declared.fault.CertFault.{CertFault}
use Rattle.rg_cert.specs.Spells.{Spells}
use Rattle.rg_cert.specs.Faults.{FirstFault}
use Rattle.rg_verify.specs.declared.verdict.Defect.{Defect}
use Rattle.rg_verify.specs.declared.verdict.Verdict.{Verdict}
use Rattle.rg_verify.specs.declared.verdict.Verdict.TheVariants.{Accepted, Refused}
use Rattle.rg_verify.specs.Judged.{Judges}
use Rattle.rg_messages.specs.JudgedTexts.{accepted_line, cert_fault_text, defect_text, refused_line}
use Rattle.rg_messages.specs.declared.fault.Fault.{Fault}
use Rattle.rg_top.specs.Given.{IsUnread}
use Rattle.rg_top.specs.Second.{second_fault}
use Rattle.rg_top.specs.Verify.{IsAccepted, IsNotAccepted, IsRefusedFor, no_text, no_proof, IsRefused, VerifyEnds, unread, accepted, refused}
use Rattle.rg_top.specs.Verify.{VerifyIsDue, by_no_file, by_proof, by_no_proof}
use Rattle.rg_top.specs.End.{End, says_yes, says_no, refuses_file, HasStatus}
use Rattle.rg_top.specs.declared.status.Status.{Status}
use Rattle.rg_top.specs.declared.status.Status.TheVariants.{File}
use Rattle.rg_top.proofs.OneFile.{same_bytes, unread_or_there, one_unread}

-- a text spells one claim or has one first fault, and a claim has one verdict
pub record OneJudgement : Type 0 where
  pub one_claim : (bytes : List ℕ) (lts : System) (a b : Claim) → IsWellFormed lts → Spells bytes lts a → Spells bytes lts b → a ≡ b
  pub one_fault : (bytes : List ℕ) (lts : System) (d e : CertFault) → FirstFault bytes lts d → FirstFault bytes lts e → d ≡ e
  pub not_both : (bytes : List ℕ) (lts : System) (claim : Claim) (fault : CertFault) → IsWellFormed lts → Spells bytes lts claim → ¬ FirstFault bytes lts fault
  pub one_verdict : (lts : System) (claim : Claim) (v w : Verdict) → Judges lts claim v → Judges lts claim w → v ≡ w

-- ---- why a certificate is refused

abbrev defect_words : System → Verdict → List ℕ
defect_words lts (Refused case node defect) = defect_text lts case node defect
defect_words lts Accepted = defect_text lts 0 0 Defect.NotSo

one_why : OneJudgement → (bytes : List ℕ) (lts : System) (a b : List ℕ) → IsWellFormed lts → IsRefusedFor bytes lts a → IsRefusedFor bytes lts b → a ≡ b
one_why one bytes lts a b formed (no_text f first real) (no_text g first' real') = ap cert_fault_text (one.one_fault bytes lts f g first first')
one_why one bytes lts a b formed (no_text f first real) (no_proof claim case node defect spelled judged) = absurd (one.not_both bytes lts claim f formed spelled first)
one_why one bytes lts a b formed (no_proof claim case node defect spelled judged) (no_text f first real) = absurd (one.not_both bytes lts claim f formed spelled first)
one_why one bytes lts a b formed (no_proof claim case node defect spelled judged) (no_proof other case' node' defect' spelled' judged') =
    let same = one.one_claim bytes lts other claim formed spelled' spelled in
    ap (defect_words lts) (one.one_verdict lts claim (Refused case node defect) (Refused case' node' defect') judged (subst (λ c. Judges lts c (Refused case' node' defect')) same judged'))

-- ---- the three ends exclude each other

there_not_accepted : (files : Files) (cert : List ℕ) (lts : System) (class : Class) → IsAccepted (Some files) cert lts class → IsNotAccepted (Some files) cert lts → ⊥
there_not_accepted files cert lts class h k =
    let same = same_bytes files cert h.given.bytes k.bytes h.given.file k.file in
    k.none h.claim (subst (λ b. Spells b lts h.claim) same h.given.spelled) h.holds

unread_not_accepted : (files : Files) (cert : List ℕ) (lts : System) (class : Class) (fault : Fault) → IsUnread (Some files) cert fault → IsAccepted (Some files) cert lts class → ⊥
unread_not_accepted files cert lts class fault h k = unread_or_there files cert k.given.bytes fault h k.given.file

unread_not_refused : (files : Files) (cert : List ℕ) (lts : System) (fault : Fault) → IsUnread (Some files) cert fault → IsNotAccepted (Some files) cert lts → ⊥
unread_not_refused files cert lts fault h k = unread_or_there files cert k.bytes fault h k.file

pub verify_due : (files : Files) (cert : List ℕ) (lts : System) (e : End) (s : Status) → VerifyEnds (Some files) cert lts e → VerifyIsDue (Some files) cert lts s → HasStatus e s
verify_due files cert lts _ _ (unread f h) (by_no_file g k) = ap (λ x. File (second_fault x)) (one_unread files cert g f k h)
verify_due files cert lts _ _ (unread f h) (by_proof class k) = absurd (unread_not_accepted files cert lts class f h k)
verify_due files cert lts _ _ (unread f h) (by_no_proof k) = absurd (unread_not_refused files cert lts f h k)
verify_due files cert lts _ _ (accepted class h nets) (by_no_file g k) = absurd (unread_not_accepted files cert lts class g k h)
verify_due files cert lts _ _ (accepted class h nets) (by_proof other k) = refl
verify_due files cert lts _ _ (accepted class h nets) (by_no_proof k) = absurd (there_not_accepted files cert lts class h k)
verify_due files cert lts _ _ (refused text h why) (by_no_file g k) = absurd (unread_not_refused files cert lts g k h)
verify_due files cert lts _ _ (refused text h why) (by_proof class k) = absurd (there_not_accepted files cert lts class k h)
verify_due files cert lts _ _ (refused text h why) (by_no_proof k) = refl

-- ---- the bytes

one_class : OneJudgement → (files : Files) (cert : List ℕ) (lts : System) (a b : Class) → IsWellFormed lts → IsAccepted (Some files) cert lts a → IsAccepted (Some files) cert lts b → a ≡ b
one_class one files cert lts a b formed h k =
    let same = same_bytes files cert h.given.bytes k.given.bytes h.given.file k.given.file in
    let claims = one.one_claim k.given.bytes lts h.claim k.claim formed (subst (λ x. Spells x lts h.claim) same h.given.spelled) k.given.spelled in
    h.of_class ∙ ap (λ (c : Claim). c.class) claims ∙ sym k.of_class

one_line : OneJudgement → (files : Files) (cert : List ℕ) (lts : System) (a b : List ℕ) → IsWellFormed lts → IsRefused (Some files) cert lts a → IsRefused (Some files) cert lts b → a ≡ b
one_line one files cert lts a b formed h k =
    let same = same_bytes files cert h.bytes k.bytes h.file k.file in
    h.line ∙ ap refused_line (one_why one k.bytes lts h.why k.why formed (subst (λ x. IsRefusedFor x lts h.why) same h.reason) k.reason) ∙ sym k.line

pub verify_once : OneJudgement → (files : Files) (cert : List ℕ) (lts : System) (e e' : End) → IsWellFormed lts → VerifyEnds (Some files) cert lts e → VerifyEnds (Some files) cert lts e' → e ≡ e'
verify_once one files cert lts _ _ formed (unread f h) (unread g k) = ap (λ x. refuses_file (second_fault x)) (one_unread files cert f g h k)
verify_once one files cert lts _ _ formed (unread f h) (accepted class k nets) = absurd (unread_not_accepted files cert lts class f h k)
verify_once one files cert lts _ _ formed (unread f h) (refused text k why) = absurd (unread_not_refused files cert lts f h k)
verify_once one files cert lts _ _ formed (accepted class h nets) (unread g k) = absurd (unread_not_accepted files cert lts class g k h)
verify_once one files cert lts _ _ formed (accepted class h nets) (accepted other k nets') = ap (λ c. says_yes (accepted_line c)) (one_class one files cert lts class other formed h k)
verify_once one files cert lts _ _ formed (accepted class h nets) (refused text k why) = absurd (there_not_accepted files cert lts class h k)
verify_once one files cert lts _ _ formed (refused text h why) (unread g k) = absurd (unread_not_refused files cert lts g k h)
verify_once one files cert lts _ _ formed (refused text h why) (accepted class k nets) = absurd (there_not_accepted files cert lts class k h)
verify_once one files cert lts _ _ formed (refused text h why) (refused text' k why') = ap says_no (one_line one files cert lts text text' formed why why')
