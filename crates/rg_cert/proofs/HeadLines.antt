-- The first three lines of a text.
use Rattle.std.proofs.Common.{◌≡◌, ℕ, List, [], ◌∷◌, ◌++◌, codes, map, All, refl, sym, ap, subst, ◌∙◌}
use Rattle.std.specs.List.{flat_map}
use Rattle.rg_text.specs.Line.{fed}
use Rattle.rg_theory.specs.System.{System}
use Rattle.rg_theory.specs.declared.Class.{Class}
use Rattle.rg_theory.specs.ClassWords.{NamesClass}
use Rattle.rg_theory.proofs.ClassBytes.{named_bound}
use Rattle.rg_lts.specs.WellFormed.{IsWellFormed}
use Rattle.rg_cert.specs.declared.fault.CertFault.{CertFault}
use Rattle.rg_cert.specs.declared.fault.CertFault.TheVariants.{Expected}
use Rattle.rg_cert_data.specs.declared.certificate.Certificate.{Certificate}
use Rattle.rg_cert_data.specs.declared.certificate.Reason.{Reason}
use Rattle.rg_cert_data.specs.Certificates.{claim_of, reason_of, IsClaimOf, IsCertificateOf}
use Rattle.rg_cert.specs.Text.{Version, heading, spaced, cert_lines, text_with}
use Rattle.rg_cert.specs.Spells.{Spells}
use Rattle.rg_cert.specs.Lines.{at_heading, at_class, at_reason}
use Rattle.rg_cert.specs.Faults.{BreaksAt, FaultFrom, FirstFault}
use Rattle.rg_cert.specs.Drafts.{Head, head_fields, IsHeadOf, after_head, IsClassIn, IsHeadLine, nodes_lines, IsCase, AreCasesOf}
use Rattle.rg_cert.specs.View.{reason_head, reason_cases}
use Rattle.rg_cert.proofs.Walks.{start, fault_before}
use Rattle.rg_cert.proofs.Canonical.{lead_of, heading_leads, class_leads, head_leads}
use Rattle.rg_cert.proofs.WholeReasons.{whole_cases, reason_in_range, lines_of_reason, reason_fits}
use Rattle.rg_cert.proofs.SomeAnswer.{claim_fits}

-- the second line breaks off
pub fault_two : (bytes : List ℕ) (lts : System) (version : Version) (rest : List ℕ) (fault : CertFault) → bytes ≡ spaced (heading version) ++ 10 ∷ rest
    → (fault ≡ Expected 2) × BreaksAt (at_class version) rest → FirstFault bytes lts fault
fault_two bytes lts version rest fault is h =
    subst (FaultFrom lts at_heading bytes 1) (sym h.0)
    (fault_before lts at_heading (spaced (heading version)) (at_class version) bytes rest 1 (Expected 2) is (lead_of lts at_heading (heading version) (at_class version) (heading_leads lts version))
    (record { before = []; position = at_class version; rest = rest; goes_on = start lts (at_class version) rest; is = (refl, h.1) }))

-- a fault from the third line on
pub fault_three : (bytes : List ℕ) (lts : System) (version : Version) (name : List ℕ) (class : Class) (after rest : List ℕ) (fault : CertFault)
    → bytes ≡ spaced (heading version) ++ 10 ∷ after → NamesClass name class → IsClassIn version class → after ≡ (codes "class " ++ name) ++ 10 ∷ rest
    → FaultFrom lts (at_reason version) rest 3 fault → FirstFault bytes lts fault
fault_three bytes lts version name class after rest fault is named fits is' f =
    fault_before lts at_heading (spaced (heading version)) (at_class version) bytes after 1 fault is (lead_of lts at_heading (heading version) (at_class version) (heading_leads lts version))
    (fault_before lts (at_class version) (codes "class " ++ name) (at_reason version) after rest 2 fault is'
    (lead_of lts (at_class version) (codes "class" ∷ name ∷ []) (at_reason version) (class_leads lts version name class named fits)) f)

-- a fault from the fourth line on
pub fault_four : (bytes : List ℕ) (lts : System) (version : Version) (name : List ℕ) (class : Class) (after rest : List ℕ) (head : Head) (last : List ℕ) (fault : CertFault) → IsWellFormed lts
    → bytes ≡ spaced (heading version) ++ 10 ∷ after → NamesClass name class → IsClassIn version class → after ≡ (codes "class " ++ name) ++ 10 ∷ rest → IsHeadLine lts rest head last
    → FaultFrom lts (after_head version head) last 4 fault → FirstFault bytes lts fault
fault_four bytes lts version name class after rest head last fault fine is named fits is' line f =
    fault_three bytes lts version name class after rest fault is named fits is'
    (fault_before lts (at_reason version) (spaced (head_fields lts head)) (after_head version head) rest last 3 fault line.cut
    (lead_of lts (at_reason version) (head_fields lts head) (after_head version head) (head_leads lts version head fine line.of_system)) f)

-- the whole text
pub text_parts : (class : List ℕ) (lts : System) (version : Version) (reason : Reason) (bytes after rest last : List ℕ) → All (IsCase lts version) (reason_cases reason)
    → bytes ≡ spaced (heading version) ++ 10 ∷ after → after ≡ (codes "class " ++ class) ++ 10 ∷ rest → rest ≡ spaced (head_fields lts (reason_head reason)) ++ 10 ∷ last
    → last ≡ fed (map spaced (flat_map (nodes_lines lts) (reason_cases reason) ++ (codes "end" ∷ []) ∷ [])) → bytes ≡ text_with version class lts (reason_of reason)
unfolding text_with cert_lines
text_parts class lts version reason bytes after rest last each e₁ e₂ e₃ e₄ =
    e₁ ∙ ap (λ l. spaced (heading version) ++ 10 ∷ l) (e₂ ∙ ap (λ l. (codes "class " ++ class) ++ 10 ∷ l)
    (e₃ ∙ ap (λ l. spaced (head_fields lts (reason_head reason)) ++ 10 ∷ l) e₄
    ∙ ap (λ l. fed (map spaced (l ++ (codes "end" ∷ []) ∷ []))) (sym (lines_of_reason lts version reason each))))

-- a certificate of a head and whole cases is spelled
pub spelled_by : (bytes : List ℕ) (lts : System) (version : Version) (name : List ℕ) (cert : Certificate) (after rest : List ℕ) (head : Head) (last : List ℕ)
    → bytes ≡ spaced (heading version) ++ 10 ∷ after → NamesClass name cert.class → IsClassIn version cert.class → after ≡ (codes "class " ++ name) ++ 10 ∷ rest → IsHeadLine lts rest head last
    → reason_head cert.reason ≡ head → AreCasesOf lts version head last (reason_cases cert.reason) → Spells bytes lts (claim_of cert) × IsCertificateOf lts cert
spelled_by bytes lts version name cert after rest head last e₁ named fits e₂ line same cases =
    let in_range : IsClaimOf lts (claim_of cert) = record {
      reason = reason_in_range lts version cert.reason (subst (IsHeadOf lts) (sym same) line.of_system) cases.each;
      numbers = named_bound name cert.class named;
    } in (
      record {
        in_range = in_range;
        version = version;
        fits = claim_fits version (claim_of cert) fits (reason_fits lts version cert.reason cases.each);
        class = name;
        named = named;
        text = text_parts name lts version cert.reason bytes after rest last cases.each e₁ e₂ (line.cut ∙ ap (λ h. spaced (head_fields lts h) ++ 10 ∷ last) (sym same)) cases.spelled;
      },
      record { whole = whole_cases lts version cert.reason cases.each; claim = in_range },
    )
