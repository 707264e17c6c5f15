-- How `synthesize` ends for an answer.
use Rattle.std.proofs.Common.{◌≡◌, ℕ, List, sym, ap, subst, ◌∙◌}
use Rattle.rg_theory.specs.System.{System}
use Rattle.rg_theory.specs.Net.{Net}
use Rattle.rg_theory.specs.declared.Class.{Class}
use Rattle.rg_lts.specs.WellFormed.{IsWellFormed}
use Rattle.rg_net.specs.NetText.{net_text}
use Rattle.rg_netfile.specs.Spells.{Spells as NetSpells}
use Rattle.rg_netfile.proofs.PrintedTexts.{printed_spelled}
use Rattle.rg_cert_data.specs.declared.certificate.Certificate.{Certificate}
use Rattle.rg_cert_data.specs.Certificates.{reason_of, claim_of}
use Rattle.rg_outcome.specs.Outcome.{Out, Answer.net as of_net, Answer.unsolvable as of_reason}
use Rattle.rg_cert.specs.Text.{cert_text}
use Rattle.rg_cert.specs.Spells.{Spells as CertificateSpells}
use Rattle.rg_synth.specs.Answer.{IsSolvingNet, IsRightCertificate}
use Rattle.rg_top.specs.Synthesize.{SynthesizeEnds, a_net, a_certificate}
use Rattle.rg_top.specs.End.{says_yes, says_no}

pub found_net : (class : Class) (lts : System) (net : Net) (out : List ℕ) → IsWellFormed lts
    → Out lts class (of_net net.places) → IsSolvingNet lts class net → out ≡ net_text net lts → SynthesizeEnds class lts (says_yes out)
found_net class lts net out formed answer right text = a_net out (record {
  net = net;
  answer = answer;
  right = right;
  text = text;
  spelled = λ few. subst (λ bytes. NetSpells bytes lts net) (sym text) (printed_spelled net lts formed right.solves.transitions right.in_range few);
})

pub found_certificate : (class : Class) (lts : System) (cert : Certificate) (out : List ℕ) → Out lts class (of_reason (reason_of cert.reason)) → IsRightCertificate lts class cert
    → out ≡ cert_text (claim_of cert) lts → CertificateSpells out lts (claim_of cert) → SynthesizeEnds class lts (says_no out)
found_certificate class lts cert out answer right text spelled = a_certificate out (record {
  reason = reason_of cert.reason;
  answer = answer;
  is = right.is;
  holds = right.holds;
  none = right.none;
  text = text ∙ ap (λ k. cert_text (record { class = k; reason = reason_of cert.reason }) lts) right.of_class;
  spelled = subst (λ k. CertificateSpells out lts (record { class = k; reason = reason_of cert.reason })) right.of_class spelled;
})
