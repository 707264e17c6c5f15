use Rattle.std.proofs.Common.{subst}
use Rattle.rg_cert_data.specs.Certificates.{claim_of}
use Rattle.rg_verify.specs.declared.verdict.Verdict.{Verdict}
use Rattle.rg_verify.specs.Judged.{Judges}
use Rattle.rg_messages.specs.JudgedTexts.{accepted_line, defect_text, refused_line}
use Rattle.rg_top.specs.Requests.{JudgesBytes, accepted}
use Rattle.rg_top.proofs.Written.{yes_so, no_so}
use Rattle.rg_top.proofs.Judged.{not_held}
use Rattle.rg_top.proofs.verifying.certificate_answer.Goals as goal

pub returns-in_ok-accepted_text-in-Ok-Accepted : goal.returns-in_ok-accepted_text-in-Ok-Accepted
returns-in_ok-accepted_text-in-Ok-Accepted c =
    let lts = c.args.lts.now in
    let claim = claim_of c.args.cert.now in
    let judged = subst (λ (v : Verdict). Judges lts claim v) c.in-Ok-Accepted.field-0-is c.in-Ok-Accepted.ensures.judged in
    let made = c.in_ok-accepted_text-in-Ok-Accepted in
    yes_so (JudgesBytes c.args.bytes.now lts) made.field-0.items (accepted_line claim.class) made.ensures
    (accepted claim c.requires.spelled judged (c.in-Ok-Accepted.ensures.no_net c.in-Ok-Accepted.field-0-is))

pub returns-in_ok-defect_text-in-Ok-Refused : goal.returns-in_ok-defect_text-in-Ok-Refused
returns-in_ok-defect_text-in-Ok-Refused c =
    let lts = c.args.lts.now in
    let claim = claim_of c.args.cert.now in
    let judged = subst (λ (v : Verdict). Judges lts claim v) c.in-Ok-Refused.field-0-is c.in-Ok-Refused.ensures.judged in
    let found = c.in-Ok-Refused in
    let made = c.in_ok-defect_text-in-Ok-Refused in
    no_so (JudgesBytes c.args.bytes.now lts) made.field-0.items (refused_line (defect_text lts found.case found.node found.defect)) made.ensures
    (not_held c.args.bytes.now lts claim found.case found.node found.defect c.requires.system c.requires.spelled judged)
