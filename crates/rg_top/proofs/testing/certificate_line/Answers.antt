use Rattle.rg_cert_data.specs.Certificates.{claim_of}
use Rattle.rg_verify.specs.declared.verdict.Verdict.TheVariants.{Accepted}
use Rattle.rg_top.proofs.testing.certificate_line.Goals as goal

-- a certificate that holds is accepted, and has no other verdict
pub unreachable-requires : goal.unreachable-requires
unreachable-requires c =
    let same = c.one_verdict.ensures.once c.args.lts.now (claim_of c.args.cert.now) c.in_ok-verify.field-0 Accepted c.in_ok-verify.ensures.judged c.requires.holds in
    let is = c.in-Refused.is in
    cc
