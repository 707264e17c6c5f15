use Rattle.std.proofs.Common.{◌++◌, ◌∷◌, [], ◌∙◌, ap, if◌then◌else◌}
use Rattle.rg_cert_data.specs.Certificates.{claim_of}
use Rattle.rg_cert.specs.Text.{version_one, version_two, heading, spaced, version_of}
use Rattle.rg_cert.proofs.Printed.{reason_parts, grown_text, text_spells}
use Rattle.rg_cert.proofs.printing.print.Goals as goal

pub push_reason-requires-clause-cases : goal.push_reason-requires-clause-cases
push_reason-requires-clause-cases c = (reason_parts c.args.lts.now c.args.cert.now.reason c.requires.whole c.requires.claim.reason).1

pub returns-clause-text : goal.returns-clause-text
returns-clause-text c =
    let reason = c.args.cert.now.reason in
    grown_text c.args.lts.now (version_of (claim_of c.args.cert.now)) _ reason c.new-text.result.items c.push_heading.new.text.items
    c.extend_from_slice.new.self.items c.extend_from_slice-2.new.self.items c.push.new.self.items
    c.push_reason.new.text.items c.extend_from_slice-3.new.self.items (reason_parts c.args.lts.now reason c.requires.whole c.requires.claim.reason).1
    c.new-text.ensures.items
    (c.in_ok-push_heading.ensures ∙ ap (λ b. c.new-text.result.items ++ (spaced (heading (if b then version_two else version_one)) ++ 10 ∷ [])) c.asks_two.ensures)
    c.in_ok-extend_from_slice.ensures.items
    (c.in_ok-extend_from_slice-2.ensures.items ∙ ap (λ l. c.extend_from_slice.new.self.items ++ l) (c.deref.ensures.value ∙ c.in_ok-class.ensures))
    c.in_ok-push.ensures.items c.in_ok-push_reason.ensures c.in_ok-extend_from_slice-3.ensures.items

pub returns-clause-spelled : goal.returns-clause-spelled
returns-clause-spelled c = text_spells (claim_of c.args.cert.now) c.args.lts.now c.extend_from_slice-3.new.self.items c.requires.claim (returns-clause-text c)
