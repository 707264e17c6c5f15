use Rattle.std.proofs.Common.{List, ℕ, Err, ap, sym, subst}
use Rattle.rg_messages.specs.declared.fault.Fault.{Fault}
use Rattle.rg_top.specs.End.{refuses_file}
use Rattle.rg_top.specs.Second.{second_fault}
use Rattle.rg_top.specs.Verify.{VerifyEnds, unread}
use Rattle.rg_top.specs.Requests.{end_of, JudgesBytes}
use Rattle.rg_top.proofs.Judged.{judged_file}
use Rattle.rg_top.proofs.verifying.judgement_answer.Goals as goal

pub returns-in_ok-bytes_answer-in-Ok-clause-ok : goal.returns-in_ok-bytes_answer-in-Ok-clause-ok
returns-in_ok-bytes_answer-in-Ok-clause-ok g c =
    let r = c.in_ok-bytes_answer-in-Ok in
    let lts = c.args.lts.now in
    judged_file (g.H.Shelf.files c.args.shelf.now) c.args.cert.now lts c.in-Ok.bytes.items (end_of r.field-0) c.in-Ok.ensures.ok
    (subst (λ (bytes : List ℕ). JudgesBytes bytes lts (end_of r.field-0)) c.deref.ensures.value r.ensures)

pub returns-in-Err-Refused-clause-ok : goal.returns-in-Err-Refused-clause-ok
returns-in-Err-Refused-clause-ok g c =
    let fault = c.in-Err-Refused.fault in
    subst (λ (f : Fault). VerifyEnds (g.H.Shelf.files c.args.shelf.now) c.args.cert.now c.args.lts.now (refuses_file (second_fault f))) (sym c.in-Err-Refused.fault-is)
    (unread fault (c.in-Err-Refused.ensures.refused fault (ap Err c.in-Err-Refused.field-0-is)))
