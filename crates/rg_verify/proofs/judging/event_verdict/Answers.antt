use Rattle.std.proofs.Common.{refl}
use Rattle.rg_cert_data.specs.Certificates.{case_tree}
use Rattle.rg_verify.proofs.Verdicts.{asked_event, defect_event}
use Rattle.rg_verify.proofs.judging.event_verdict.Goals as goal

pub returns-then-has_arc_at : goal.returns-then-has_arc_at
returns-then-has_arc_at c = rw c.refusal_of.ensures (refl, refl, λ asked. let (to, has) = c.has_arc_at.ensures.0 c.if-has_arc_at.true in asked.2 to has)

pub returns-in-Some : goal.returns-in-Some
returns-in-Some c =
    let judged = rw c.in-Some.is at c.in_ok-found.ensures.judged in
    let asked = asked_event c.args.lts.now c.args.s c.args.t c.has_arc_at.result c.requires.state c.requires.label c.has_arc_at.ensures c.if-has_arc_at.false in
    rw c.refusal_of-in-Some.ensures (defect_event c.args.lts.now c.args.class c.args.s c.args.t (case_tree c.args.case.now) c.in-Some.found.node c.in-Some.found.defect asked judged)
