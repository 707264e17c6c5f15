use Rattle.std.proofs.Common.{Err, ap, sym, subst}
use Rattle.rg_messages.specs.declared.fault.Fault.{Fault}
use Rattle.rg_top.specs.End.{refuses_file}
use Rattle.rg_top.specs.Second.{second_fault}
use Rattle.rg_top.specs.Isomorphic.{IsomorphicEnds, read, unread}
use Rattle.rg_top.specs.Requests.{end_of}
use Rattle.rg_top.proofs.comparing.comparison_answer.Goals as goal

pub returns-in_ok-pair_answer-in-Ok-clause-ok : goal.returns-in_ok-pair_answer-in-Ok-clause-ok
returns-in_ok-pair_answer-in-Ok-clause-ok g c =
    let r = c.in_ok-pair_answer-in-Ok in
    read c.in-Ok.other (end_of r.field-0) c.in-Ok.ensures.ok c.pair_answer.ensures.formed r.ensures.ends

pub returns-in-Err-Refused-clause-ok : goal.returns-in-Err-Refused-clause-ok
returns-in-Err-Refused-clause-ok g c =
    let fault = c.in-Err-Refused.fault in
    subst (λ (f : Fault). IsomorphicEnds (g.H.Shelf.files c.args.shelf.now) c.args.name.now c.args.form c.args.lts.now (refuses_file (second_fault f))) (sym c.in-Err-Refused.fault-is)
    (unread fault (c.in-Err-Refused.ensures.refused fault (ap Err c.in-Err-Refused.field-0-is)))
