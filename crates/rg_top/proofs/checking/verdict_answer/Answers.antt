use Rattle.std.proofs.Common.{List, ℕ, Err, ap, sym, subst}
use Rattle.rg_messages.specs.declared.fault.Fault.{Fault}
use Rattle.rg_top.specs.End.{refuses_file}
use Rattle.rg_top.specs.Second.{second_fault}
use Rattle.rg_top.specs.Check.{CheckEnds, unread}
use Rattle.rg_top.specs.Requests.{end_of, TellsBytes}
use Rattle.rg_top.proofs.Judged.{told_file, unread_is_no_net}
use Rattle.rg_top.proofs.checking.verdict_answer.Goals as goal

pub returns-in_ok-text_answer-in-Ok-clause-ok : goal.returns-in_ok-text_answer-in-Ok-clause-ok
returns-in_ok-text_answer-in-Ok-clause-ok g c =
    let r = c.in_ok-text_answer-in-Ok in
    let lts = c.args.lts.now in
    told_file (g.H.Shelf.files c.args.shelf.now) c.args.class c.args.name.now lts c.in-Ok.bytes.items (end_of r.field-0) c.in-Ok.ensures.ok
    (subst (λ (bytes : List ℕ). TellsBytes bytes c.args.class lts (end_of r.field-0)) c.deref.ensures.value r.ensures)

pub returns-in-Err-Refused-clause-ok : goal.returns-in-Err-Refused-clause-ok
returns-in-Err-Refused-clause-ok g c =
    let files = g.H.Shelf.files c.args.shelf.now in
    let fault = c.in-Err-Refused.fault in
    subst (λ (f : Fault). CheckEnds files c.args.class c.args.name.now c.args.lts.now (refuses_file (second_fault f))) (sym c.in-Err-Refused.fault-is)
    (unread fault (unread_is_no_net files c.args.name.now c.args.lts.now fault (c.in-Err-Refused.ensures.refused fault (ap Err c.in-Err-Refused.field-0-is))))
