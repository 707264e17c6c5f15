use Rattle.std.proofs.Common.{map, string_bytes, subst}
use Rattle.rg_commands.specs.Requests.{named}
use Rattle.rg_commands.specs.Says.{AreRefused, IsStopOf}
use Rattle.rg_top.specs.Requests.{end_of, HasCause}
use Rattle.rg_top.specs.Ends.{EndsOf, Answers, refused, asked}
use Rattle.rg_top.specs.declared.answer.Answer.{Answer}
use Rattle.rg_top.proofs.Asking.{asks_at_most, reads_at_most, read_fault}
use Rattle.rg_top.proofs.Written.{if_ok}
use Rattle.rg_top.proofs.answer.make_answer.Goals as goal

pub returns-in-Ok-clause-says : goal.returns-in-Ok-clause-says
returns-in-Ok-clause-says g c =
    let words = map string_bytes c.args.words.now in
    let files = g.H.Shelf.files c.args.shelf.now in
    let request = named c.in-Ok.request in
    if_ok (λ (a : Answer). EndsOf files request (end_of a)) (λ (a : Answer). Answers words files (end_of a))
    (λ a x. asked request (end_of a) c.in-Ok.ensures.asks x) c.request_answer.result c.request_answer.ensures.ok

pub returns-in-Ok-clause-asked : goal.returns-in-Ok-clause-asked
returns-in-Ok-clause-asked g c =
    asks_at_most (map string_bytes c.args.words.now) (g.H.Shelf.files c.args.shelf.now) (named c.in-Ok.request) (g.H.Shelf.asked c.args.shelf.now) (g.H.Shelf.asked c.request_answer.new.shelf)
    c.in-Ok.ensures.asks c.request_answer.ensures.asked

pub returns-in-Ok-clause-reads : goal.returns-in-Ok-clause-reads
returns-in-Ok-clause-reads g c =
    reads_at_most g.H.Shelf.finds g.H.Shelf.hands (map string_bytes c.args.words.now) (g.H.Shelf.files c.args.shelf.now) (named c.in-Ok.request) (HasCause c.request_answer.result) c.args.shelf.now
    c.request_answer.new.shelf c.in-Ok.ensures.asks c.request_answer.ensures.reads

pub returns-in-Ok-clause-fault : goal.returns-in-Ok-clause-fault
returns-in-Ok-clause-fault g c = λ failed.
    (let fault = c.request_answer.ensures.fault failed in
    read_fault (map string_bytes c.args.words.now) (record { before = g.H.Shelf.faults c.args.shelf.now; after = g.H.Shelf.faults c.request_answer.new.shelf }) (named c.in-Ok.request)
    c.in-Ok.ensures.asks fault.0 fault.1)

pub returns-in-Err-Refused-clause-says : goal.returns-in-Err-Refused-clause-says
returns-in-Err-Refused-clause-says g c =
    rw c.in-Err-Refused.field-0-is
    (refused c.in-Err-Refused.usage (subst (IsStopOf (AreRefused (map string_bytes c.args.words.now))) c.in-Err-Refused.field-0-is c.in-Err-Refused.ensures.refused))
