use Rattle.std.proofs.Common.{Ok, Err, IfOk, refl, ap, sym, subst}
use Rattle.rg_commands.specs.Requests.{named_work}
use Rattle.rg_messages.specs.declared.fault.Fault.{Fault}
use Rattle.rg_top.specs.End.{refuses_file}
use Rattle.rg_top.specs.Second.{first_fault}
use Rattle.rg_top.specs.Ends.{EndsOn, FileEnds, no_system, on_system}
use Rattle.rg_top.specs.Requests.{end_of, HasCause}
use Rattle.rg_ports.specs.Calls.{fails}
use Rattle.rg_top.specs.Run.{ReadsFiles, part, refused, no_memory}
use Rattle.rg_top.specs.declared.answer.Answer.{Answer}
use Rattle.rg_top.specs.declared.answer.Answer.TheVariants as answer
use Rattle.rg_top.specs.declared.answer.Stop.TheVariants as stop
use Rattle.rg_top.proofs.Asking.{asks_first, asks_all, reads_all, reads_first}
use Rattle.rg_top.proofs.Written.{if_ok}
use Rattle.rg_top.proofs.answer.file_answer.Goals as goal

pub returns-in-Ok-clause-asked : goal.returns-in-Ok-clause-asked
returns-in-Ok-clause-asked g c =
    asks_all (g.H.Shelf.files c.args.shelf.now) (named_work c.args.work) c.args.file.now c.args.form c.in-Ok.lts (g.H.Shelf.asked c.args.shelf.now) (g.H.Shelf.asked c.read_system.new.shelf)
    (g.H.Shelf.asked c.system_answer.new.shelf) c.in-Ok.ensures.ok c.read_system.ensures.asked c.system_answer.ensures.asked

pub returns-in-Ok-clause-reads : goal.returns-in-Ok-clause-reads
returns-in-Ok-clause-reads g c =
    reads_all g.H.Shelf.finds g.H.Shelf.hands (g.H.Shelf.files c.args.shelf.now) (named_work c.args.work) c.args.file.now c.args.form (HasCause c.system_answer.result)
    c.args.shelf.now c.read_system.new.shelf c.system_answer.new.shelf c.in-Ok.lts c.in-Ok.ensures.whole c.in-Ok.ensures.ok c.system_answer.ensures.reads

pub returns-in-Ok-clause-ok : goal.returns-in-Ok-clause-ok
returns-in-Ok-clause-ok g c =
    let files = g.H.Shelf.files c.args.shelf.now in
    let work = named_work c.args.work in
    let lts = c.in-Ok.lts in
    if_ok (λ (a : Answer). EndsOn files work lts (end_of a)) (λ (a : Answer). FileEnds files work c.args.file.now c.args.form (end_of a))
    (λ a x. on_system lts (end_of a) c.in-Ok.ensures.ok c.system_answer.ensures.formed x) c.system_answer.result
    (subst (λ fs. IfOk c.system_answer.result (λ (a : Answer). EndsOn fs work lts (end_of a))) c.read_system.ensures.files c.system_answer.ensures.ok)

pub returns-in-Err-Refused-clause-asked : goal.returns-in-Err-Refused-clause-asked
returns-in-Err-Refused-clause-asked g c =
    asks_first (g.H.Shelf.files c.args.shelf.now) (named_work c.args.work) c.args.file.now c.args.form
    (g.H.Shelf.asked c.args.shelf.now) (g.H.Shelf.asked c.read_system.new.shelf) c.read_system.ensures.asked

pub returns-in-Err-Refused-clause-reads : goal.returns-in-Err-Refused-clause-reads
returns-in-Err-Refused-clause-reads g c =
    let fault = c.in-Err-Refused.fault in
    let reads = c.read_system.ensures.reads in
    let s = c.args.shelf.now in
    let t = c.read_system.new.shelf in
    let files = g.H.Shelf.files c.args.shelf.now in
    let work = named_work c.args.work in
    subst (λ (f : Fault). ReadsFiles g.H.Shelf.finds g.H.Shelf.hands files work c.args.file.now c.args.form (HasCause (Ok (answer.File (first_fault f)))) s t) (sym c.in-Err-Refused.fault-is)
    (reads_first g.H.Shelf.finds g.H.Shelf.hands files work c.args.file.now c.args.form (HasCause (Ok (answer.File (first_fault fault)))) s t reads.0 reads.1
    (λ whole. refused s t fault whole (c.in-Err-Refused.ensures.refused fault (ap Err c.in-Err-Refused.field-0-is)) refl))

pub returns-in-Err-Refused-clause-ok : goal.returns-in-Err-Refused-clause-ok
returns-in-Err-Refused-clause-ok g c =
    let fault = c.in-Err-Refused.fault in
    subst (λ (f : Fault). FileEnds (g.H.Shelf.files c.args.shelf.now) (named_work c.args.work) c.args.file.now c.args.form (refuses_file (first_fault f))) (sym c.in-Err-Refused.fault-is)
    (no_system fault (c.in-Err-Refused.ensures.refused fault (ap Err c.in-Err-Refused.field-0-is)))

pub returns-in-Err-Failed-clause-asked : goal.returns-in-Err-Failed-clause-asked
returns-in-Err-Failed-clause-asked g c =
    asks_first (g.H.Shelf.files c.args.shelf.now) (named_work c.args.work) c.args.file.now c.args.form
    (g.H.Shelf.asked c.args.shelf.now) (g.H.Shelf.asked c.read_system.new.shelf) c.read_system.ensures.asked

pub returns-in-Err-Failed-clause-reads : goal.returns-in-Err-Failed-clause-reads
returns-in-Err-Failed-clause-reads g c = part c.args.shelf.now c.read_system.new.shelf fails (λ e. absurd cc) (c.in-Err-Failed.ensures.failed (ap Err c.in-Err-Failed.field-0-is))

pub returns-in-Err-NoMemory-clause-asked : goal.returns-in-Err-NoMemory-clause-asked
returns-in-Err-NoMemory-clause-asked g c =
    asks_first (g.H.Shelf.files c.args.shelf.now) (named_work c.args.work) c.args.file.now c.args.form
    (g.H.Shelf.asked c.args.shelf.now) (g.H.Shelf.asked c.read_system.new.shelf) c.read_system.ensures.asked

pub returns-in-Err-NoMemory-clause-reads : goal.returns-in-Err-NoMemory-clause-reads
returns-in-Err-NoMemory-clause-reads g c =
    let reads = c.read_system.ensures.reads in
    let s = c.args.shelf.now in
    let t = c.read_system.new.shelf in
    reads_first g.H.Shelf.finds g.H.Shelf.hands (g.H.Shelf.files c.args.shelf.now) (named_work c.args.work) c.args.file.now c.args.form
    (HasCause (Err stop.NoMemory)) s t reads.0 reads.1 (λ whole. no_memory s t whole tt)
