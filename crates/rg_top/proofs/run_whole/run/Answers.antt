use Rattle.std.proofs.Common.{refl, Ok, Err, ap, subst, List, ℕ, map, string_bytes}
use Rattle.rg_ports.specs.Offer.{done}
use Rattle.rg_top.specs.Run.{writes, MayHaveCause, IsTheOne}
use Rattle.rg_top.specs.Requests.{end_of, HasCause, IsOutputOf, IsWritten}
use Rattle.rg_top.specs.End.{HasStatus}
use Rattle.rg_top.specs.Terms.{ShowsTerm}
use Rattle.rg_top.specs.declared.answer.Stop.TheVariants as stop
use Rattle.rg_top.specs.declared.status.Status.TheVariants as status_of
use Rattle.rg_top.proofs.Asking.{no_cause, reads_at_most_by, cause_of_status}
use Rattle.rg_top.proofs.Terms.{same_status}
use Rattle.rg_top.proofs.Writing.{out_ends, err_ends, or_mishap}
use Rattle.rg_top.proofs.run_whole.run.Goals as goal

pub returns-in-Err-ReadFault-clause-ends : goal.returns-in-Err-ReadFault-clause-ends
returns-in-Err-ReadFault-clause-ends g c = record {
  fault = c.in-Err-ReadFault.ensures.fault (ap Err c.in-Err-ReadFault.field-0-is);
  out = record { taken = refl; offered = done c.args.out.now };
  err = record { taken = refl; offered = done c.args.err.now };
}

pub returns-in-Err-ReadFault-clause-reads : goal.returns-in-Err-ReadFault-clause-reads
returns-in-Err-ReadFault-clause-reads g c =
    reads_at_most_by g.H.Shelf.finds g.H.Shelf.hands (map string_bytes c.args.words.now) (g.H.Shelf.files c.args.shelf.now) (HasCause (Err stop.ReadFault)) (MayHaveCause status_of.ReadFault)
    (λ cause is. absurd (no_cause cause is)) c.args.shelf.now c.make_answer.new.shelf
    (rw c.in-Err-ReadFault.field-0-is at c.in-Err-ReadFault.ensures.reads)

pub returns-in-Err-NoMemory-clause-ends : goal.returns-in-Err-NoMemory-clause-ends
returns-in-Err-NoMemory-clause-ends g c = record {
  out = record { taken = refl; offered = done c.args.out.now };
  err = record { taken = refl; offered = done c.args.err.now };
}

pub returns-in-Err-NoMemory-clause-reads : goal.returns-in-Err-NoMemory-clause-reads
returns-in-Err-NoMemory-clause-reads g c =
    reads_at_most_by g.H.Shelf.finds g.H.Shelf.hands (map string_bytes c.args.words.now) (g.H.Shelf.files c.args.shelf.now) (HasCause c.make_answer.result) (MayHaveCause status_of.NoMemory)
    (λ cause is. tt) c.args.shelf.now c.make_answer.new.shelf c.make_answer.ensures.reads

pub returns-in-Err-clause-ends : goal.returns-in-Err-clause-ends
returns-in-Err-clause-ends g c = record {
  out = record { taken = refl; offered = done c.args.out.now };
  err = record { taken = refl; offered = done c.args.err.now };
}

pub returns-in-Err-clause-reads : goal.returns-in-Err-clause-reads
returns-in-Err-clause-reads g c =
    reads_at_most_by g.H.Shelf.finds g.H.Shelf.hands (map string_bytes c.args.words.now) (g.H.Shelf.files c.args.shelf.now) (HasCause c.make_answer.result) (MayHaveCause status_of.NoMemory)
    (λ cause is. tt) c.args.shelf.now c.make_answer.new.shelf c.make_answer.ensures.reads

pub returns-in-Ok-Out-clause-ends : goal.returns-in-Ok-Out-clause-ends
returns-in-Ok-Out-clause-ends g c =
    let end = end_of c.in-Ok.made in
    let output = subst (IsOutputOf end) c.in-Ok-Out.field-0-is c.in-Ok-Out.ensures in
    let status = c.in-Ok-Out.status in
    let sink = writes g.O.Sink.taken g.O.Sink.faults g.O.Sink.gives c.args.out.now c.write_output.new.sink in
    let wrote = subst (λ (b : List ℕ). IsWritten sink b status c.write_output.result) c.deref.ensures.value c.write_output.ensures in
    out_ends _ end c.in-Ok-Out.text.items status c.write_output.result c.in-Ok.ensures.says output.0 output.1 wrote (record { taken = refl; offered = done c.args.err.now })

pub returns-in-Ok-Out-clause-reads : goal.returns-in-Ok-Out-clause-reads
returns-in-Ok-Out-clause-reads g c =
    let end = end_of c.in-Ok.made in
    let output = subst (IsOutputOf end) c.in-Ok-Out.field-0-is c.in-Ok-Out.ensures in
    let result = c.write_output.result in
    reads_at_most_by g.H.Shelf.finds g.H.Shelf.hands (map string_bytes c.args.words.now) (g.H.Shelf.files c.args.shelf.now) (HasCause (Ok c.in-Ok.made)) (MayHaveCause result)
    (cause_of_status c.in-Ok.made c.in-Ok-Out.status result output.0 c.write_output.ensures) c.args.shelf.now c.make_answer.new.shelf c.in-Ok.ensures.reads

pub returns-in-Ok-Out-clause-exactly : goal.returns-in-Ok-Out-clause-exactly
returns-in-Ok-Out-clause-exactly g c = λ due decided is.
    (let end = end_of c.in-Ok.made in
    let output = subst (IsOutputOf end) c.in-Ok-Out.field-0-is c.in-Ok-Out.ensures in
    let has = c.answers_are_one.ensures.due (map string_bytes c.args.words.now) (g.H.Shelf.files c.args.shelf.now) end due decided c.in-Ok.ensures.says is in
    or_mishap (IsTheOne due) c.in-Ok-Out.status c.write_output.result c.write_output.ensures (same_status end c.in-Ok-Out.status due output.0 has))

pub returns-in-Ok-Out-clause-passed : goal.returns-in-Ok-Out-clause-passed
returns-in-Ok-Out-clause-passed g c = λ w decided is.
    (let end = end_of c.in-Ok.made in
    let output = subst (IsOutputOf end) c.in-Ok-Out.field-0-is c.in-Ok-Out.ensures in
    let same = c.answers_are_one.ensures.term (map string_bytes c.args.words.now) (g.H.Shelf.files c.args.shelf.now) w end decided c.in-Ok.ensures.says is in
    or_mishap (ShowsTerm w) c.in-Ok-Out.status c.write_output.result c.write_output.ensures (subst (λ e. HasStatus e c.in-Ok-Out.status) same output.0))

pub returns-in-Ok-Err-clause-ends : goal.returns-in-Ok-Err-clause-ends
returns-in-Ok-Err-clause-ends g c =
    let end = end_of c.in-Ok.made in
    let output = subst (IsOutputOf end) c.in-Ok-Err.field-0-is c.in-Ok-Err.ensures in
    let status = c.in-Ok-Err.status in
    let made = c.write_output-in-Ok-Err in
    let sink = writes g.E.Sink.taken g.E.Sink.faults g.E.Sink.gives c.args.err.now made.new.sink in
    let wrote = subst (λ (b : List ℕ). IsWritten sink b status made.result) c.deref-in-Ok-Err.ensures.value made.ensures in
    err_ends _ end c.in-Ok-Err.line.items status made.result c.in-Ok.ensures.says output.0 output.1 (record { taken = refl; offered = done c.args.out.now }) wrote

pub returns-in-Ok-Err-clause-reads : goal.returns-in-Ok-Err-clause-reads
returns-in-Ok-Err-clause-reads g c =
    let end = end_of c.in-Ok.made in
    let output = subst (IsOutputOf end) c.in-Ok-Err.field-0-is c.in-Ok-Err.ensures in
    let made = c.write_output-in-Ok-Err in
    reads_at_most_by g.H.Shelf.finds g.H.Shelf.hands (map string_bytes c.args.words.now) (g.H.Shelf.files c.args.shelf.now) (HasCause (Ok c.in-Ok.made)) (MayHaveCause made.result)
    (cause_of_status c.in-Ok.made c.in-Ok-Err.status made.result output.0 made.ensures) c.args.shelf.now c.make_answer.new.shelf c.in-Ok.ensures.reads

pub returns-in-Ok-Err-clause-exactly : goal.returns-in-Ok-Err-clause-exactly
returns-in-Ok-Err-clause-exactly g c = λ due decided is.
    (let end = end_of c.in-Ok.made in
    let output = subst (IsOutputOf end) c.in-Ok-Err.field-0-is c.in-Ok-Err.ensures in
    let has = c.answers_are_one.ensures.due (map string_bytes c.args.words.now) (g.H.Shelf.files c.args.shelf.now) end due decided c.in-Ok.ensures.says is in
    or_mishap (IsTheOne due) c.in-Ok-Err.status c.write_output-in-Ok-Err.result c.write_output-in-Ok-Err.ensures (same_status end c.in-Ok-Err.status due output.0 has))

pub returns-in-Ok-Err-clause-passed : goal.returns-in-Ok-Err-clause-passed
returns-in-Ok-Err-clause-passed g c = λ w decided is.
    (let end = end_of c.in-Ok.made in
    let output = subst (IsOutputOf end) c.in-Ok-Err.field-0-is c.in-Ok-Err.ensures in
    let same = c.answers_are_one.ensures.term (map string_bytes c.args.words.now) (g.H.Shelf.files c.args.shelf.now) w end decided c.in-Ok.ensures.says is in
    or_mishap (ShowsTerm w) c.in-Ok-Err.status c.write_output-in-Ok-Err.result c.write_output-in-Ok-Err.ensures (subst (λ e. HasStatus e c.in-Ok-Err.status) same output.0))
