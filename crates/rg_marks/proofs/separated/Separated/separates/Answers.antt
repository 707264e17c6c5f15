use Rattle.std.proofs.Common.{◌<◌, length, refl, sym, subst, ◌∙◌, arith}
use Rattle.std.proofs.lemmas.List.{get_or_read}
use Rattle.rg_theory.specs.Problem.{IsProblem}
use Rattle.rg_marks.proofs.Marking.{row_of_label, row_length, mark_read}
use Rattle.rg_marks.proofs.Separating.{told_by_mark, told_by_numbers}
use Rattle.rg_marks.proofs.separated.Separated.separates.Goals as goal

pub index-requires-in-Event : goal.index-requires-in-Event
index-requires-in-Event c =
    let has = subst (IsProblem c.args.lts.now) c.in-Event.is c.requires.problem in
    let table = c.requires.some.so_much.stops.table in
    let size = row_length c.args.lts.now c.args.self.now.stops.items c.in-Event.t c.index.result.now c.index.result.now.items
    (row_of_label c.args.lts.now c.args.self.now.stops.items c.in-Event.t has.1 table) table c.index.ensures refl in
    subst (λ n. c.in-Event.s < n) (sym (c.index.result.now.ok.0 ∙ size)) has.0

pub returns-in-Event : goal.returns-in-Event
returns-in-Event c = λ places much.
    let has = subst (IsProblem c.args.lts.now) c.in-Event.is c.requires.problem in
    told_by_mark c.args.lts.now places c.args.self.now much c.args.problem c.requires.problem c.in-Event.s c.in-Event.t c.index-in-Event.result.now c.in-Event.is
    (mark_read c.args.lts.now c.args.self.now.stops.items c.in-Event.s c.in-Event.t c.index.result.now c.index-in-Event.result.now has.0 has.1
    much.stops.table c.index.ensures c.index-in-Event.ensures)

pub returns-in-States : goal.returns-in-States
returns-in-States c = λ places much.
    let has = subst (IsProblem c.args.lts.now) c.in-States.is c.requires.problem in
    let size = much.cells.one_each in
    let last = has.1 in
    let order = has.0 in
    let first_in : c.in-States.s < length c.args.self.now.cells.items = omega arith in
    let last_in : c.in-States.other < length c.args.self.now.cells.items = omega arith in
    told_by_numbers c.args.lts.now places c.args.self.now much c.args.problem c.requires.problem c.in-States.s c.in-States.other
    c.index-in-States.result.now c.index-in-States-2.result.now c.in-States.is
    (get_or_read c.args.self.now.cells.items c.in-States.s _ first_in c.index-in-States.ensures 0) (get_or_read c.args.self.now.cells.items c.in-States.other _ last_in c.index-in-States-2.ensures 0)
