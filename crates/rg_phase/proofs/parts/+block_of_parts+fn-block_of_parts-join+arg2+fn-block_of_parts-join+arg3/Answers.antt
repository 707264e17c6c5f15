use Rattle.std.proofs.Common.{rules, ◌+◌, ◌-◌, ◌/◌, ◌≤◌, arith}
use Rattle.rg_phase.proofs.AnswersLemmas.{first_part, last_part, of_both}
use Rattle.rg_phase.proofs.parts.+block_of_parts+fn-block_of_parts-join+arg2+fn-block_of_parts-join+arg3.Goals as goal

pub returns-in-Ok-right : goal.returns-in-Ok-right
returns-in-Ok-right g t c =
    let left = rw c.in-Ok.is at c.join-left.ensures.first in
    let right = rw c.in-Ok-right.is at c.join-left.ensures.second in
    let middle = c.args.from + (c.args.to - c.args.from) / 2 in
    of_both (λ v. v.items) c.both.result (g.T.PartTask.answers c.args.task.now) c.args.from middle c.args.to c.in-Ok.all.items c.in-Ok-right.others.items
    (omega arith) (omega arith) left right c.both.ensures

pub join-left-requires-after_bounds : goal.join-left-requires-after_bounds
join-left-requires-after_bounds g t c κs within =
    let middle = c.args.from + (c.args.to - c.args.from) / 2 in
    let inside : middle ≤ c.args.to = omega arith in
    let first = first_part (g.T.PartTask.asks c.args.task.now) c.args.from middle c.args.to (omega arith) inside c.requires.asked in
    let last = last_part (g.T.PartTask.asks c.args.task.now) c.args.from middle c.args.to (omega arith) inside c.requires.asked in
    search (rules, first, last)
