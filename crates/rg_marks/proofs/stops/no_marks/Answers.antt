use Rattle.std.proofs.Common.{◌≡◌, ◌∙◌, false, replicate, ap, arith}
use Rattle.rg_theory.specs.System.{states, labels}
use Rattle.rg_marks.specs.Stops.{rows_in}
use Rattle.rg_marks.proofs.Marking.{none_marked, rows_more}
use Rattle.rg_marks.proofs.stops.no_marks.Goals as goal

pub loop-preserved : goal.loop-preserved
loop-preserved c =
    rw c.in_ok-push.ensures.items
    (rows_more c.loop.rows.items c.loop.counter c.in_ok-empty_row.field-0 (replicate (states c.args.lts.now) false) c.loop.invariant
    (c.in_ok-empty_row.ensures ∙ ap (λ n. replicate n false) c.states.ensures.value))

pub returns : goal.returns
returns c =
    let all : c.loop.counter ≡ labels c.args.lts.now = (let e = c.labels-end.ensures.value in let past = c.loop-test.false in let most = c.loop.auto.counter-end in omega arith) in
    none_marked c.args.lts.now (rows_in c.loop.rows.items) (c.loop.invariant ∙ ap (λ n. replicate n (replicate (states c.args.lts.now) false)) all)
