use Rattle.std.proofs.Common.{◌<◌, [], length, ap, sym, ◌∙◌, arith}
use Rattle.std.proofs.lemmas.Grind.{get_or-set_at}
use Rattle.rg_theory.specs.Solves.{marking_of}
use Rattle.rg_net.specs.ClassBreaks.{shown_markings}
use Rattle.rg_net_verdict.proofs.Along.{row_set}
use Rattle.rg_net.proofs.Rows.{rows_long as row_count}
use Rattle.rg_net_verdict.proofs.rows.begin_rows.Goals as goal

pub index_mut-requires : goal.index_mut-requires
index_mut-requires c =
    let size = c.loop.rows.ok.0 in
    let long = c.loop.invariant in
    let past = c.loop-test.false in
    let all = c.states-end.ensures.value in
    let lt = c.initial.ensures.in_range in
    omega arith

pub returns-clause-start : goal.returns-clause-start
returns-clause-start c =
    let lt : c.initial.result < length (shown_markings c.loop.rows.items) = (let size = row_count c.loop.rows.items in
    let long = c.loop.invariant in
    let past = c.loop-test.false in
    let all = c.states-end.ensures.value in
    let lt = c.initial.ensures.in_range in
    omega arith) in
    ap (λ ms. marking_of ms c.args.lts.now.initial) (row_set c.loop.rows.items c.initial.result c.in_ok-rows-2.field-0)
    ∙ get_or-set_at (shown_markings c.loop.rows.items) c.initial.result c.args.lts.now.initial c.in_ok-rows-2.field-0.items [] (sym c.initial.ensures.value) lt
    ∙ c.in_ok-rows-2.ensures.value
