-- The tables of the grown tree are right, and a state is met where it can be reached.
use Rattle.std.proofs.Common.{◌≡◌, subst}
use Rattle.rg_theory.specs.System.{IsLeastUnreachable}
use Rattle.rg_spanning.proofs.TreeTables.{least_unreachable, all_reachable, tables}
use Rattle.rg_spanning.proofs.tree.Tree.grow.Goals as goal

pub returns-in-Some-clause-unreachable : goal.returns-in-Some-clause-unreachable
returns-in-Some-clause-unreachable c =
    let growth = c.in_ok-growth.growth in
    let grown = c.in_ok-growth.ensures in
    let says = c.in-Some.ensures in
    λ s is. (let same : c.in-Some.s ≡ s = cc in
    subst (IsLeastUnreachable c.args.lts.now) same
    (least_unreachable c.args.lts.now growth.order.items growth.arcs.items growth.entries.items grown.growing grown.tree c.in-Some.s says.state
    says.unmet says.least))

pub invariant_of-result : goal.invariant_of-result
invariant_of-result c =
    let growth = c.in_ok-growth.growth in
    let grown = c.in_ok-growth.ensures in
    rw (c.labels.ensures.value, c.initial.ensures.value, c.in_ok-chords.ensures)
    (tables c.args.lts.now growth.order.items growth.arcs.items growth.entries.items grown.growing grown.tree c.in_default.ensures.none
    c.in_ok-rows.rows
    c.in_ok-rows.ensures.one_each c.in_ok-rows.ensures.rows)

pub returns-clause-all_reachable : goal.returns-clause-all_reachable
returns-clause-all_reachable c =
    let growth = c.in_ok-growth.growth in
    let grown = c.in_ok-growth.ensures in
    all_reachable c.args.lts.now growth.order.items growth.arcs.items growth.entries.items grown.growing grown.tree c.in_default.ensures.none
