-- The arcs of a label are a run of those that leave a state.
use Rattle.std.proofs.Common.{ltb, leb, arith, rules}
use Rattle.std.proofs.lemmas.List.Sorted.{IsPartitionPoint-from_clause, IsPartitionedBy-ltb, IsPartitionedBy-leb}
use Rattle.rg_theory.specs.declared.Arc.{Arc}
use Rattle.rg_theory.specs.System.{arc}
use Rattle.rg_checks.proofs.LabelRuns.{AreLeaving, labels_rise, targets_rise, members}
use Rattle.rg_checks.proofs.Runs.{IsRun, run}
use Rattle.rg_checks.proofs.labelled.arcs_with_label.Goals as goal
use Rattle.rg_checks.proofs.labelled.arcs_with_label.Goals.{After-partition_point-end}

leaves : (c : After-partition_point-end) → AreLeaving c.args.s c.arcs_from-leaving.result.now
leaves c = λ a has. ((c.arcs_from-leaving.ensures.members a).0 has).1

own_run : (c : After-partition_point-end) → IsRun (λ (a : Arc). a.label) c.arcs_from-leaving.result.now c.args.t c.partition_point-start.result c.partition_point-end.result
own_run c =
    let arcs = c.arcs_from-leaving.result.now in
    let t = c.args.t in
    let rises = labels_rise c.args.s arcs (leaves c) c.arcs_from-leaving.ensures.order in
    let start = c.partition_point-start in
    let end = c.partition_point-end in
    let low = IsPartitionPoint-from_clause (λ (a : Arc). ltb a.label t) _ _ start.ensures.partitioned (IsPartitionedBy-ltb (λ (a : Arc). a.label) arcs t rises) (λ a r q k. search rules) in
    let high = IsPartitionPoint-from_clause (λ (a : Arc). leb a.label t) _ _ end.ensures.partitioned (IsPartitionedBy-leb (λ (a : Arc). a.label) arcs t rises) (λ a r q k. search rules) in
    run (λ (a : Arc). a.label) arcs t start.result end.result (arc 0 0 0) start.ensures.bound end.ensures.bound
    (λ k d lt. low.0 k d (omega arith) lt) (λ k d le lt. low.1 k d le lt) (λ k d lt. high.0 k d (omega arith) lt) (λ k d le lt. high.1 k d le lt)

pub slice_bounds-result-count : goal.slice_bounds-result-count
slice_bounds-result-count c = (own_run (goal.at.slice_bounds-result-count c).After-partition_point-end).rises

pub slice_bounds-result-start : goal.slice_bounds-result-start
slice_bounds-result-start c = (own_run (goal.at.slice_bounds-result-start c).After-partition_point-end).rises

pub returns-clause-members : goal.returns-clause-members
returns-clause-members c =
    let at = (goal.at.returns-clause-members c).After-partition_point-end in
    members c.args.s c.args.t c.arcs_from-leaving.result.now c.partition_point-start.result c.partition_point-end.result (leaves at) c.arcs_from-leaving.ensures.order (own_run at)
    c.args.lts.now c.arcs_from-leaving.ensures.members

pub returns-clause-order : goal.returns-clause-order
returns-clause-order c =
    let at = (goal.at.returns-clause-order c).After-partition_point-end in
    targets_rise c.args.s c.args.t c.arcs_from-leaving.result.now c.partition_point-start.result c.partition_point-end.result (leaves at) c.arcs_from-leaving.ensures.order (own_run at)
