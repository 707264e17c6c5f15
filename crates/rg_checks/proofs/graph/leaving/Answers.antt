-- The arcs that leave a state are a run of arcs ordered by the state that they leave.
use Rattle.std.proofs.Common.{ltb, leb, arith, rules}
use Rattle.std.proofs.lemmas.List.Sorted.{IsPartitionPoint-from_clause, IsPartitionedBy-ltb, IsPartitionedBy-leb}
use Rattle.rg_theory.specs.declared.Arc.{Arc}
use Rattle.rg_theory.specs.System.{arc}
use Rattle.rg_checks.proofs.Runs.{IsRun, run, run_members, rising}
use Rattle.rg_checks.proofs.graph.leaving.Goals as goal
use Rattle.rg_checks.proofs.graph.leaving.Goals.{After-partition_point-end}

own_run : (c : After-partition_point-end) → IsRun (λ (a : Arc). a.from) c.args.arcs.now c.args.s c.partition_point-start.result c.partition_point-end.result
own_run c =
    let arcs = c.args.arcs.now in
    let s = c.args.s in
    let rises = rising (λ (a : Arc). a.from) arcs c.requires in
    let start = c.partition_point-start in
    let end = c.partition_point-end in
    let low = IsPartitionPoint-from_clause (λ (a : Arc). ltb a.from s) _ _ start.ensures.partitioned (IsPartitionedBy-ltb (λ (a : Arc). a.from) arcs s rises) (λ a r q k. search rules) in
    let high = IsPartitionPoint-from_clause (λ (a : Arc). leb a.from s) _ _ end.ensures.partitioned (IsPartitionedBy-leb (λ (a : Arc). a.from) arcs s rises) (λ a r q k. search rules) in
    run (λ (a : Arc). a.from) arcs s start.result end.result (arc 0 0 0) start.ensures.bound end.ensures.bound
    (λ k d lt. low.0 k d (omega arith) lt) (λ k d le lt. low.1 k d le lt) (λ k d lt. high.0 k d (omega arith) lt) (λ k d le lt. high.1 k d le lt)

pub slice_bounds-result-count : goal.slice_bounds-result-count
slice_bounds-result-count c = (own_run (goal.at.slice_bounds-result-count c).After-partition_point-end).rises

pub slice_bounds-result-start : goal.slice_bounds-result-start
slice_bounds-result-start c = (own_run (goal.at.slice_bounds-result-start c).After-partition_point-end).rises

pub returns : goal.returns
returns c = run_members (λ (a : Arc). a.from) c.args.arcs.now c.args.s c.partition_point-start.result c.partition_point-end.result (own_run (goal.at.returns c).After-partition_point-end)
