-- The arcs whose label is no greater than the label of one end after those that have it.
use Rattle.std.proofs.Common.{leb, slice_index_or, arith, rules}
use Rattle.std.proofs.lemmas.List.Sorted.{IsPartitionPoint-from_clause, IsPartitionedBy-leb}
use Rattle.rg_theory.specs.declared.Arc.{Arc}
use Rattle.rg_theory.specs.System.{arc}
use Rattle.rg_checks.proofs.LabelRuns.{ends_after, ends_same}
use Rattle.rg_checks.proofs.lost.next_label.Goals as goal

pub returns-then-arcs-i-clause-further : goal.returns-then-arcs-i-clause-further
returns-then-arcs-i-clause-further c =
    let arcs = c.args.arcs.now in
    let u = (slice_index_or arcs c.args.i (arc 0 0 0)).label in
    let point = c.partition_point in
    let high = IsPartitionPoint-from_clause (λ (a : Arc). leb a.label u) _ _ point.ensures.partitioned (IsPartitionedBy-leb (λ (a : Arc). a.label) arcs u c.requires.rises) (λ a r q k. search rules) in
    ends_after arcs c.args.i point.result (arc 0 0 0) c.requires.there (λ k d le lt. high.1 k d le lt)

pub returns-then-arcs-i-clause-same : goal.returns-then-arcs-i-clause-same
returns-then-arcs-i-clause-same c =
    let arcs = c.args.arcs.now in
    let u = (slice_index_or arcs c.args.i (arc 0 0 0)).label in
    let point = c.partition_point in
    let bound = point.ensures.bound in
    let high = IsPartitionPoint-from_clause (λ (a : Arc). leb a.label u) _ _ point.ensures.partitioned (IsPartitionedBy-leb (λ (a : Arc). a.label) arcs u c.requires.rises) (λ a r q k. search rules) in
    ends_same arcs c.args.i point.result (arc 0 0 0) c.requires.there bound c.requires.rises (λ k d lt. high.0 k d (omega (arith, bound, lt)) lt)
