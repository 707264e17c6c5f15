-- Where the lesser labels end the label stands, or nowhere.
use Rattle.std.proofs.Common.{ltb, arith, rules}
use Rattle.std.proofs.lemmas.List.Sorted.{IsPartitionPoint-from_clause, IsPartitionedBy-ltb}
use Rattle.rg_theory.specs.declared.Arc.{Arc}
use Rattle.rg_checks.proofs.LabelRuns.{stands_there, stands_nowhere}
use Rattle.rg_checks.proofs.lost.has_label.Goals as goal

pub returns-then-index-arcs : goal.returns-then-index-arcs
returns-then-index-arcs c =
    let arcs = c.args.arcs.now in
    let index = c.partition_point-index in
    let low = IsPartitionPoint-from_clause (λ (a : Arc). ltb a.label c.args.t) _ _ index.ensures.partitioned
    (IsPartitionedBy-ltb (λ (a : Arc). a.label) arcs c.args.t c.requires) (λ a r q k. search rules) in
    stands_there arcs c.args.t index.result c.requires (λ k d lt. low.0 k d (omega arith) lt) (λ k d le lt. low.1 k d le lt) c.if-index-arcs.true

pub returns-else-index-arcs : goal.returns-else-index-arcs
returns-else-index-arcs c =
    let arcs = c.args.arcs.now in
    let index = c.partition_point-index in
    let low = IsPartitionPoint-from_clause (λ (a : Arc). ltb a.label c.args.t) _ _ index.ensures.partitioned
    (IsPartitionedBy-ltb (λ (a : Arc). a.label) arcs c.args.t c.requires) (λ a r q k. search rules) in
    stands_nowhere arcs c.args.t index.result (λ k d lt. low.0 k d (omega arith) lt) c.if-index-arcs.false
