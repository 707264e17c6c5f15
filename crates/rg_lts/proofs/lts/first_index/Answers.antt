-- Arcs in order are parted by the test for earlier ones, so that the search finds where those end.
use Rattle.std.proofs.Common.{rules, arith}
use Rattle.std.proofs.lemmas.List.Sorted.{IsPartitionPoint-from_clause}
use Rattle.rg_lts.specs.WellFormed.{is_earlier}
use Rattle.rg_lts.proofs.ArcOrder.{arcs_parted}
use Rattle.rg_lts.proofs.lts.first_index.Goals as goal

pub returns-clause-before : goal.returns-clause-before
returns-clause-before c =
    let point = IsPartitionPoint-from_clause (is_earlier c.args.s c.args.t) _ _ c.partition_point.ensures.partitioned
    (arcs_parted c.args.s c.args.t c.args.arcs.now c.requires) (λ a r q k. search rules) in
    λ k d lt. point.0 k d (omega arith) lt

pub returns-clause-behind : goal.returns-clause-behind
returns-clause-behind c =
    let point = IsPartitionPoint-from_clause (is_earlier c.args.s c.args.t) _ _ c.partition_point.ensures.partitioned
    (arcs_parted c.args.s c.args.t c.args.arcs.now c.requires) (λ a r q k. search rules) in
    λ k d le lt. point.1 k d le lt
