use Rattle.std.proofs.Common.{ltb, arith, rules}
use Rattle.std.proofs.lemmas.List.Sorted.{IsPartitionPoint-from_clause, IsPartitionedBy-ltb, IsNonDecreasingBy-from_default}
use Rattle.rg_linear.proofs.MemberIndices.{not_falling, is_below, is_not_below}
use Rattle.rg_feasible.proofs.table.members_below.Goals as goal

pub returns-clause-below : goal.returns-clause-below
returns-clause-below c =
    let parted = IsPartitionedBy-ltb (λ y. y) c.args.members.now c.args.variable
    (IsNonDecreasingBy-from_default (λ y. y) c.args.members.now 0 (λ i j le lt. not_falling c.args.members.now i j c.requires le lt)) in
    let point = IsPartitionPoint-from_clause (λ y. ltb y c.args.variable) _ _ c.partition_point.ensures.partitioned parted (λ a r q k. search rules) in
    λ k lt. is_below _ _ (point.0 k 0 (omega arith) lt)

pub returns-clause-others : goal.returns-clause-others
returns-clause-others c =
    let parted = IsPartitionedBy-ltb (λ y. y) c.args.members.now c.args.variable
    (IsNonDecreasingBy-from_default (λ y. y) c.args.members.now 0 (λ i j le lt. not_falling c.args.members.now i j c.requires le lt)) in
    let point = IsPartitionPoint-from_clause (λ y. ltb y c.args.variable) _ _ c.partition_point.ensures.partitioned parted (λ a r q k. search rules) in
    λ k le lt. is_not_below _ _ (point.1 k 0 le lt)
