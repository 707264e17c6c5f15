use Rattle.std.proofs.Common.{◌≡◌, rules, ap, sym, ◌∙◌, arith}
use Rattle.std.specs.Option.{is_some}
use Rattle.std.specs.Ordering.{is_lt}
use Rattle.std.proofs.lemmas.Bool.{true≢false}
use Rattle.std.proofs.lemmas.Bool.Decides.{nat_tests}
use Rattle.std.proofs.lemmas.List.Sorted.{IsPartitionPoint-from_clause}
use Rattle.rg_theory.specs.Tree.{same_arc}
use Rattle.rg_theory.proofs.Arcs.{same_arc_itself}
use Rattle.rg_farkas.proofs.Located.{arc_cmp, arcs_parted, arc_located}
use Rattle.rg_farkas.proofs.listing.index_of.Goals as goal

pub returns-in_default-clause-none : goal.returns-in_default-clause-none
returns-in_default-clause-none c = λ has.
    let point = IsPartitionPoint-from_clause (λ a. is_lt (arc_cmp a c.args.arc.now)) _ _ c.partition_point-index.ensures.partitioned
    (arcs_parted c.args.arc.now c.args.system.now c.requires) (λ a r q k. search rules) in
    let at = arc_located c.args.arc.now c.args.system.now c.partition_point-index.result c.requires (λ k d lt. point.0 k d (omega arith) lt) (λ k d le lt. point.1 k d le lt) has in
    let is : c.in-Some.a.now ≡ c.args.arc.now = c.in-Some.ensures.lookup.3.1 c.args.arc.now ∙ at.1 in
    let differs = ap (λ x. same_arc x c.args.arc.now) is ∙ same_arc_itself c.args.arc.now in
    true≢false (sym differs ∙ sym c.eq.ensures ∙ c.if-eq.false)

pub returns-in_default-2-clause-none : goal.returns-in_default-2-clause-none
returns-in_default-2-clause-none c = λ has.
    let point = IsPartitionPoint-from_clause (λ a. is_lt (arc_cmp a c.args.arc.now)) _ _ c.partition_point-index.ensures.partitioned
    (arcs_parted c.args.arc.now c.args.system.now c.requires) (λ a r q k. search rules) in
    let at = arc_located c.args.arc.now c.args.system.now c.partition_point-index.result c.requires (λ k d lt. point.0 k d (omega arith) lt) (λ k d le lt. point.1 k d le lt) has in
    let within = at.0 in
    let past = sym c.get.ensures.lookup.0 ∙ ap is_some c.in_default.is in
    grind (arith, nat_tests)
