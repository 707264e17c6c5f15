use Rattle.std.proofs.Common.{◌-◌, rules, arith}
use Rattle.std.specs.Prelude.{pos, slice_index_or, FitsSigned}
use Rattle.std.specs.Int.{w128}
use Rattle.std.proofs.lemmas.Int.{to_z-of_z}
use Rattle.rg_farkas.proofs.Listed.{ordered_differ}
use Rattle.rg_farkas.proofs.Located.{none_looked, arc_found, arc_missing}
use Rattle.rg_farkas.proofs.listing.arc_multipliers.Goals as goal

pub loop-k-init : goal.loop-k-init
loop-k-init c = none_looked c.args.system.now c.args.arcs.now c.args.multipliers.now c.in_ok-found.found.items _ (omega arith) (c.in_ok-found.ensures.items_if_clones_equal (λ y e. e))

pub loop-k-preserved-in-Some : goal.loop-k-preserved-in-Some
loop-k-preserved-in-Some c =
    let fits : FitsSigned w128 (slice_index_or c.args.multipliers.now (c.loop-k.k - 1) (pos 0)) = search rules in
    rw (to_z-of_z w128 (slice_index_or c.args.multipliers.now (c.loop-k.k - 1) (pos 0)) fits)
    (arc_found c.args.system.now c.args.arcs.now c.args.multipliers.now c.loop-k.k record { from = 0; label = 0; to = 0 } c.loop-k-test.true c.loop-k.auto.k c.requires.enough
    c.in-Some.index c.loop-k.found.items (ordered_differ c.args.system.now c.requires.order) c.in-Some.ensures.found.0 c.in-Some.ensures.found.1 c.loop-k.invariant)

pub loop-k-preserved : goal.loop-k-preserved
loop-k-preserved c = arc_missing c.args.system.now c.args.arcs.now c.args.multipliers.now c.loop-k.k record { from = 0; label = 0; to = 0 } c.loop-k-test.true c.loop-k.auto.k c.requires.enough
    c.loop-k.found.items c.in_default.ensures.none c.loop-k.invariant
