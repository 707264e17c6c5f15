-- An arc to a state that isn't met joins, and then all leaving arcs up to it lead to states that are met.
use Rattle.std.proofs.Common.{◌+◌, Contains, Some, subst, sym, ap, ◌∙◌, arith}
use Rattle.std.proofs.lemmas.Option.{slice_get-get_or, slice_get_within}
use Rattle.rg_theory.specs.System.{arc}
use Rattle.rg_spanning.specs.declared.growth.Growth.{Growth}
use Rattle.rg_spanning.proofs.TreeGrowth.{IsLeaving, IsJoining, met_in_range, leaving_in_range, next_joins, over_met, over_joined, settled_more}
use Rattle.rg_spanning.proofs.growth.join_arcs_of.Goals as goal
use Rattle.rg_spanning.proofs.growth.join_arcs_of.Goals.{After-arcs_from-a-items, then-not-is_met+in_ok-join, else-not-is_met}

leaves : (c : After-arcs_from-a-items) → IsLeaving c.args.lts.now c.index-s.result.now c.arcs_from-a-items.result.now
leaves c = record { members = c.arcs_from-a-items.ensures.members; order = c.arcs_from-a-items.ensures.order }

pub arcs_from-a-items-requires : goal.arcs_from-a-items-requires
arcs_from-a-items-requires c =
    let growth = c.args.growth.now in
    let order = growth.order.items in
    let here : Contains order c.index-s.result.now = (c.args.index, c.requires.within, sym c.index-s.ensures) in
    met_in_range c.args.lts.now order growth.arcs.items growth.entries.items c.requires.growing c.index-s.result.now here

pub loop-a-init : goal.loop-a-init
loop-a-init c =
    let order = c.args.growth.now.order.items in
    record {
      growing = c.requires.growing;
      settled = c.requires.settled;
      at = slice_get-get_or order c.args.index c.index-s.result.now c.requires.within ∙ ap Some (sym c.index-s.ensures);
      done = λ k d lt. absurd (omega arith);
    }

pub is_met-requires-clause-state : goal.is_met-requires-clause-state
is_met-requires-clause-state c =
    leaving_in_range c.args.lts.now c.index-s.result.now c.arcs_from-a-items.result.now c.loop-a.a-index (arc 0 0 0) c.requires.growing.well_formed
    (leaves (goal.at.is_met-requires-clause-state c).After-arcs_from-a-items) c.loop-a-test.true

pub join-requires-clause-joins : goal.join-requires-clause-joins
join-requires-clause-joins c =
    let growth = c.loop-a.growth in
    next_joins c.args.lts.now growth.order.items growth.arcs.items growth.entries.items c.args.index c.index-s.result.now
    c.arcs_from-a-items.result.now c.loop-a.a-index
    (arc 0 0 0) c.loop-a.invariant c.loop-a-test.true (leaves (goal.at.join-requires-clause-joins c).After-arcs_from-a-items)
    (λ has. (let e = c.is_met.ensures.1 has in let f = c.if-not-is_met.true in cc))

pub loop-a-preserved : goal.loop-a-preserved
loop-a-preserved c =
    let growth = c.loop-a.growth in
    let at : Growth → Type 0 = λ g. IsJoining c.args.lts.now g.order.items g.arcs.items g.entries.items c.args.index c.index-s.result.now
    c.arcs_from-a-items.result.now (c.loop-a.a-index + 1) in
    elim c.if-not-is_met.branch [
      | then-not-is_met+in_ok-join w ↦ subst at (sym w.growth-is)
          (over_joined c.args.lts.now growth.order.items growth.arcs.items growth.entries.items c.args.index c.index-s.result.now
          c.arcs_from-a-items.result.now c.loop-a.a-index
          (arc 0 0 0) c.loop-a.invariant c.loop-a-test.true w.join.new.growth.order.items w.join.new.growth.arcs.items w.join.new.growth.entries.items
          w.in_ok-join.ensures.growing w.in_ok-join.ensures.order)
      | else-not-is_met w ↦ subst at (sym w.growth-is)
          (over_met c.args.lts.now growth.order.items growth.arcs.items growth.entries.items c.args.index c.index-s.result.now
          c.arcs_from-a-items.result.now c.loop-a.a-index
          (arc 0 0 0) c.loop-a.invariant c.loop-a-test.true (c.is_met.ensures.0 w.if-not-is_met.false))
    ]

pub returns-clause-settled : goal.returns-clause-settled
returns-clause-settled c =
    let j = c.loop-a.invariant in
    settled_more c.args.lts.now c.loop-a.growth.order.items c.args.index c.index-s.result.now c.arcs_from-a-items.result.now
    (leaves (goal.at.returns-clause-settled c).After-arcs_from-a-items) j.settled j.at (λ k d lt. j.done k d (omega arith))

pub returns-clause-within : goal.returns-clause-within
returns-clause-within c = slice_get_within c.loop-a.growth.order.items c.args.index c.index-s.result.now c.loop-a.invariant.at
