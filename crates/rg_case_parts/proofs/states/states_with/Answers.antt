use Rattle.std.proofs.Common.{◌<◌, length, slice_index_or, subst, sym, eq-eqb, ne_eqb}
use Rattle.std.specs.Prelude.{AllPairs}
use Rattle.std.proofs.lemmas.List.{get_or_default}
use Rattle.rg_theory.specs.declared.Arc.{Arc}
use Rattle.rg_theory.specs.System.{IsArcBefore}
use Rattle.rg_case_parts.proofs.StatesWith.{states_end, states_found, states_passed, states_seen}
use Rattle.rg_case_parts.proofs.states.states_with.Goals as goal
use Rattle.rg_case_parts.proofs.states.states_with.Goals.{then-a-t+then-next-a+in_ok-push, else-a-t, else-a-t-via-then-a-t+else-next-a, else-a-t-via-else-a-t}

abbrev no_arc : Arc
no_arc = record { from = 0; label = 0; to = 0 }

pub loop-a-preserved : goal.loop-a-preserved
loop-a-preserved c =
    let arcs = c.arcs-a-items.result.now in
    let i = c.loop-a.a-index in
    let lt : i < length arcs = c.loop-a-test.true in
    let a = slice_index_or arcs i no_arc in
    let at = get_or_default arcs i no_arc a lt in
    let order = subst (AllPairs IsArcBefore) (sym c.arcs-a-items.ensures.value) c.arcs-a-items.ensures.well_formed.arc_order in
    elim c.if-a-t.branch [
      | then-a-t+then-next-a+in_ok-push w ↦ rw (w.found-is, w.next-is, w.in_ok-push.ensures.items)
          (states_found arcs c.args.t i c.loop-a.found.items c.loop-a.next c.loop-a.invariant a lt at (eq-eqb a.label c.args.t w.if-a-t.true) w.if-next-a.true)
      | else-a-t w ↦ rw (w.found-is, w.next-is) (elim w.else-a-t.branch [
        | else-a-t-via-then-a-t+else-next-a w' ↦ states_seen arcs c.args.t i c.loop-a.found.items c.loop-a.next c.loop-a.invariant a lt at
            (eq-eqb a.label c.args.t w'.if-a-t.true) order w'.if-next-a.false
        | else-a-t-via-else-a-t w' ↦ states_passed arcs c.args.t i c.loop-a.found.items c.loop-a.next c.loop-a.invariant a lt at (ne_eqb a.label c.args.t w'.if-a-t.false)
      ])
    ]

pub returns : goal.returns
returns c = states_end c.arcs-a-items.result.now c.args.t c.loop-a.a-index c.loop-a.found.items c.loop-a.next c.loop-a.invariant c.args.lts.now
    (sym c.arcs-a-items.ensures.value) c.arcs-a-items.ensures.well_formed.in_range c.loop-a-test.false
