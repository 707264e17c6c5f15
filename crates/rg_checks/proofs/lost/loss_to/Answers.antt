-- The first label that isn't kept is the least that is lost.
use Rattle.std.proofs.Common.{◌∙◌, inl, inr, get_or, refl, sym, true≢false, arith}
use Rattle.std.specs.List.Sorted.{IsNonDecreasingBy}
use Rattle.rg_theory.specs.declared.Arc.{Arc}
use Rattle.rg_theory.specs.System.{arc}
use Rattle.rg_checks.proofs.LabelRuns.{labels_rise}
use Rattle.rg_checks.proofs.Losing.{step_of, kept_more, none_kept, first_lost}
use Rattle.rg_checks.proofs.lost.loss_to.Goals as goal
use Rattle.rg_checks.proofs.lost.loss_to.Goals.{After-arcs_from-entered, else-u-t-via-then-u-t+else-not-has_label, else-u-t-via-else-u-t}

entered_rise : (c : After-arcs_from-entered) → IsNonDecreasingBy (λ (a : Arc). a.label) c.arcs_from-entered.result.now
entered_rise c =
    let arcs = c.arcs_from-entered in
    labels_rise c.args.to arcs.result.now (λ a has. ((arcs.ensures.members a).0 has).1) arcs.ensures.order

leaving_rise : (c : After-arcs_from-entered) → IsNonDecreasingBy (λ (a : Arc). a.label) c.arcs_from-leaving.result.now
leaving_rise c =
    let arcs = c.arcs_from-leaving in
    labels_rise c.args.s arcs.result.now (λ a has. ((arcs.ensures.members a).0 has).1) arcs.ensures.order

pub has_label-requires : goal.has_label-requires
has_label-requires c = entered_rise (goal.at.has_label-requires c).After-arcs_from-entered

pub next_label-i-requires-clause-rises : goal.next_label-i-requires-clause-rises
next_label-i-requires-clause-rises c = leaving_rise (goal.at.next_label-i-requires-clause-rises c).After-arcs_from-entered

pub returns-then-not-has_label-clause-least : goal.returns-then-not-has_label-clause-least
returns-then-not-has_label-clause-least c =
    let lts = c.args.lts.now in
    let arcs = c.arcs_from-leaving in
    let entered = c.arcs_from-entered in
    first_lost lts c.args.s c.args.t c.args.to arcs.result.now arcs.ensures.members c.loop-i.i (arc 0 0 0) c.loop-i-test.true
    (leaving_rise (goal.at.returns-then-not-has_label-clause-least c).After-arcs_from-entered) c.loop-i.invariant.1 c.requires.step c.if-u-t.true
    (λ has. true≢false (sym (c.has_label.ensures.1
    (arc c.args.to (get_or arcs.result.now c.loop-i.i (arc 0 0 0)).label has.0, (entered.ensures.members _).1 (has.1, refl), refl)) ∙ c.if-not-has_label.true))

pub loop-i-preserved : goal.loop-i-preserved
loop-i-preserved c =
    let lts = c.args.lts.now in
    let here = c.arcs_from-leaving.result.now in
    let next = c.next_label-i in
    let add = kept_more lts c.args.t c.args.to c.loop-i.i next.result (arc 0 0 0) here c.loop-i-test.true c.loop-i.invariant.1 next.ensures.same in
    elim c.else-u-t.branch [
      | else-u-t-via-then-u-t+else-not-has_label w ↦
          let (a, in_entered, label) = w.has_label.ensures.0 w.if-not-has_label.false in
          let (of_lts, from) = (c.arcs_from-entered.ensures.members a).0 in_entered in
          (next.ensures.within, add (inr (step_of lts c.args.to _ a of_lts from label)))
      | else-u-t-via-else-u-t w ↦ (next.ensures.within, add (inl w.if-u-t.false))
    ]

pub returns-clause-none : goal.returns-clause-none
returns-clause-none c =
    none_kept c.args.lts.now c.args.s c.args.t c.args.to c.arcs_from-leaving.result.now c.arcs_from-leaving.ensures.members c.loop-i.i
    (let n = c.loop-i-test.false in omega (arith, n)) c.loop-i.invariant.1
