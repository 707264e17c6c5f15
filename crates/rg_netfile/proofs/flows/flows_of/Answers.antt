use Rattle.std.proofs.Common.{◌+◌, length, ap, sym, subst, ◌∙◌, arith}
use Rattle.rg_net.specs.Shown.{shown_place}
use Rattle.rg_net.proofs.Placing.{place_read, count_of, weights_of}
use Rattle.rg_netfile.specs.ListedSets.{AreFlowsWith}
use Rattle.rg_netfile.proofs.FlowLists.{AreFlowsBelow, flows_start, flows_next, flows_whole, written}
use Rattle.rg_netfile.proofs.flows.flows_of.Goals as goal

pub loop-i-init : goal.loop-i-init
loop-i-init c =
    flows_start c.args.net.now c.in_ok-flows.flows.items (c.in_ok-flows.ensures.long ∙ c.labels.ensures) c.in_ok-flows.ensures.taken c.in_ok-flows.ensures.put

pub add_place-requires-clause-pre : goal.add_place-requires-clause-pre
add_place-requires-clause-pre c =
    let net = c.args.net.now in
    let given = c.places-place-items in
    let x = c.place-item.result in
    let at = place_read net given.result.now c.loop-i.i x given.ensures.value c.loop-i-test.true c.place-item.is in
    (weights_of net c.loop-i.i (shown_place x) given.ensures.in_range at).0 ∙ sym c.loop-i.invariant.one_each ∙ ap length (sym c.deref_mut.ensures.value)

pub add_place-requires-clause-post : goal.add_place-requires-clause-post
add_place-requires-clause-post c =
    let net = c.args.net.now in
    let given = c.places-place-items in
    let x = c.place-item.result in
    let at = place_read net given.result.now c.loop-i.i x given.ensures.value c.loop-i-test.true c.place-item.is in
    (weights_of net c.loop-i.i (shown_place x) given.ensures.in_range at).1 ∙ sym c.loop-i.invariant.one_each ∙ ap length (sym c.deref_mut.ensures.value)

pub loop-i-preserved : goal.loop-i-preserved
loop-i-preserved c =
    let net = c.args.net.now in
    let given = c.places-place-items in
    let x = c.place-item.result in
    let at = place_read net given.result.now c.loop-i.i x given.ensures.value c.loop-i-test.true c.place-item.is in
    let old = c.loop-i.flows.items in
    let new = c.add_place.new.flows in
    let added : AreFlowsWith x c.loop-i.i (length old) old new =
    subst (λ before. AreFlowsWith x c.loop-i.i (length before) before new) c.deref_mut.ensures.value c.in_ok-add_place.ensures in
    let len = c.loop-i.flows.ok.0 in
    subst (AreFlowsBelow net (c.loop-i.i + 1)) (sym (written c.loop-i.flows.len old new (omega arith) added.long)) (flows_next net c.loop-i.i x old new at c.loop-i.invariant added)

pub returns : goal.returns
returns c =
    let all = count_of c.args.net.now c.places-place-items.result.now c.places-place-items.ensures.value in
    let past = c.loop-i-test.false in
    let end = c.loop-i.auto in
    flows_whole c.args.net.now c.loop-i.i c.loop-i.flows.items (omega arith) c.loop-i.invariant
