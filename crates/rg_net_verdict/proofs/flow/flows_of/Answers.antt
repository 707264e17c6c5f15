use Rattle.std.proofs.Common.{◌∙◌, subst, arith}
use Rattle.rg_net.proofs.Placing.{count_of}
use Rattle.rg_net_verdict.specs.Flows.{AreFlowsBelow}
use Rattle.rg_net_verdict.proofs.Listing.{flows_start}
use Rattle.rg_net_verdict.proofs.flow.flows_of.Goals as goal

pub loop-i-init : goal.loop-i-init
loop-i-init c = flows_start c.args.net.now c.in_ok-flows.flows.items (c.in_ok-flows.ensures.long ∙ c.labels.ensures) c.in_ok-flows.ensures.empty

pub add_place-requires-clause-place : goal.add_place-requires-clause-place
add_place-requires-clause-place c =
    let all = count_of c.args.net.now c.places-i-end.result.now c.places-i-end.ensures.value in
    let less = c.loop-i-test.true in
    omega (arith, all, less)

pub returns : goal.returns
returns c =
    let all = count_of c.args.net.now c.places-i-end.result.now c.places-i-end.ensures.value in
    let past = c.loop-i-test.false in
    let end = c.loop-i.auto.i-end in
    subst (λ n. AreFlowsBelow c.args.net.now n c.loop-i.flows.items) (omega (arith, all, past, end)) c.loop-i.invariant
