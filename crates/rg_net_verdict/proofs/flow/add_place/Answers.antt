-- One list more is of the place too.
use Rattle.std.proofs.Common.{◌≡◌, ◌+◌, ◌<◌, ◌++◌, Vec, length, get_or, refl, sym, ap, subst, ◌∙◌, arith}
use Rattle.std.specs.declared.alloc.Global.{Global}
use Rattle.std.proofs.Math.ListN.{set}
use Rattle.rg_theory.specs.Net.{IsPlaceAt}
use Rattle.rg_net.specs.Shown.{shown_place}
use Rattle.rg_net.proofs.Placing.{place_read, place_in_range, weights_of, number_read, count_of}
use Rattle.rg_net_verdict.specs.declared.flow.Flow.{Flow}
use Rattle.rg_net_verdict.specs.Flows.{IsFlowBelow, AreFlowsAt, flow_if}
use Rattle.rg_net_verdict.proofs.Listing.{flow_next, at_start, at_more, at_end}
use Rattle.rg_net_verdict.proofs.flow.add_place.Goals as goal
use Rattle.rg_net_verdict.proofs.flow.add_place.Goals.{After-index-places-i}

own_place : (c : After-index-places-i) → IsPlaceAt c.args.net.now c.args.i (shown_place c.index-places-i.result)
own_place c =
    let all = count_of c.args.net.now c.places.result.now c.places.ensures.value in
    let few = c.requires.place in
    place_read c.args.net.now c.places.result.now c.args.i c.index-places-i.result c.places.ensures.value (omega (arith, all, few)) c.index-places-i.is

sizes : (c : After-index-places-i) → (length c.index-places-i.result.pre.items ≡ c.args.net.now.labels) × (length c.index-places-i.result.post.items ≡ c.args.net.now.labels)
sizes c = weights_of c.args.net.now c.args.i (shown_place c.index-places-i.result) c.places.ensures.in_range (own_place c)

pub index-requires : goal.index-requires
index-requires c =
    let size = (sizes (goal.at.index-requires c).After-index-places-i).0 in
    let is = c.index-places-i.result.pre.ok.0 in
    let t = c.loop-flow.invariant.0 in
    let lists = c.loop-flow.invariant.1.one_each in
    let less = c.loop-flow-test.true in
    let long = c.loop-flow.auto.flows in
    omega (arith, size, is, t, lists, less, long)

pub index-requires-in-loop-flow : goal.index-requires-in-loop-flow
index-requires-in-loop-flow c =
    let size = (sizes (goal.at.index-requires-in-loop-flow c).After-index-places-i).1 in
    let is = c.index-places-i.result.post.ok.0 in
    let t = c.loop-flow.invariant.0 in
    let lists = c.loop-flow.invariant.1.one_each in
    let less = c.loop-flow-test.true in
    let long = c.loop-flow.auto.flows in
    omega (arith, size, is, t, lists, less, long)

pub loop-flow-init : goal.loop-flow-init
loop-flow-init c = (refl, at_start c.args.net.now c.args.i c.args.flows.now c.requires.below)

pub loop-flow-preserved : goal.loop-flow-preserved
loop-flow-preserved c =
    let at = (goal.at.loop-flow-preserved c).After-index-places-i in
    let net = c.args.net.now in
    let i = c.args.i in
    let t = c.loop-flow.t in
    let here = own_place at in
    let size = sizes at in
    let is = c.loop-flow.invariant.0 in
    let lists = c.loop-flow.invariant.1.one_each in
    let less = c.loop-flow-test.true in
    let long = c.loop-flow.auto.flows in
    let small : t < net.labels = omega (arith, is, lists, less, long) in
    let pre = number_read c.index-places-i.result.pre.items t c.index.result.now (let few = size.0 in omega (arith, few, small)) c.index.ensures in
    let post = number_read c.index-places-i.result.post.items t c.index-in-loop-flow.result.now (let few = size.1 in omega (arith, few, small)) c.index-in-loop-flow.ensures in
    let low = (place_in_range net i (shown_place c.index-places-i.result) c.places.ensures.in_range here).post t 0 (let few = size.1 in omega (arith, few, small)) in
    let flow = c.flow-item.result in
    let old = subst (λ (v : Vec Flow Global). IsFlowBelow net t i v.items) (ap (λ n. get_or c.loop-flow.flows n flow) is ∙ sym c.flow-item.is)
    (c.loop-flow.invariant.1.left t flow (omega arith) small) in
    let next = flow_next net t i flow.items (shown_place c.index-places-i.result) c.index.result.now c.index-in-loop-flow.result.now old here pre post (omega (arith, post, low)) in
    let added = ap (λ (v : Vec Flow Global). v.items ++ flow_if i c.index.result.now c.index-in-loop-flow.result.now) (sym c.flow-item.is) in
    let new = subst (IsFlowBelow net t (i + 1)) (sym (c.in_ok-add_flow.ensures ∙ added)) next in (
      ap (λ n. n + 1) is,
      subst (λ n. AreFlowsAt net i (t + 1) (set c.loop-flow.flows n c.add_flow.new.flow)) is
          (at_more net i t c.loop-flow.flows c.add_flow.new.flow c.loop-flow.invariant.1 (omega (arith, small, lists)) new),
    )

pub returns : goal.returns
returns c =
    let n = c.loop-flow-test.false in
    let long = c.loop-flow.auto.flows in
    let is = c.loop-flow.invariant.0 in
    at_end c.args.net.now c.args.i c.loop-flow.t c.loop-flow.flows (omega (arith, n, long, is)) c.loop-flow.invariant.1
