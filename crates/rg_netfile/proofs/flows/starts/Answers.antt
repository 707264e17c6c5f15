use Rattle.std.proofs.Common.{arith}
use Rattle.std.proofs.lemmas.List.{length-map}
use Rattle.rg_net.specs.NetText.{starts}
use Rattle.rg_net.specs.Shown.{shown_place}
use Rattle.rg_net.proofs.Placing.{place_read, count_of}
use Rattle.rg_netfile.proofs.Listed.{members_next}
use Rattle.rg_netfile.proofs.FlowLists.{weight_read}
use Rattle.rg_netfile.proofs.flows.starts.Goals as goal

pub loop-i-preserved : goal.loop-i-preserved
loop-i-preserved c =
    let net = c.args.net.now in
    let i = c.loop-i.i in
    let given = c.places-place-items in
    let less = c.loop-i-test.true in
    let all = count_of net given.result.now given.ensures.value in
    let long = length-map net.places (λ p. p.start) in
    let at = place_read net given.result.now i c.place-item.result given.ensures.value less c.place-item.is in
    members_next (starts net) i c.place-item.result.start c.loop-i.set.items c.add_weighted.new.set.items (omega arith)
    (weight_read (λ p. p.start) net i (shown_place c.place-item.result) at) c.loop-i.invariant c.in_ok-add_weighted.ensures
