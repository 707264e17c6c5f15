use Rattle.std.proofs.Common.{◌≡◌, ◌<◌, ◌++◌, ◌∷◌, [], ◌∙◌, ap, arith}
use Rattle.rg_net.specs.NetText.{flow_line}
use Rattle.rg_text.proofs.Grown.{piece_step}
use Rattle.rg_netfile.proofs.FlowLists.{flow_read}
use Rattle.rg_netfile.proofs.Texts.{flow_left}
use Rattle.rg_netfile.proofs.print.push_flows.Goals as goal

pub loop-t-preserved : goal.loop-t-preserved
loop-t-preserved c =
    let net = c.args.net.now in
    let t = c.loop-t.t in
    let name = c.label_name.result.now in
    let line = flow_line c.args.prefix.now net t in
    let end = c.labels-t-end.ensures.value in
    let less = c.loop-t-test.true in
    let same = c.requires in
    let within : t < net.labels = omega arith in
    let flow = flow_read net c.in_ok-flows.flows.items t c.index.result.now c.in_ok-flows.ensures within c.index.ensures in
    let grown : c.push_flow.new.text.items ≡ c.loop-t.text.items ++ (line name ++ 10 ∷ []) =
    c.in_ok-push_flow.ensures net t flow ∙ ap (λ n. c.loop-t.text.items ++ (line n ++ 10 ∷ [])) c.as_bytes.ensures.value in
    piece_step c.loop-t.text.items (line name ++ 10 ∷ []) _ _ _ _ grown
    (flow_left c.args.prefix.now net c.args.lts.now.label_names t name c.label_name.ensures) c.loop-t.invariant
