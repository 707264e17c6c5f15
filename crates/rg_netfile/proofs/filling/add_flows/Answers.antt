use Rattle.std.proofs.Common.{◌<◌, length, arith}
use Rattle.std.proofs.lemmas.Result.{err_from_is_err_and}
use Rattle.rg_net_grammar.specs.View.{flow_in}
use Rattle.rg_netfile.specs.Contents.{steps_of_flow}
use Rattle.rg_netfile.proofs.Segments.{some_pass, some_stop}
use Rattle.rg_netfile.proofs.Steps.{passes_none}
use Rattle.rg_netfile.proofs.Slots.{fits_too, same_size, same_sizes}
use Rattle.rg_netfile.proofs.filling.add_flows.Goals as goal

pub add_flow-requires-clause-fits : goal.add_flow-requires-clause-fits
add_flow-requires-clause-fits c = fits_too c.args.known.now c.args.sums.now c.loop-flow.sums c.requires.fits c.loop-flow.invariant.same

pub loop-flow-init : goal.loop-flow-init
loop-flow-init c = record { same = same_size c.args.sums.now; passes = passes_none c.args.known.now c.args.sums.now }

pub loop-flow-preserved : goal.loop-flow-preserved
loop-flow-preserved c =
    let xs = c.args.flows.now in
    let i = c.loop-flow.flow-index in
    let within : i < length xs = omega arith in
    record {
      same = same_sizes c.args.sums.now c.loop-flow.sums c.add_flow.new.sums c.loop-flow.invariant.same c.in_ok-add_flow.ensures.same;
      passes = some_pass c.args.known.now steps_of_flow (flow_in c.args.bytes.now) xs i c.flow-item.result c.args.sums.now c.loop-flow.sums
          c.add_flow.new.sums within c.flow-item.is c.loop-flow.invariant.passes c.in_ok-add_flow.ensures.ok;
    }

pub returns-in_err-add_flow-clause-fault : goal.returns-in_err-add_flow-clause-fault
returns-in_err-add_flow-clause-fault c =
    let p = err_from_is_err_and c.from_residual.result c.from_residual.ensures.1 in
    let xs = c.args.flows.now in
    let i = c.loop-flow.flow-index in
    let within : i < length xs = omega arith in
    rw (p.1, p.2)
    (some_stop c.args.known.now steps_of_flow (flow_in c.args.bytes.now) xs i c.flow-item.result c.args.sums.now c.loop-flow.sums
    _ within c.flow-item.is c.loop-flow.invariant.passes c.in_err-add_flow.ensures.fault)
