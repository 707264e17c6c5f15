use Rattle.std.proofs.Common.{map, subst}
use Rattle.std.specs.List.{flat_map}
use Rattle.std.proofs.lemmas.Result.{err_from_is_err_and, on_ok_weaker, IfErr-weaker}
use Rattle.rg_net_grammar.specs.View.{flows_in, members_in}
use Rattle.rg_netfile.specs.Contents.{start, adds, steps_of_flow}
use Rattle.rg_netfile.specs.Built.{Passes, Stops}
use Rattle.rg_netfile.proofs.Steps.{passes_both, stops_sooner, stops_later}
use Rattle.rg_netfile.proofs.Slots.{fits_too, same_sizes}
use Rattle.rg_netfile.proofs.filling.fill.Goals as goal

pub add_members-requires-clause-fits : goal.add_members-requires-clause-fits
add_members-requires-clause-fits c = fits_too c.args.known.now c.args.sums.now c.add_flows.new.sums c.requires.fits c.in_ok-add_flows.ensures.same

pub returns-in_err-add_flows-clause-fault : goal.returns-in_err-add_flows-clause-fault
returns-in_err-add_flows-clause-fault c =
    let p = err_from_is_err_and c.from_residual.result c.from_residual.ensures.1 in
    let bytes = c.args.bytes.now in
    let k = c.args.known.now in
    rw (p.1, p.2)
    (stops_sooner k (flat_map steps_of_flow (flows_in bytes c.args.found.now.flows.items)) (map (adds start) (members_in bytes c.args.found.now.marking.items))
    c.args.sums.now _
    (subst (λ xs. Stops k (flat_map steps_of_flow (flows_in bytes xs)) c.args.sums.now c.in_err-add_flows.field-0.0) c.deref.ensures.value c.in_err-add_flows.ensures.fault))

pub returns-clause-same : goal.returns-clause-same
returns-clause-same c =
    on_ok_weaker c.add_members.result
    (λ same. same_sizes c.args.sums.now c.add_flows.new.sums c.add_members.new.sums c.in_ok-add_flows.ensures.same same) c.add_members.ensures.same

pub returns-clause-ok : goal.returns-clause-ok
returns-clause-ok c =
    let bytes = c.args.bytes.now in
    let k = c.args.known.now in
    on_ok_weaker c.add_members.result
    (λ ok. passes_both k (flat_map steps_of_flow (flows_in bytes c.args.found.now.flows.items)) (map (adds start) (members_in bytes c.args.found.now.marking.items))
    c.args.sums.now c.add_flows.new.sums c.add_members.new.sums
    (subst (λ xs. Passes k (flat_map steps_of_flow (flows_in bytes xs)) c.args.sums.now c.add_flows.new.sums) c.deref.ensures.value c.in_ok-add_flows.ensures.ok)
    (subst (λ xs. Passes k (map (adds start) (members_in bytes xs)) c.add_flows.new.sums c.add_members.new.sums) c.deref-2.ensures.value (ok start tt)))
    c.add_members.ensures.ok

pub returns-clause-fault : goal.returns-clause-fault
returns-clause-fault c =
    let bytes = c.args.bytes.now in
    let k = c.args.known.now in
    IfErr-weaker c.add_members.result _ _
    (λ f stops. stops_later k (flat_map steps_of_flow (flows_in bytes c.args.found.now.flows.items)) (map (adds start) (members_in bytes c.args.found.now.marking.items))
    c.args.sums.now c.add_flows.new.sums f
    (subst (λ xs. Passes k (flat_map steps_of_flow (flows_in bytes xs)) c.args.sums.now c.add_flows.new.sums) c.deref.ensures.value c.in_ok-add_flows.ensures.ok)
    (subst (λ xs. Stops k (map (adds start) (members_in bytes xs)) c.add_flows.new.sums f) c.deref-2.ensures.value (stops start tt)))
    c.add_members.ensures.fault
