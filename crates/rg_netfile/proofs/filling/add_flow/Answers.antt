use Rattle.std.proofs.Common.{Contains, map, subst}
use Rattle.std.proofs.lemmas.Result.{err_from_is_err_and, on_ok_weaker, IfErr-weaker}
use Rattle.rg_theory.proofs.Lists.{there_at}
use Rattle.rg_net_grammar.specs.View.{members_in, flow_in}
use Rattle.rg_netfile.specs.declared.slot.Slot.TheVariants.{Taken}
use Rattle.rg_netfile.specs.Contents.{taken, put, adds}
use Rattle.rg_netfile.specs.Built.{HasLabel, Passes, Stops}
use Rattle.rg_netfile.proofs.Slots.{label_in, slot_too}
use Rattle.rg_netfile.proofs.FlowSteps.{whole_passes, name_stops, pre_stops, post_stops}
use Rattle.rg_netfile.proofs.filling.add_flow.Goals as goal

pub add_members-requires-in-Some-clause-slot : goal.add_members-requires-in-Some-clause-slot
add_members-requires-in-Some-clause-slot c =
    slot_too c.args.sums.now c.add_members.new.sums (Taken c.in-Some.t)
    (label_in c.args.known.now c.args.sums.now c.name_of.result.now c.in-Some.t c.requires.fits c.in-Some.ensures.found) c.in_ok-add_members-in-Some.ensures.same

pub add_members-requires-clause-slot : goal.add_members-requires-clause-slot
add_members-requires-clause-slot c =
    label_in c.args.known.now c.args.sums.now c.name_of.result.now c.in-Some.t c.requires.fits c.in-Some.ensures.found

pub returns-in_err-add_members-in-Some-clause-fault : goal.returns-in_err-add_members-in-Some-clause-fault
returns-in_err-add_members-in-Some-clause-fault c =
    let p = err_from_is_err_and c.from_residual.result c.from_residual.ensures.1 in
    let bytes = c.args.bytes.now in
    let k = c.args.known.now in
    let flow = flow_in bytes c.args.flow.now in
    let label = subst (λ n. HasLabel k n c.in-Some.t) c.name_of.ensures.value c.in-Some.ensures.found in
    rw (p.1, p.2)
    (pre_stops k flow.name (map (adds (taken flow.name.text)) flow.pre) (map (adds (put flow.name.text)) flow.post) c.args.sums.now _
    (there_at k.transitions label.0 flow.name.text label.1)
    (subst (λ xs. Stops k (map (adds (taken flow.name.text)) (members_in bytes xs)) c.args.sums.now c.in_err-add_members-in-Some.field-0.0) c.deref.ensures.value
    (c.in_err-add_members-in-Some.ensures.fault (taken flow.name.text) label)))

pub returns-in_ok-add_members-in-Some-clause-ok : goal.returns-in_ok-add_members-in-Some-clause-ok
returns-in_ok-add_members-in-Some-clause-ok c =
    let bytes = c.args.bytes.now in
    let k = c.args.known.now in
    let flow = flow_in bytes c.args.flow.now in
    let label = subst (λ n. HasLabel k n c.in-Some.t) c.name_of.ensures.value c.in-Some.ensures.found in
    on_ok_weaker c.add_members-in-Some.result
    (λ ok. whole_passes k flow.name (map (adds (taken flow.name.text)) flow.pre) (map (adds (put flow.name.text)) flow.post) c.args.sums.now c.add_members.new.sums
    c.add_members-in-Some.new.sums (there_at k.transitions label.0 flow.name.text label.1)
    (subst (λ xs. Passes k (map (adds (taken flow.name.text)) (members_in bytes xs)) c.args.sums.now c.add_members.new.sums) c.deref.ensures.value
    (c.in_ok-add_members-in-Some.ensures.ok (taken flow.name.text) label))
    (subst (λ xs. Passes k (map (adds (put flow.name.text)) (members_in bytes xs)) c.add_members.new.sums c.add_members-in-Some.new.sums) c.deref-in-Some.ensures.value
    (ok (put flow.name.text) label)))
    c.add_members-in-Some.ensures.ok

pub returns-in_ok-add_members-in-Some-clause-fault : goal.returns-in_ok-add_members-in-Some-clause-fault
returns-in_ok-add_members-in-Some-clause-fault c =
    let bytes = c.args.bytes.now in
    let k = c.args.known.now in
    let flow = flow_in bytes c.args.flow.now in
    let label = subst (λ n. HasLabel k n c.in-Some.t) c.name_of.ensures.value c.in-Some.ensures.found in
    IfErr-weaker c.add_members-in-Some.result _ _
    (λ f stops. post_stops k flow.name (map (adds (taken flow.name.text)) flow.pre) (map (adds (put flow.name.text)) flow.post) c.args.sums.now c.add_members.new.sums
    f (there_at k.transitions label.0 flow.name.text label.1)
    (subst (λ xs. Passes k (map (adds (taken flow.name.text)) (members_in bytes xs)) c.args.sums.now c.add_members.new.sums) c.deref.ensures.value
    (c.in_ok-add_members-in-Some.ensures.ok (taken flow.name.text) label))
    (subst (λ xs. Stops k (map (adds (put flow.name.text)) (members_in bytes xs)) c.add_members.new.sums f) c.deref-in-Some.ensures.value
    (stops (put flow.name.text) label)))
    c.add_members-in-Some.ensures.fault

pub returns-in-None-clause-fault : goal.returns-in-None-clause-fault
returns-in-None-clause-fault c =
    let k = c.args.known.now in
    let flow = flow_in c.args.bytes.now c.args.flow.now in
    name_stops k flow.name (map (adds (taken flow.name.text)) flow.pre) (map (adds (put flow.name.text)) flow.post) c.args.sums.now
    (subst (λ n. Contains k.transitions n → ⊥) c.name_of.ensures.value c.in-None.ensures.none)
