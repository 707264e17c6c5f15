use Rattle.std.proofs.Common.{◌<◌, length, map, take, rules, subst, sym, arith}
use Rattle.std.specs.Result.{IsErrOf}
use Rattle.std.proofs.lemmas.List.{length-map}
use Rattle.rg_lts.proofs.Drafts.{has_states, has_label}
use Rattle.rg_lts.specs.declared.fault.BuildFault.TheVariants as fault
use Rattle.rg_families.specs.Named.{HasArcs, triple_of}
use Rattle.rg_families.proofs.Pushed.{next_taken}
use Rattle.rg_families.proofs.Built.{item_there, names_there, has_room, arc_added}
use Rattle.rg_families.proofs.named.add_arcs.Goals as goal

pub unreachable-requires : goal.unreachable-requires
unreachable-requires c =
    let all = map triple_of c.args.arcs.now in
    let arc = c.arc-item.result in
    let k = c.loop-arc.arc-index in
    let mid = c.loop-arc.builder in
    let from = c.as_str.result.now in
    let label = c.as_str-in-loop-arc.result.now in
    let to = c.as_str-in-loop-arc-2.result.now in
    let size = length-map c.args.arcs.now triple_of in
    let lt : k < length all = (let less = c.loop-arc-test.true in omega arith) in
    let there = names_there c.args.builder.now mid (take k all) (triple_of arc) from label to
    c.loop-arc.invariant (c.requires.known (triple_of arc) (item_there triple_of c.args.arcs.now k arc c.loop-arc-test.true c.arc-item.is))
    c.as_str.ensures.value c.as_str-in-loop-arc.ensures.value c.as_str-in-loop-arc-2.ensures.value in
    let states : IsErrOf c.arc.result fault.UnknownState → ⊥ = λ e. has_states mid from label to there (c.arc.ensures.unknown_state.0 e) in
    let labels : IsErrOf c.arc.result fault.UnknownLabel → ⊥ = λ e. has_label mid from label to there (c.arc.ensures.unknown_label.0 e) in
    let room : IsErrOf c.arc.result fault.TooManyArcs → ⊥ = λ e.
    has_room c.args.builder.now mid all k lt (let few = c.requires.few in omega arith) c.loop-arc.invariant c.arc.ensures.well_formed.arc_order
    (c.arc.ensures.too_many.0 e).limit in
    search rules

pub loop-arc-preserved : goal.loop-arc-preserved
loop-arc-preserved c =
    let arc = c.arc-item.result in
    let k = c.loop-arc.arc-index in
    let added = c.in-Ok.ensures.ok in
    subst (HasArcs c.args.builder.now c.arc.new.self) (sym (next_taken triple_of c.args.arcs.now k arc c.loop-arc-test.true c.arc-item.is))
    (arc_added c.args.builder.now c.loop-arc.builder c.arc.new.self (take k (map triple_of c.args.arcs.now)) (triple_of arc) added.0
    c.as_str.result.now c.as_str-in-loop-arc.result.now c.as_str-in-loop-arc-2.result.now c.requires.states c.requires.labels c.loop-arc.invariant
    c.as_str.ensures.value c.as_str-in-loop-arc.ensures.value c.as_str-in-loop-arc-2.ensures.value added.1 added.2)
