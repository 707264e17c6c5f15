use Rattle.std.proofs.Common.{Contains, subst, sym}
use Rattle.std.proofs.lemmas.List.Elements.{Contains-push}
use Rattle.std.proofs.lemmas.Result.{err_from_is_err_and}
use Rattle.rg_lts.specs.Draft.{Draft}
use Rattle.rg_apt.specs.View.{state_in}
use Rattle.rg_apt.proofs.StateSteps.{name_fault, mark_fault, plain_state, marked_state}
use Rattle.rg_apt.proofs.building.add_state.Goals as goal

pub returns-in_err-add_name-clause-fault : goal.returns-in_err-add_name-clause-fault
returns-in_err-add_name-clause-fault c =
    let p = err_from_is_err_and c.from_residual.result c.from_residual.ensures.1 in
    let e = state_in c.args.bytes.now c.args.state in
    rw (p.1, p.2)
    (λ memory before h. name_fault before e c.args.builder.now c.name_of-name.result.now _ c.name_of-name.ensures.value h (c.in_err-add_name.ensures.fault memory))

-- the state that was added is there
pub mark-requires : goal.mark-requires
mark-requires c =
    let name = c.name_of-name.result.now in
    subst (λ (d : Draft). Contains d.state_names name) (sym c.in_ok-add_name.ensures.added) (Contains-push c.args.builder.now.state_names name)

pub returns-in_err-mark-clause-fault : goal.returns-in_err-mark-clause-fault
returns-in_err-mark-clause-fault c =
    let p = err_from_is_err_and c.from_residual-in_err-mark.result c.from_residual-in_err-mark.ensures.1 in
    let e = state_in c.args.bytes.now c.args.state in
    rw (p.1, p.2)
    (λ memory before h. mark_fault before e c.args.builder.now c.add_name.new.builder c.name_of-name.result.now _ c.name_of-name.ensures.value c.if-state.true
    c.in_ok-add_name.ensures.added c.in_ok-add_name.ensures.new h c.in_err-mark.ensures.fault)

pub returns-in_ok-mark-clause-ok : goal.returns-in_ok-mark-clause-ok
returns-in_ok-mark-clause-ok c = λ before h.
    let e = state_in c.args.bytes.now c.args.state in
    marked_state before e c.args.builder.now c.add_name.new.builder c.mark.new.builder c.name_of-name.result.now c.name_of-name.ensures.value c.if-state.true
    c.in_ok-add_name.ensures.added c.in_ok-add_name.ensures.new c.in_ok-mark.ensures.marked c.in_ok-mark.ensures.alone h

pub returns-else-state-clause-ok : goal.returns-else-state-clause-ok
returns-else-state-clause-ok c = λ before h.
    let e = state_in c.args.bytes.now c.args.state in
    plain_state before e c.args.builder.now c.add_name.new.builder c.name_of-name.result.now c.name_of-name.ensures.value c.if-state.false
    c.in_ok-add_name.ensures.added c.in_ok-add_name.ensures.new h
