use Rattle.std.proofs.Common.{◌≡◌, ◌<◌, ℕ, List, [], length, get_or, take, false, refl, sym, subst, arith}
use Rattle.std.proofs.lemmas.List.{get_or_default}
use Rattle.std.proofs.lemmas.Result.{err_from_is_err_and}
use Rattle.rg_lexer.specs.declared.token.Token.{Token}
use Rattle.rg_lexer.specs.declared.token.Kind.TheVariants.{Name}
use Rattle.rg_apt.specs.Contents.{StateEntry, state_fault}
use Rattle.rg_apt.specs.View.{state_in, states_in}
use Rattle.rg_apt.specs.Built.{HasStates}
use Rattle.rg_text.proofs.Left.{left_start, left_more, left_first, left_end, before_is, all_before}
use Rattle.rg_apt.proofs.building.add_states.Goals as goal

-- what a read past the end would give
abbrev past_end : StateEntry Token
past_end = record { name = record { kind = Name; from = 0; to = 0 }; initial = false }

same_read : (xs : List (StateEntry Token)) (i : ℕ) → i < length xs → get_or xs i past_end ≡ get_or xs i (get_or xs i past_end)
same_read xs i within = get_or_default xs i past_end (get_or xs i past_end) within

pub loop-state-init : goal.loop-state-init
loop-state-init c = record {
  has = subst (HasStates []) (sym c.requires.blank) (record { state_names = refl; initial = refl; label_names = refl; arcs = refl });
  left = left_start (state_in c.args.bytes.now) state_fault c.args.states.now;
}

pub loop-state-preserved : goal.loop-state-preserved
loop-state-preserved c =
    let bytes = c.args.bytes.now in
    let xs = c.args.states.now in
    let i = c.loop-state.state-index in
    let within : i < length xs = omega arith in
    let x = get_or xs i past_end in
    let step = c.in_ok-add_state.ensures.ok (states_in bytes (take i xs)) c.loop-state.invariant.has in
    record {
      has = subst (λ l. HasStates l c.add_state.new.builder) (sym (before_is (state_in bytes) xs i x within (same_read xs i within))) step.1;
      left = left_more (state_in bytes) state_fault xs i x within (same_read xs i within) step.0 c.loop-state.invariant.left;
    }

pub returns-in_err-add_state-clause-fault : goal.returns-in_err-add_state-clause-fault
returns-in_err-add_state-clause-fault c =
    let p = err_from_is_err_and c.from_residual.result c.from_residual.ensures.1 in
    let bytes = c.args.bytes.now in
    let xs = c.args.states.now in
    let i = c.loop-state.state-index in
    let within : i < length xs = omega arith in
    let x = get_or xs i past_end in
    rw (p.1, p.2)
    (λ memory. left_first (state_in bytes) state_fault xs i x _ within (same_read xs i within)
    (c.in_err-add_state.ensures.fault memory (states_in bytes (take i xs)) c.loop-state.invariant.has) c.loop-state.invariant.left)

pub returns-clause-none : goal.returns-clause-none
returns-clause-none c =
    left_end (state_in c.args.bytes.now) state_fault c.args.states.now c.loop-state.state-index (omega arith) c.loop-state.invariant.left

pub returns-clause-has : goal.returns-clause-has
returns-clause-has c =
    subst (λ l. HasStates l c.loop-state.builder) (all_before (state_in c.args.bytes.now) c.args.states.now c.loop-state.state-index (omega arith)) c.loop-state.invariant.has
