use Rattle.std.proofs.Common.{◌≡◌, ◌≤◌, ℕ, List, [], length, map, take, get_or, slice_get, Some, Contains, rules, ap, subst, Bor}
use Rattle.std.specs.Result.{IsErrOf}
use Rattle.rg_theory.specs.Limits.{most_states}
use Rattle.rg_lts.specs.Draft.{Draft}
use Rattle.rg_lts.specs.declared.fault.BuildFault.TheVariants as fault
use Rattle.rg_line_formats.proofs.Built.{name_at, is_name_at, is_new_at, has_room, state_next}
use Rattle.rg_line_formats.proofs.building.add_states.Goals as goal

abbrev nowhere : Bor (List ℕ)
nowhere = record { ref_ptr = (0, 0); now = [] }

pub state-requires : goal.state-requires
state-requires c =
    let k = c.loop-name.name-index in
    is_name_at (map (λ (n : Bor (List ℕ)). n.now) c.args.names.now) k (get_or c.args.names.now k nowhere).now c.requires.names
    (name_at (λ (n : Bor (List ℕ)). n.now) c.args.names.now k nowhere c.loop-name-test.true)

pub unreachable-requires : goal.unreachable-requires
unreachable-requires c =
    let names : List (List ℕ) = map (λ (n : Bor (List ℕ)). n.now) c.args.names.now in
    let k = c.loop-name.name-index in
    let name : List ℕ = (get_or c.args.names.now k nowhere).now in
    let at : slice_get names k ≡ Some name = name_at (λ (n : Bor (List ℕ)). n.now) c.args.names.now k nowhere c.loop-name-test.true in
    let was : c.loop-name.builder.state_names ≡ take k names = ap (λ (d : Draft). d.state_names) c.loop-name.invariant in
    let room : IsErrOf c.state.result fault.TooManyStates → ⊥ = λ e.
    has_room (λ (n : Bor (List ℕ)). n.now) c.args.names.now k most_states c.loop-name-test.true c.requires.few (subst (λ l. most_states ≤ length l) was (c.state.ensures.too_many.0 e).1) in
    let new : IsErrOf c.state.result fault.TwiceState → ⊥ = λ e.
    is_new_at names k name c.requires.names at (subst (λ l. Contains l name) was (c.state.ensures.twice.0 e)) in
    search rules

pub loop-name-preserved : goal.loop-name-preserved
loop-name-preserved c =
    let k = c.loop-name.name-index in
    state_next c.args.builder.now c.loop-name.builder c.state.new.self (map (λ (n : Bor (List ℕ)). n.now) c.args.names.now) k (get_or c.args.names.now k nowhere).now
    (name_at (λ (n : Bor (List ℕ)). n.now) c.args.names.now k nowhere c.loop-name-test.true) c.loop-name.invariant c.in-Ok.ensures.added
