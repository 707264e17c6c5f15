use Rattle.std.proofs.Common.{◌≡◌, ◌≤◌, length, take, Contains, rules, ap, subst, sym}
use Rattle.std.specs.Result.{IsErrOf}
use Rattle.rg_text.specs.Byte.{IsName}
use Rattle.rg_theory.specs.Limits.{most_states}
use Rattle.rg_lts.specs.Draft.{Draft}
use Rattle.rg_lts.specs.declared.fault.BuildFault.TheVariants as fault
use Rattle.rg_families.specs.Named.{names_of}
use Rattle.rg_families.proofs.Building.{next_is_name, next_is_new, has_room, state_next}
use Rattle.rg_families.proofs.named.add_states.Goals as goal

pub state-requires : goal.state-requires
state-requires c =
    subst IsName (sym c.as_str.ensures.value) (next_is_name c.args.names.now c.loop-name.name-index c.name-item.result c.requires.names c.loop-name-test.true c.name-item.is)

pub unreachable-requires : goal.unreachable-requires
unreachable-requires c =
    let names = c.args.names.now in
    let k = c.loop-name.name-index in
    let was : c.loop-name.builder.state_names ≡ take k (names_of names) = ap (λ (d : Draft). d.state_names) c.loop-name.invariant in
    let room : IsErrOf c.state.result fault.TooManyStates → ⊥ = λ e.
    has_room names k most_states c.loop-name-test.true c.requires.few (subst (λ l. most_states ≤ length l) was (c.state.ensures.too_many.0 e).1) in
    let new : IsErrOf c.state.result fault.TwiceState → ⊥ = λ e.
    next_is_new names k c.name-item.result c.requires.names c.loop-name-test.true c.name-item.is
    (subst (Contains (take k (names_of names))) c.as_str.ensures.value (subst (λ l. Contains l c.as_str.result.now) was (c.state.ensures.twice.0 e))) in
    search rules

pub loop-name-preserved : goal.loop-name-preserved
loop-name-preserved c =
    state_next c.args.builder.now c.loop-name.builder c.state.new.self c.args.names.now c.loop-name.name-index c.name-item.result c.as_str.result.now
    c.loop-name-test.true c.name-item.is c.as_str.ensures.value c.loop-name.invariant c.in-Ok.ensures.added
