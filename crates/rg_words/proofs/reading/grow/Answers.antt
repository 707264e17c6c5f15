use Rattle.std.proofs.Common.{◌≡◌, ◌∷◌, ap, rules, sym, subst, ◌∙◌, arith, Contains, decimal}
use Rattle.rg_text.specs.Byte.{IsName}
use Rattle.rg_lts.specs.Draft.{Draft}
use Rattle.rg_lts.specs.declared.fault.BuildFault.TheVariants as fault
use Rattle.std.specs.Result.{IsErrOf}
use Rattle.rg_words.specs.Contents.{state_names}
use Rattle.rg_words.proofs.Steps.{state_is_name, next_is_new}
use Rattle.rg_words.proofs.Trees.{arc_within, grown_is, room_left}
use Rattle.rg_words.proofs.reading.grow.Goals as goal

pub state-requires : goal.state-requires
state-requires c = subst IsName (sym (c.as_str.ensures.value ∙ c.in_ok-name.ensures)) (state_is_name c.args.to (omega (arith, c.ranges.to.fits)))

pub unreachable-requires : goal.unreachable-requires
unreachable-requires c =
    let d = c.requires.draft in
    let states : c.args.builder.now.state_names ≡ state_names c.args.to = d.1.states ∙ ap state_names d.2 in
    let new : IsErrOf c.state.result fault.TwiceState → ⊥ = λ e.
    next_is_new c.args.to (omega (arith, c.ranges.to.fits))
    (subst (λ l. Contains l (115 ∷ decimal c.args.to)) states (subst (Contains c.args.builder.now.state_names) (c.as_str.ensures.value ∙ c.in_ok-name.ensures) (c.state.ensures.twice.0 e))) in
    search rules

pub arc_between-requires : goal.arc_between-requires
arc_between-requires c =
    let d = c.requires.draft in
    let states : c.args.builder.now.state_names ≡ state_names c.args.to = d.1.states ∙ ap state_names d.2 in
    arc_within c.args.builder.now c.state.new.self _ c.as_str.result.now states c.requires.from c.requires.label c.in-Ok.ensures.added

pub unreachable-requires-in-Err-arc_between : goal.unreachable-requires-in-Err-arc_between
unreachable-requires-in-Err-arc_between c =
    let d = c.requires.draft in
    let room : IsErrOf c.arc_between.result fault.TooManyArcs → ⊥ = λ e.
    room_left c.args.builder.now c.state.new.self d.0 d.1 (ap (λ (x : Draft). x.arcs) c.in-Ok.ensures.added) c.arc_between.ensures.well_formed (c.arc_between.ensures.too_many.0 e).1 in
    search rules

pub returns-in-Ok-arc_between-clause-ok : goal.returns-in-Ok-arc_between-clause-ok
returns-in-Ok-arc_between-clause-ok c =
    let d = c.requires.draft in
    let states : c.args.builder.now.state_names ≡ state_names c.args.to = d.1.states ∙ ap state_names d.2 in
    grown_is c.args.builder.now c.state.new.self c.arc_between.new.self _ c.as_str.result.now states
    (c.as_str.ensures.value ∙ c.in_ok-name.ensures) c.in-Ok.ensures.added c.in-Ok-arc_between.ensures.ok
