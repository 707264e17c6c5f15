use Rattle.std.proofs.Common.{◌≡◌, ℕ, List, [], map, get_or, slice_get, Some, None, Contains, rules, ap, subst, sym, ◌∙◌, Bor}
use Rattle.std.specs.Result.{IsErrOf}
use Rattle.std.proofs.lemmas.List.{length-map}
use Rattle.rg_lts.specs.Draft.{Draft}
use Rattle.rg_lts.specs.declared.fault.BuildFault.TheVariants as fault
use Rattle.rg_lts.proofs.Drafts.{there}
use Rattle.rg_line_formats.proofs.Built.{name_at, built, none_initial}
use Rattle.rg_line_formats.proofs.building.build.Goals as goal

abbrev nowhere : Bor (List ℕ)
nowhere = record { ref_ptr = (0, 0); now = [] }

pub unreachable-requires : goal.unreachable-requires
unreachable-requires c =
    let states : List (List ℕ) = map (λ (n : Bor (List ℕ)). n.now) c.args.states.now in
    let draft = c.add_arcs.new.builder in
    let name : List ℕ = (get_or c.args.states.now c.args.initial nowhere).now in
    let is_states : draft.state_names ≡ states =
    ap (λ (d : Draft). d.state_names) c.in_ok-add_arcs.ensures.rest ∙ ap (λ (d : Draft). d.state_names) c.in_ok-add_labels.ensures ∙ ap (λ (d : Draft). d.state_names) c.in_ok-add_states.ensures in
    let lt = c.requires.initial in
    let at : slice_get states c.args.initial ≡ Some name = name_at (λ (n : Bor (List ℕ)). n.now) c.args.states.now c.args.initial nowhere (rw length-map at lt) in
    let known : Contains draft.state_names name = subst (λ l. Contains l name) (sym is_states) (there states c.args.initial name at) in
    let unknown : IsErrOf c.initial.result fault.UnknownState → ⊥ = λ e. c.initial.ensures.unknown.0 e known in
    let none : draft.initial ≡ None =
    ap (λ (d : Draft). d.initial) c.in_ok-add_arcs.ensures.rest ∙ ap (λ (d : Draft). d.initial) c.in_ok-add_labels.ensures
    ∙ ap (λ (d : Draft). d.initial) c.in_ok-add_states.ensures ∙ ap (λ (d : Draft). d.initial) c.new-builder.ensures in
    let two : IsErrOf c.initial.result fault.TwoInitial → ⊥ = λ e. none_initial draft name none (c.initial.ensures.two.0 e) in
    search rules

pub returns-in-Ok-finish : goal.returns-in-Ok-finish
returns-in-Ok-finish c =
    let states : List (List ℕ) = map (λ (n : Bor (List ℕ)). n.now) c.args.states.now in
    let labels : List (List ℕ) = map (λ (n : Bor (List ℕ)). n.now) c.args.labels.now in
    let name : List ℕ = (get_or c.args.states.now c.args.initial nowhere).now in
    let named = c.add_labels.new.builder in
    let is_states : named.state_names ≡ states = ap (λ (d : Draft). d.state_names) c.in_ok-add_labels.ensures ∙ ap (λ (d : Draft). d.state_names) c.in_ok-add_states.ensures in
    let is_labels : named.label_names ≡ labels = ap (λ (d : Draft). d.label_names) c.in_ok-add_labels.ensures in
    let start = c.in-Ok.ensures.ok in
    let whole = c.in-Ok-finish.ensures.ok in
    let lt = c.requires.initial in
    let at : slice_get states c.args.initial ≡ Some name = name_at (λ (n : Bor (List ℕ)). n.now) c.args.states.now c.args.initial nowhere (rw length-map at lt) in
    built states labels c.args.arcs.now c.args.initial start.0 name named c.add_arcs.new.builder c.initial.new.self
    c.in-Ok-finish.lts c.requires.state_names is_states is_labels c.in_ok-add_arcs.ensures at start.1 start.2 whole.0 whole.1 c.in-Ok-finish.ensures.well_formed
