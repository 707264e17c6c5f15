use Rattle.std.proofs.Common.{◌≡◌, map, ap, ◌∙◌}
use Rattle.rg_lts.specs.Draft.{Draft}
use Rattle.rg_families.specs.Named.{drawing, names_of, triple_of}
use Rattle.rg_families.proofs.Built.{known_in, built}
use Rattle.rg_families.proofs.named.build.Goals as goal

pub add_arcs-requires-clause-known : goal.add_arcs-requires-clause-known
add_arcs-requires-clause-known c = λ t has.
    (let labels = c.add_labels.new.builder in
    let is_states : labels.state_names ≡ names_of c.args.states.now = ap (λ (d : Draft). d.state_names) c.in_ok-add_labels.ensures ∙ ap (λ (d : Draft). d.state_names) c.in_ok-add_states.ensures in
    let is_labels : labels.label_names ≡ names_of c.args.labels.now = ap (λ (d : Draft). d.label_names) c.in_ok-add_labels.ensures in
    known_in labels (names_of c.args.states.now) (names_of c.args.labels.now) t is_states is_labels (c.requires.known t has))

pub returns-in-Ok-finish : goal.returns-in-Ok-finish
returns-in-Ok-finish c =
    let labels = c.add_labels.new.builder in
    let is_states : labels.state_names ≡ names_of c.args.states.now = ap (λ (d : Draft). d.state_names) c.in_ok-add_labels.ensures ∙ ap (λ (d : Draft). d.state_names) c.in_ok-add_states.ensures in
    let is_labels : labels.label_names ≡ names_of c.args.labels.now = ap (λ (d : Draft). d.label_names) c.in_ok-add_labels.ensures in
    let start = c.in-Ok.ensures.ok in
    let whole = c.in-Ok-finish.ensures.ok in
    built (drawing (names_of c.args.states.now) (names_of c.args.labels.now) (map triple_of c.args.arcs.now) c.args.initial.now) labels c.add_arcs.new.builder c.initial.new.self start.0
    c.in-Ok-finish.lts c.requires is_states is_labels c.in_ok-add_arcs.ensures start.1 start.2 whole.0 whole.1 c.in-Ok-finish.ensures.well_formed
