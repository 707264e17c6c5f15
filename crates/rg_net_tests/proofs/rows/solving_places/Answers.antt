use Rattle.std.proofs.Common.{◌≡◌, sym, subst, ◌∙◌}
use Rattle.rg_theory.specs.System.{labels}
use Rattle.rg_theory.specs.Problem.{SeparateAll}
use Rattle.rg_net_tests.proofs.Narrowing.{narrow_places}
use Rattle.rg_net_tests.proofs.rows.solving_places.Goals as goal

pub returns-clause-narrow : goal.returns-clause-narrow
returns-clause-narrow c =
    let same : c.args.net.now.labels ≡ labels c.args.lts.now = sym c.labels.ensures ∙ c.if-labels.false ∙ c.labels-2.ensures.value in
    let told = rw c.in-Ok-Yes.field-0-is at c.in-Ok-Yes.ensures.verdict in
    let solves = (c.verdict_is_sound.ensures.yes c.args.lts.now c.args.net.now _ c.is_well_formed.ensures.in_range same told).0 in
    narrow_places c.args.lts.now c.args.net.now c.in-Ok.places.items c.is_well_formed.ensures.in_range c.places.ensures.in_range solves
    (c.in-Ok-Yes.ensures.in_range c.in-Ok-Yes.field-0-is) (c.in-Ok.ensures ∙ c.places.ensures.value)

pub returns-clause-separate : goal.returns-clause-separate
returns-clause-separate c =
    let same : c.args.net.now.labels ≡ labels c.args.lts.now = sym c.labels.ensures ∙ c.if-labels.false ∙ c.labels-2.ensures.value in
    let told = rw c.in-Ok-Yes.field-0-is at c.in-Ok-Yes.ensures.verdict in
    let solves = (c.verdict_is_sound.ensures.yes c.args.lts.now c.args.net.now _ c.is_well_formed.ensures.in_range same told).0 in
    subst (λ l. SeparateAll l c.args.lts.now) (sym (c.in-Ok.ensures ∙ c.places.ensures.value))
    (c.solved_is_separated.ensures.separates c.args.lts.now c.args.net.now c.is_well_formed.ensures.in_range solves)
