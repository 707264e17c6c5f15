-- A new label keeps the draft well formed.
use Rattle.std.proofs.Common.{◌<◌, length, arith}
use Rattle.rg_lts.specs.Draft.{Draft, draft_of}
use Rattle.rg_theory.specs.Limits.{most_labels}
use Rattle.rg_lts.proofs.Drafts.{label_push}
use Rattle.rg_lts.proofs.builder.LtsBuilder.label.Goals as goal

pub invariant_of-self-2 : goal.invariant_of-self-2
invariant_of-self-2 c =
    let inside = c.self.inside in
    let d : Draft = draft_of inside.state_names inside.label_names inside.arcs.keys inside.initial in
    let room : length d.label_names < most_labels = omega arith in
    rw c.in_ok-add.ensures.ok (label_push d c.args.name.now c.self.invariant c.requires c.in_default.ensures.none room)
