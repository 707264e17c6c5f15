-- A new state keeps the draft well formed.
use Rattle.std.proofs.Common.{◌<◌, length, arith}
use Rattle.rg_lts.specs.Draft.{Draft, draft_of}
use Rattle.rg_theory.specs.Limits.{most_states}
use Rattle.rg_lts.proofs.Drafts.{state_push}
use Rattle.rg_lts.proofs.builder.LtsBuilder.state.Goals as goal

pub invariant_of-self-2 : goal.invariant_of-self-2
invariant_of-self-2 c =
    let inside = c.self.inside in
    let d : Draft = draft_of inside.state_names inside.label_names inside.arcs.keys inside.initial in
    let room : length d.state_names < most_states = omega arith in
    rw c.in_ok-add.ensures.ok (state_push d c.args.name.now c.self.invariant c.requires c.in_default.ensures.none room)
