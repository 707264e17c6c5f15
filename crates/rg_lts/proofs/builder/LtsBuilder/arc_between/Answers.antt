-- A new arc keeps the draft well formed.
use Rattle.std.proofs.Common.{refl}
use Rattle.rg_lts.specs.Draft.{Draft, draft_of}
use Rattle.rg_lts.proofs.Drafts.{arcs_set, added_in_range}
use Rattle.rg_lts.proofs.builder.LtsBuilder.arc_between.Goals as goal

pub invariant_of-self-2 : goal.invariant_of-self-2
invariant_of-self-2 c =
    let inside = c.self.inside in
    let d : Draft = draft_of inside.state_names inside.label_names inside.arcs.keys inside.initial in
    let within = rw (← c.self.view_is) at c.requires in
    let added = c.in_ok-add.ensures in
    arcs_set d c.add.new.arcs.keys c.self.invariant (added_in_range d c.add.new.arcs.keys c.args.arc c.self.invariant.arcs within added.members) added.order added.few

pub returns-clause-ok : goal.returns-clause-ok
returns-clause-ok c = rw (← c.self.view_is) (record { rest = refl; members = c.in_ok-add.ensures.members })
