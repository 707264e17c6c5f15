use Rattle.std.proofs.Common.{subst, sym, ◌∙◌, arith}
use Rattle.rg_net.specs.Shown.{shown_place}
use Rattle.rg_blocks.specs.Taking.{IsOutcome}
use Rattle.rg_blocks.proofs.NotingLemmas.{one_noted, place_waits}
use Rattle.rg_blocks.proofs.block.note.Goals as goal

pub returns-in_ok-compact-in-Place-clause-some : goal.returns-in_ok-compact-in-Place-clause-some
returns-in_ok-compact-in-Place-clause-some g c =
    one_noted c.args.search.now.lts.now (shown_place c.in-Place.region.place) c.args.separated.now c.add.new.self c.requires.some c.in_ok-add-in-Place.ensures.separated

pub returns-in_ok-compact-in-Place-clause-waiting : goal.returns-in_ok-compact-in-Place-clause-waiting
returns-in_ok-compact-in-Place-clause-waiting g c =
    let comes = g.S.Solving.comes c.args.search.now.solving.now in
    let makes = g.S.Solving.makes c.args.search.now.solving.now in
    place_waits comes makes c.args.problem c.in-Place.region c.in_ok-compact-in-Place.compact c.in_ok-compact-in-Place.ensures
    (subst (IsOutcome comes makes c.args.problem) c.in-Place.is c.requires.outcome)

pub new-requires-clause-same : goal.new-requires-clause-same
new-requires-clause-same g c =
    let comes = g.S.Solving.comes c.args.search.now.solving.now in
    let makes = g.S.Solving.makes c.args.search.now.solving.now in
    let is = subst (IsOutcome comes makes c.args.problem) c.in-Place.is c.requires.outcome in
    let narrow = (c.requires.notable.each c.in-Place.region is.1).0 in
    narrow.pre ∙ sym narrow.post

pub new-requires-clause-few : goal.new-requires-clause-few
new-requires-clause-few g c =
    let comes = g.S.Solving.comes c.args.search.now.solving.now in
    let makes = g.S.Solving.makes c.args.search.now.solving.now in
    let is = subst (IsOutcome comes makes c.args.problem) c.in-Place.is c.requires.outcome in
    let same = (c.requires.notable.each c.in-Place.region is.1).0.pre in
    let few = c.is_well_formed.ensures.few_labels in
    omega arith
