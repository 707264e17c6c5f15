use Rattle.std.proofs.Common.{subst}
use Rattle.rg_blocks.specs.Taking.{IsWaiting}
use Rattle.rg_blocks.proofs.NotingLemmas.{made_keepable}
use Rattle.rg_blocks.proofs.taking.take_waiting.Goals as goal

pub keep_compact-requires-clause-place : goal.keep_compact-requires-clause-place
keep_compact-requires-clause-place g c =
    let lts = c.args.search.now.lts.now in
    let comes = g.S.Solving.comes c.args.search.now.solving.now in
    let makes = g.S.Solving.makes c.args.search.now.solving.now in
    made_keepable makes (g.K.Keeping.may_keep lts) (g.K.Keeping.may_keep_compact lts) c.in-Place.place c.requires.keepable
    (subst (IsWaiting comes makes c.args.problem) c.in-Place.is c.requires.outcome).1
