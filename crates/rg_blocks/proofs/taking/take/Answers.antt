use Rattle.rg_blocks.proofs.TakingLemmas.{one_dropped}
use Rattle.rg_blocks.proofs.taking.take.Goals as goal

pub returns-then-separates-clause-taken : goal.returns-then-separates-clause-taken
returns-then-separates-clause-taken g c =
    one_dropped c.args.search.now.lts.now (g.S.Solving.comes c.args.search.now.solving.now)
    (g.K.Keeping.places c.args.progress.now.kept) c.args.solved.problem (c.separates.ensures.0 c.if-separates.true)
