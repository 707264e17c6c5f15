use Rattle.rg_separate.proofs.Keeping.{some_kept}
use Rattle.rg_separate.proofs.kept.KeptKeeping.separates.Goals as goal

pub separates-requires-clause-some : goal.separates-requires-clause-some
separates-requires-clause-some c = some_kept c.args.lts.now c.args.self.now.places.items c.args.self.now.firsts.items c.args.self.now.separated c.requires.system.kept

pub returns : goal.returns
returns c = c.separates.ensures c.args.self.now.places.items c.requires.system.kept.so_much
