use Rattle.rg_blocks_tests.proofs.ConstantLemmas.{one_more}
use Rattle.rg_blocks_tests.proofs.places.PlacesKeeping.keep.Goals as goal

pub returns-clause-system : goal.returns-clause-system
returns-clause-system c = (c.requires.system.0, one_more c.args._lts.now c.args.self.now.kept.items c.push.new.self.items c.args.place c.requires.system.1 c.requires.place c.in_ok-push.ensures.items)
