use Rattle.rg_separate.proofs.kept.KeptKeeping.are_all_apart.Goals as goal

pub returns : goal.returns
returns c = c.are_all_apart.ensures c.args._lts.now c.args.self.now.places.items c.requires.system.kept.so_much
