use Rattle.rg_separate.proofs.Separating.{ok_separating}
use Rattle.rg_separate.proofs.separation.separate_with_firsts.Goals as goal

pub returns-clause-places : goal.returns-clause-places
returns-clause-places g c =
    ok_separating c.args.lts.now c.args.class c.is_well_formed.ensures c.requires.bound c.requires.reachable c.search_from.result c.search_from.ensures.tells c.search_from.ensures.searched
