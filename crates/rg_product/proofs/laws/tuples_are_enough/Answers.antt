-- A system has no more states than there are tuples.
use Rattle.rg_product.proofs.SplitEach.{tuples_enough, fewer_is_more}
use Rattle.rg_product.proofs.laws.tuples_are_enough.Goals as goal

pub returns-clause-at_least : goal.returns-clause-at_least
returns-clause-at_least c = tuples_enough

pub returns-clause-fewer : goal.returns-clause-fewer
returns-clause-fewer c = fewer_is_more
