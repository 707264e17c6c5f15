use Rattle.std.proofs.Common.{[]}
use Rattle.rg_theory.proofs.Leaving.{left_separates, left_needed, left_among, left_no_more}
use Rattle.rg_theory.proofs.pruning.pruned_separates.Goals as goal

pub returns-clause-separates : goal.returns-clause-separates
returns-clause-separates c = λ lts places left. left_separates lts [] places left

pub returns-clause-needed : goal.returns-clause-needed
returns-clause-needed c = λ lts places left. left_needed lts [] places left

pub returns-clause-among : goal.returns-clause-among
returns-clause-among c = λ lts places left. left_among lts [] places left

pub returns-clause-no_more : goal.returns-clause-no_more
returns-clause-no_more c = λ lts places left. left_no_more lts [] places left
