use Rattle.rg_linear.proofs.MemberIndices.{index_behind, index_before}
use Rattle.rg_feasible.proofs.table.new_index.Goals as goal

pub returns-then-index-below-clause-value : goal.returns-then-index-below-clause-value
returns-then-index-below-clause-value c = index_behind c.args.members.now c.args.index c.members_below-below.result c.args.pivot c.requires.ordered c.requires.index
    c.members_below-below.ensures.bound c.requires.outside c.members_below-below.ensures.below c.members_below-below.ensures.others c.if-index-below.true

pub returns-else-index-below-clause-value : goal.returns-else-index-below-clause-value
returns-else-index-below-clause-value c = index_before c.args.members.now c.args.index c.members_below-below.result c.args.pivot c.requires.ordered c.requires.index
    c.members_below-below.ensures.bound c.requires.outside c.members_below-below.ensures.below c.members_below-below.ensures.others c.if-index-below.false
