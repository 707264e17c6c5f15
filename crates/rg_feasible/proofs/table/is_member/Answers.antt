use Rattle.std.proofs.Common.{Contains, subst}
use Rattle.rg_linear.proofs.MemberIndices.{found_or_not, member_at}
use Rattle.rg_feasible.proofs.table.is_member.Goals as goal

pub returns : goal.returns
returns c =
    let found = found_or_not c.args.members.now c.members_below-below.result c.args.variable c.members_below-below.ensures.below c.members_below-below.ensures.others c.requires in
    (λ h. let here = c.stands_at.ensures.0 h in subst (Contains c.args.members.now) here.1 (member_at c.args.members.now c.members_below-below.result here.0), λ has. c.stands_at.ensures.1 (found has))
