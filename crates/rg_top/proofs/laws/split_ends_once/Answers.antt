use Rattle.rg_top.proofs.SplitOnce.{split_once, split_due}
use Rattle.rg_top.proofs.laws.split_ends_once.Goals as goal

pub returns-clause-once : goal.returns-clause-once
returns-clause-once c = split_once (record { one = c.splitting_is_one.ensures.one; state = c.splitting_says.ensures.state })

pub returns-clause-due : goal.returns-clause-due
returns-clause-due c = split_due (record { one = c.splitting_is_one.ensures.one; state = c.splitting_says.ensures.state })
