use Rattle.std.proofs.Common.{rules}
use Rattle.std.specs.Prelude.{unsigned_abs}
use Rattle.rg_revised.proofs.Unchanged.{zero_stays}
use Rattle.rg_revised.proofs.row.renew_row.Goals as goal

pub returns-then-size-d-clause-renewed : goal.returns-then-size-d-clause-renewed
returns-then-size-d-clause-renewed c = λ yes. zero_stays c.args.pivot.now.numbers.now c.args.row.now c.args.pivot.now.p c.args.pivot.now.negative c.args.d.value
    (unsigned_abs c.args.most) (search rules) (search rules) c.requires.within

pub returns-clause-support : goal.returns-clause-support
returns-clause-support c = λ before. c.forget.ensures c.renew_each.new.row
