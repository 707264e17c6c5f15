use Rattle.std.proofs.Common.{◌∙◌}
use Rattle.rg_branch.proofs.dictionaries.copy.Goals as goal

pub returns : goal.returns
returns c = λ system columns at. record { columns = c.in_ok-copy.ensures.columns ∙ columns; saved = c.in_ok-copy.ensures.point system (at c.if-not-at_point.false) }
