use Rattle.std.proofs.Common.{ap, ◌∙◌}
use Rattle.rg_rows.specs.Hashing.{numbers_hash}
use Rattle.rg_rows.proofs.Hashing.{numbers_differ}
use Rattle.rg_rows.proofs.row_numbers.RowNumbersPartialEq.eq.Goals as goal

pub returns-else-self-other : goal.returns-else-self-other
returns-else-self-other c = numbers_differ c.args.self.now c.args.other.now c.self.inside.hash c.other.inside.hash
    (c.self.invariant ∙ ap numbers_hash c.self.view_is) (c.other.invariant ∙ ap numbers_hash c.other.view_is) c.if-self-other.false
