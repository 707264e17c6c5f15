use Rattle.std.proofs.Common.{arith}
use Rattle.rg_linear.proofs.Members.{columns_numbered}
use Rattle.rg_feasible.proofs.relation_table.number_columns.Goals as goal

pub returns : goal.returns
returns c = columns_numbered c.loop-column.members _ c.loop-column.invariant.same_length (λ k lt. c.loop-column.invariant.done k (omega arith))
