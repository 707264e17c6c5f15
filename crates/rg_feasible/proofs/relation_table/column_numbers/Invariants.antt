use Rattle.std.proofs.Common.{◌≡◌}
use Rattle.rg_linear.specs.Dictionary.{numbers_from}
use Rattle.rg_feasible.proofs.relation_table.column_numbers.Given as goal

abbrev pub invariant-loop-column : goal.invariant-loop-column
invariant-loop-column l = l.members.items ≡ numbers_from 0 l.column
