use Rattle.std.proofs.Common.{◌≡◌, length}
use Rattle.rg_branch_tests.proofs.plain.system_of.Given as goal

abbrev pub invariant-loop-row : goal.invariant-loop-row
invariant-loop-row l = length l.told.items ≡ l.row-index
