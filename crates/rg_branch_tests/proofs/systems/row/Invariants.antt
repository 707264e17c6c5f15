use Rattle.std.proofs.Common.{◌≡◌, All, length}
use Rattle.rg_integers.specs.Range.{InRange}
use Rattle.rg_branch_tests.proofs.systems.row.Given as goal

abbrev pub invariant-loop-j : goal.invariant-loop-j
invariant-loop-j l = record {
  count : length l.coeffs.items ≡ l.j;
  in_range : All InRange l.coeffs.items;
}
