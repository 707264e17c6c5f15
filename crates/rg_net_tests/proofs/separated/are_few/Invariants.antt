use Rattle.std.proofs.Common.{◌≤◌}
use Rattle.std.specs.List.{AllWithin}
use Rattle.rg_integers.specs.Range.{greatest}
use Rattle.rg_net_tests.proofs.separated.are_few.Given as goal

abbrev pub invariant-loop-n : goal.invariant-loop-n
invariant-loop-n l = AllWithin (λ n. n ≤ greatest) l.tokens 0 l.n-index
