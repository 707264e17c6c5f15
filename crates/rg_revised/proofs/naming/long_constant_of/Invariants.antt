use Rattle.std.proofs.Common.{◌≡◌, take}
use Rattle.std.specs.Prelude.{◌+ℤ◌, ◌*ℤ◌}
use Rattle.rg_integers.specs.Sum.{number_at, sum_over}
use Rattle.rg_revised.proofs.naming.long_constant_of.Given as goal

abbrev pub invariant-loop-k : goal.invariant-loop-k
invariant-loop-k l = l.sum ≡ sum_over (λ t. number_at l.coeffs t *ℤ number_at l.constants t) (take l.k l.named) +ℤ (l.constant *ℤ l.d)
