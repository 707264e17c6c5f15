use Rattle.std.proofs.Common.{◌≡◌, ℕ, ◌<◌, length}
use Rattle.std.specs.Prelude.{◌*ℤ◌}
use Rattle.rg_integers.specs.Range.{InRange}
use Rattle.rg_integers.specs.Sign.{sign}
use Rattle.rg_integers.specs.Sum.{number_at}
use Rattle.rg_feasible.proofs.row.copy_signed.Given as goal

abbrev pub invariant-loop-n : goal.invariant-loop-n
invariant-loop-n l = record {
  same_length : length l.signed ≡ length l.row;
  done : (k : ℕ) → k < l.n → number_at l.signed k ≡ sign (number_at l.row l.p) *ℤ number_at l.row k;
  in_range : (k : ℕ) → k < l.n → InRange (number_at l.signed k);
}
