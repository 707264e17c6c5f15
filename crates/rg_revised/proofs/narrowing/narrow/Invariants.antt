use Rattle.std.proofs.Common.{◌≡◌, ℕ, suc, ◌-◌, ◌^◌, ◌<◌, ◌≤◌, length}
use Rattle.std.specs.Prelude.{unsigned_abs}
use Rattle.rg_integers.specs.Sum.{number_at}
use Rattle.rg_revised.proofs.narrowing.narrow.Given as goal

abbrev pub invariant-loop-n : goal.invariant-loop-n
invariant-loop-n l = record {
  same_length : length l.numbers ≡ length l.fn.numbers;
  done : (k : ℕ) → k < l.n → number_at l.numbers k ≡ number_at l.long (suc k);
  small : (k : ℕ) → k < l.n → unsigned_abs (number_at l.numbers k) ≤ 2 ^ 63 - 1;
}
