use Rattle.std.proofs.Common.{◌≡◌, ℕ, ◌<◌, ◌≤◌, if◌then◌else◌, true, length}
use Rattle.std.specs.Prelude.{neg_ℤ}
use Rattle.rg_integers.specs.Sum.{number_at}
use Rattle.rg_revised.proofs.FewIndices.{AreFewBelow}
use Rattle.rg_revised.proofs.pivot.list_signed.Given as goal

abbrev pub invariant-loop-n : goal.invariant-loop-n
invariant-loop-n l = record {
  same_length : length l.numbers ≡ length l.fn.numbers;
  done : (k : ℕ) → k < l.n → number_at l.numbers k ≡ (if l.negative then neg_ℤ (number_at l.fn.numbers k) else number_at l.fn.numbers k);
  left : (k : ℕ) → l.n ≤ k → number_at l.numbers k ≡ number_at l.fn.numbers k;
  few : l.listed ≡ true → AreFewBelow l.fn.numbers l.few.indices l.few.count l.n;
  size : length l.few.indices ≡ 64;
}
