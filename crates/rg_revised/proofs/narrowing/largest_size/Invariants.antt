use Rattle.std.proofs.Common.{ℕ, ◌<◌, ◌≤◌}
use Rattle.std.specs.Prelude.{pos, ◌<ℤ◌, unsigned_abs}
use Rattle.rg_integers.specs.Sum.{number_at}
use Rattle.rg_revised.proofs.narrowing.largest_size.Given as goal

abbrev pub invariant-loop-n : goal.invariant-loop-n
invariant-loop-n l = record {
  positive : pos 0 <ℤ l.largest;
  within : (k : ℕ) → k < l.n → unsigned_abs (number_at l.numbers k) ≤ unsigned_abs l.largest;
}
