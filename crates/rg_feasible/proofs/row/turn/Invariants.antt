use Rattle.std.proofs.Common.{◌≡◌, ℕ, ◌<◌}
use Rattle.std.specs.Prelude.{neg_ℤ}
use Rattle.rg_integers.specs.Range.{InRange}
use Rattle.rg_integers.specs.Sum.{number_at}
use Rattle.rg_feasible.proofs.row.turn.Given as goal

abbrev pub invariant-loop-n : goal.invariant-loop-n
invariant-loop-n l = record {
  done : (k : ℕ) → k < l.n → number_at l.row k ≡ neg_ℤ (number_at l.pivot k);
  in_range : (k : ℕ) → k < l.n → InRange (number_at l.row k);
}
