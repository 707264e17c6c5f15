use Rattle.std.proofs.Common.{◌≡◌, ℕ, ◌<◌, ◌≤◌}
use Rattle.rg_integers.specs.Term.{term_value}
use Rattle.rg_integers.specs.Sum.{number_at}
use Rattle.rg_fraction.specs.Rows.{row_term}
use Rattle.rg_fraction.proofs.row.cross.Given as goal

abbrev pub invariant-loop-i : goal.invariant-loop-i
invariant-loop-i l = record {
  done : (k : ℕ) → k < l.i → number_at l.q k ≡ term_value (row_term l.p l.fn.q l.j k);
  left : (k : ℕ) → l.i ≤ k → number_at l.q k ≡ number_at l.fn.q k;
}
